-- A peer with what is written to, at one time, and their logs. A peer is the far end
-- of a connection: what is sent over it goes through that connection. Public contracts cite it.
use Rattle.std.specs.Prelude.{ℕ, Bool, List, Option}
use Rattle.rmt_wire.specs.Counted.{Counting}
use Rattle.rdump_net.specs.Sink.{SinkCall}
use Rattle.remote_tape.specs.declared.peer.Passed.{Passed}

-- a peer, and one output stream
pub record StreamEnds (P W : Type 0) : Type 0 where
  pub peer : P
  pub out : Counting W

-- makes a `StreamEnds`
abbrev pub stream_ends : {P W : Type 0} → P → Counting W → StreamEnds P W
stream_ends peer out = record { peer = peer; out = out }

-- the logs of these two: what passed at the peer, and what the stream holds
pub record StreamKind (P W : Type 0) : Type 1 where
  pub tells : P → List Passed → Type 0
  pub contents : W → Option (List ℕ)

-- makes a `StreamKind`
abbrev pub stream_kind : {P W : Type 0} → (P → List Passed → Type 0) → (W → Option (List ℕ)) → StreamKind P W
stream_kind tells contents = record { tells = tells; contents = contents }

-- a peer, the file and the output
pub record CopyEnds (P F W : Type 0) : Type 0 where
  pub peer : P
  pub file : Counting F
  pub out : Counting W

-- makes a `CopyEnds`
abbrev pub copy_ends : {P F W : Type 0} → P → Counting F → Counting W → CopyEnds P F W
copy_ends peer file out = record { peer = peer; file = file; out = out }

-- the logs of these three: what passed at the peer, and what the file and the output hold
pub record CopyKind (P F W : Type 0) : Type 1 where
  pub tells : P → List Passed → Type 0
  pub filed : F → Option (List ℕ)
  pub contents : W → Option (List ℕ)

-- makes a `CopyKind`
abbrev pub copy_kind : {P F W : Type 0} → (P → List Passed → Type 0) → (F → Option (List ℕ)) → (W → Option (List ℕ)) → CopyKind P F W
copy_kind tells filed contents = record { tells = tells; filed = filed; contents = contents }

-- a peer, and the sink of a volume
pub record SinkEnds (P S : Type 0) : Type 0 where
  pub peer : P
  pub sink : S

-- makes a `SinkEnds`
abbrev pub sink_ends : {P S : Type 0} → P → S → SinkEnds P S
sink_ends peer sink = record { peer = peer; sink = sink }

-- what passed at the peer, and what the calls of the sink do to it
pub record SinkKind (P S : Type 0) : Type 1 where
  pub tells : P → List Passed → Type 0
  pub takes : S → S → SinkCall → Bool → Type 0

-- makes a `SinkKind`
abbrev pub sink_kind : {P S : Type 0} → (P → List Passed → Type 0) → (S → S → SinkCall → Bool → Type 0) → SinkKind P S
sink_kind tells takes = record { tells = tells; takes = takes }
