-- A sink that prints the label of a volume to `out`, and writes the records after it to `file`.
use Rattle.std.specs.Prelude.{◌≡◌, ℕ, Bool, List, Option}
use Rattle.rdump_net.specs.Reading.{text_of}
use Rattle.rdump_net.specs.Sink.{SinkCall}
use Rattle.rdump_net.specs.Sink.SinkCall.{Label, Block, Mark, Complete}
use Rattle.rmt_wire.specs.Print.{IsPrinted}
use Rattle.rdump_net.specs.declared.printing_sink.Outputs.{Outputs}

-- the sink still has the same two streams
pub record Keeps {F W : Type 0} (s s' : Outputs F W) : Type 0 where
  pub file : s'.file.ghost_name ≡ s.file.ghost_name
  pub out : s'.out.ghost_name ≡ s.out.ghost_name

-- what a call does to the streams, and whether it is accepted
abbrev pub TakesPrinted : {F W : Type 0} → (F → Option (List ℕ)) → (W → Option (List ℕ)) → Outputs F W → Outputs F W → SinkCall → Bool → Type 0
TakesPrinted filed contents s s' (Label bytes) accepted =
    IsPrinted contents (text_of bytes) s.out.now s'.out.now accepted × (s'.file.now ≡ s.file.now) × Keeps s s'
TakesPrinted filed contents s s' (Block number bytes) accepted =
    IsPrinted filed bytes s.file.now s'.file.now accepted × (s'.out.now ≡ s.out.now) × Keeps s s'
TakesPrinted filed contents s s' Mark accepted = (s'.file.now ≡ s.file.now) × (s'.out.now ≡ s.out.now) × Keeps s s'
TakesPrinted filed contents s s' Complete accepted = (s'.file.now ≡ s.file.now) × (s'.out.now ≡ s.out.now) × Keeps s s'
