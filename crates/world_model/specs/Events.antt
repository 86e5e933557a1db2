-- The events of a world. Public contracts cite it.
use Rattle.std.specs.Prelude.{ℕ, Bool, List}
use Rattle.tape.specs.declared.trouble.Trouble.{Trouble}
use Rattle.dump_run.specs.Run.{PlainRun}
use Rattle.dump_client.specs.declared.stage.Answer.{Answer}

-- An event. Connections are identified by number, drives and reels by name.
pub data PlainEvent : Type 0 where
  -- a run with this payload begins
  StartRun : (run : PlainRun) → (payload : List ℕ) → PlainEvent
  -- the client starts an attempt, on a new connection
  Connect : PlainEvent
  -- the client sends its next request; if `fails`, and the request has a block, the read of that
  -- block fails instead
  Send : (fails : Bool) → PlainEvent
  -- `n` bytes reach the server on connection `k`
  ToServer : (k : ℕ) → (n : ℕ) → PlainEvent
  -- the server carries out one request of connection `k`, with this trouble injected, or finds a
  -- protocol fault
  Serve : (k : ℕ) → (trouble : Trouble) → PlainEvent
  -- `n` bytes reach the peer of connection `k`
  ToClient : (k : ℕ) → (n : ℕ) → PlainEvent
  -- from now on, what is sent on connection `k` is lost
  Cut : (k : ℕ) → PlainEvent
  -- the server sees that connection `k` ended
  EndAtServer : (k : ℕ) → PlainEvent
  -- the peer sees that connection `k` ended
  EndAtClient : (k : ℕ) → PlainEvent
  -- the server restarts, which ends all its sessions
  ServerRestart : PlainEvent
  -- the client restarts: it resumes the saved run, or has no run if none is saved
  ClientRestart : PlainEvent
  -- the operator answers the client
  Respond : (answer : Answer) → PlainEvent
  -- the operator puts these reels on the stack of a drive
  Arrange : (drive : List ℕ) → (reels : List (List ℕ)) → PlainEvent
  -- a stranger connects
  Stranger : PlainEvent
  -- a stranger sends these bytes on connection `k`
  Says : (k : ℕ) → (bytes : List ℕ) → PlainEvent
  -- a finished run is entered in dumpdates
  Enter : PlainEvent
  -- the run and the client's counts are saved outside the client
  Save : PlainEvent
