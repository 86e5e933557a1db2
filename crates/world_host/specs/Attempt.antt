-- The progress of an attempt of the client, as events change it. Public contracts cite it.
use Rattle.std.specs.Prelude.{ℕ, zero, suc, true, false}
use Rattle.rmt_wire.specs.Counted.{raised}
use Rattle.world_host.specs.declared.turn.RequestKind.{RequestKind}
use Rattle.world_host.specs.declared.turn.RequestKind.TheVariants as asked
use Rattle.world_host.specs.declared.turn.Answered.{Answered}
use Rattle.world_host.specs.declared.turn.Answered.TheVariants as said
use Rattle.world_host.specs.declared.turn.Carried.{Carried}
use Rattle.world_model.specs.World.{AttemptState}
use Rattle.world_model.specs.Changes.{accepted, noted_error}

-- an attempt that has done nothing
abbrev pub new_dumping : ℕ → ℕ → ℕ → AttemptState
new_dumping run volume first = record {
  run = run;
  volume = volume;
  first = first;
  sent = 0;
  carried = 0;
  label = false;
  blocks = 0;
  mark = false;
  fault = false;
}

-- an attempt after the reply to a write of a record
abbrev pub noted_record : AttemptState → Answered → AttemptState
noted_record d (said.Number zero) = d
noted_record d (said.Number (suc n)) = accepted d
noted_record d said.Data = d
noted_record d (said.Error n) = noted_error d n

-- an attempt after the reply to a write of marks
abbrev pub noted_mark : AttemptState → Answered → AttemptState
noted_mark d (said.Number n) = record d { mark = true }
noted_mark d said.Data = d
noted_mark d (said.Error n) = noted_error d n

-- the outcome of the attempt's writes after a request of this kind and its reply
abbrev pub noted_asked : AttemptState → RequestKind → Answered → AttemptState
noted_asked d (asked.Open writes) answer = d
noted_asked d asked.Write answer = noted_record d answer
noted_asked d asked.WriteDropped answer = d
noted_asked d asked.Marks answer = noted_mark d answer
noted_asked d asked.Other answer = d

-- an attempt after one of its requests was carried out
abbrev pub noted_carried : Carried → AttemptState → AttemptState
noted_carried c d = let d' = noted_asked d c.asked c.answered in record d' { carried = raised d'.carried }
