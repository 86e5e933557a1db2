-- The limits of a run and of its id, as their fields need them.
use Rattle.dump_run.proofs.Words.{◌<◌, ◌≤◌, ◌^◌, length, arith, PlainRun, IsRun}
use Rattle.dump_run.specs.DumpId.{IsDumpId, plain_id}

pub number_of_run : (r : PlainRun) → IsRun r → (length r.device ≤ 255) × (r.blocks < 2 ^ 32)
number_of_run r is = (is.device.0.1, omega (arith, is.blocks))

-- the id of a run is within its limits
pub id_of_run : (r : PlainRun) → IsRun r → IsDumpId (plain_id r.name r.level r.date r.since)
id_of_run r is = record { name = is.name; level = is.level; date = is.date; since = is.since }
