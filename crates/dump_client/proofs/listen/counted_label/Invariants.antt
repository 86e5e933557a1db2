use Rattle.dump_client.proofs.Attempt.{◌≡◌, drop}
use Rattle.dump_client.specs.Script as script
use Rattle.dump_client.proofs.listen.counted_label.Given as goal

abbrev pub invariant-loop-count : goal.invariant-loop-count
invariant-loop-count l = script.counted_label l.run l.counts l.bytes ≡ script.counted_label l.run (drop l.count-index l.counts) l.bytes
