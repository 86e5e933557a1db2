use Rattle.rdump_net.proofs.Words.{ℕ, List, Bool, PlainReply, IsVolumeReading, AfterVolume, next_of}
use Rattle.rdump_net.proofs.Reading.{GivenTo}
use Rattle.rdump_net.proofs.volume.give_records.Given as goal

abbrev pub invariant-loop-records : goal.invariant-loop-records
invariant-loop-records g l =
    (device : List ℕ) (after : AfterVolume) (completed : Bool) (replies : List PlainReply) → IsVolumeReading 1 replies
    → GivenTo (next_of device after completed) g.P.Peer.tells g.S.VolumeSink.takes replies l.fn.peer l.peer l.fn.sink l.sink l.records
