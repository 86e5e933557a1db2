use Rattle.rmt_wire.proofs.Words.{arith, take_rest}
use Rattle.rmt_wire.proofs.WriteLines.{dropped_is}
use Rattle.rmt_wire.proofs.Nexts.{room_at}
use Rattle.rmt_wire.proofs.request.reader.RequestReader.room.Goals as goal

pub returns : goal.returns
returns c = λ bytes u. grind (arith, take_rest, dropped_is, room_at)
