use Rattle.remote_tape.proofs.Words.{plain_reply, plain_request}
use Rattle.remote_tape.proofs.Calls.{number_called, unkept_called}
use Rattle.remote_tape.proofs.tape.RemoteTape.call.Goals as goal

pub returns-in-Ok-keep : goal.returns-in-Ok-keep
returns-in-Ok-keep g c =
    number_called g.P.Peer.tells (plain_request c.args.request.now) c.in-Ok-keep.answer (plain_reply c.in-Ok.reply) c.requires.number c.in-Ok-keep.ensures c.in-Ok.ensures

pub returns-in-Err-keep : goal.returns-in-Err-keep
returns-in-Err-keep g c = unkept_called g.P.Peer.tells (plain_request c.args.request.now) (plain_reply c.in-Ok.reply) c.in-Ok.ensures
