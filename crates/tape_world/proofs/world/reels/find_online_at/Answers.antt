use Rattle.tape_world.proofs.Layers.{rules, sym, ap, drive_in}
use Rattle.rmt_server.specs.Memory.{session_seen}
use Rattle.rmt_server.specs.State.{IsOnline}
use Rattle.tape_world.proofs.Online.{drive_there}
use Rattle.tape_world.proofs.world.reels.find_online_at.Goals as goal

pub stack-requires : goal.stack-requires
stack-requires c =
    let online : IsOnline c.in_ok-session.session.now.opened c.in_ok-drive.drive c.in_ok-drive.reel.now = search rules in
    let seen = c.in_ok-session.ensures.seen in
    drive_there c.args.host.now.server c.args.connection c.in_ok-drive.drive (session_seen c.in_ok-session.session.now.opened) c.requires (sym seen)
    (ap (λ o. drive_in (session_seen o)) online.1)
