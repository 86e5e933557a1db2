use Rattle.world_host.proofs.Names.{plain_request, plain_reply, state}
use Rattle.world_host.proofs.Carrying.{carried_so}
use Rattle.world_host.proofs.serving.carry.Goals as goal

pub returns : goal.returns
returns c =
    let old = state c.args.drives.now c.args.session.now in (
      plain_reply c.carry_out.result,
      rw c.clear_troubles.ensures
          (carried_so c.troubles_set.ensures c.one_session_view.ensures c.troubled_serve.ensures c.args.trouble (plain_request c.args.request) _ _ _
          old _
          (c.place-reel.ensures old) c.requires.untroubled (rw c.set_troubles.ensures at c.carry_out.follows.holds-at-none)),
      c.new-carried.ensures,
      c.send_back.ensures,
    )
