use Rattle.rmt_server.proofs.Sharing as sharing
use Rattle.rmt_server.proofs.laws.one_holder.Goals as goal

pub returns-clause-one : goal.returns-clause-one
returns-clause-one g c = sharing.has_one_holder g.S.Stacks g.S.Reel.Reel

pub returns-clause-others : goal.returns-clause-others
returns-clause-others g c = sharing.others_stay g.S.Stacks g.S.Reel.Reel
