use Rattle.std.proofs.Common.{[], ◌∷◌}
use Rattle.remote_tape.specs.declared.peer.Passed.TheVariants.{Connected, Ended}
use Rattle.rmt_tools.proofs.Logging.{after_none, none_where}
use Rattle.rmt_tools.proofs.Renewing.{stays_cleared}
use Rattle.rmt_tools.proofs.memory_peer.MemoryPeerPeer.connect.Goals as goal

pub returns-clause-told : goal.returns-clause-told
returns-clause-told c =
    let none = none_where c.args.self.now.log c.open.new.self.log c.open.result (Connected ∷ []) c.if-open.false c.open.ensures.told in
    after_none c.args.self.now.log c.open.new.self.log c.cut.new.self.log (Ended ∷ []) none c.cut.ensures.told

pub returns-clause-cleared : goal.returns-clause-cleared
returns-clause-cleared c =
    let was = c.args.self.now in
    let begun = c.open.new.self in
    let end = c.cut.new.self in
    stays_cleared was.drives was.session begun.drives begun.session end.drives end.session c.open.ensures.fresh c.open.ensures.cleared c.cut.ensures.closed
