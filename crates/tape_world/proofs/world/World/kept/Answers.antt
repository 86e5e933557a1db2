use Rattle.tape_world.proofs.Layers.{common_steps, arith, subst, NoTwoHolders, SentRequests, ReelsNotReopened, OwnOpens}
use Rattle.tape_world.proofs.Volumes.{volumes_told}
use Rattle.tape_world.proofs.world.World.kept.Goals as goal
use Rattle.world_model.specs.Restores.{DumpsComeBack}

pub returns-clause-no_two_holders : goal.returns-clause-no_two_holders
returns-clause-no_two_holders c =
    subst NoTwoHolders c.self.view_is (c.kept.ensures.no_two_holders c.self.inside.world_state (c.kept.ensures.reached _ c.self.invariant))

pub returns-clause-sent_requests : goal.returns-clause-sent_requests
returns-clause-sent_requests c =
    subst SentRequests c.self.view_is (c.kept.ensures.sent_requests c.self.inside.world_state (c.kept.ensures.reached _ c.self.invariant))

pub returns-clause-reels_not_reopened : goal.returns-clause-reels_not_reopened
returns-clause-reels_not_reopened c =
    subst ReelsNotReopened c.self.view_is (c.kept.ensures.reels_not_reopened c.self.inside.world_state (c.kept.ensures.reached _ c.self.invariant))

pub returns-clause-own_opens : goal.returns-clause-own_opens
returns-clause-own_opens c =
    subst OwnOpens c.self.view_is (c.kept.ensures.own_opens c.self.inside.world_state (c.kept.ensures.reached _ c.self.invariant))

pub returns-clause-dumps_come_back : goal.returns-clause-dumps_come_back
returns-clause-dumps_come_back c =
    subst DumpsComeBack c.self.view_is (c.kept.ensures.dumps_come_back c.self.inside.world_state (c.kept.ensures.reached _ c.self.invariant))

pub returns-clause-volumes_told : goal.returns-clause-volumes_told
returns-clause-volumes_told c = grind (arith, common_steps, volumes_told)
