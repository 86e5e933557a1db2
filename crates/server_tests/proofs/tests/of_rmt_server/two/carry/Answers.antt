use Rattle.server_tests.proofs.tests.of_rmt_server.two.carry.Goals as goal

pub returns-clause-other : goal.returns-clause-other
returns-clause-other c =
    let carried = c.carry_out.follows.holds-at-none in
    c.one_holder.ensures.others _ _ _ _ _ c.requires.at c.requires.other c.requires.apart carried.at carried.kept
