use Rattle.rmt_server.proofs.session.dispatch.dispatch.Goals as goal

pub returns-in-Open-clause-carried : goal.returns-in-Open-clause-carried
returns-in-Open-clause-carried g c = rw (c.in-Open.is, c.numbered.ensures.reply _) c.open.ensures.opens
