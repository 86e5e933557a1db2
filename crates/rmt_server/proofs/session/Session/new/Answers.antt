use Rattle.rmt_server.proofs.session.Session.new.Goals as goal

pub returns-in-Ok-clause-at : goal.returns-in-Ok-clause-at
returns-in-Ok-clause-at g c drives b e = record { own = b; enough = e; held = c.requires; below = λ d x. absurd cc; latched = λ d x. absurd cc }
