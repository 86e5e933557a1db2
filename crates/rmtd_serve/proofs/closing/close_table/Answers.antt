use Rattle.rmtd_serve.proofs.Closed.{free, back}
use Rattle.rmtd_serve.proofs.closing.close_table.Goals as goal

pub returns-clause-free : goal.returns-clause-free
returns-clause-free c = λ all idle. free _ _ c.close-words.ensures idle all

pub returns-clause-back : goal.returns-clause-back
returns-clause-back c = λ idle. back _ _ c.close-words.ensures idle
