use Rattle.std.proofs.Common.{refl}
use Rattle.rmtd_serve.proofs.at.serve_timed.Goals as goal

pub returns : goal.returns
returns g c = (c.serve_afresh-seat.result.1, c.serve_afresh-seat.new.drives, c.serve_afresh-seat.ensures, refl)
