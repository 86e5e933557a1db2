use Rattle.std.proofs.Common.{Bool, true, false, ℕ, List, [], ◌∷◌, map, refl}
use Rattle.remote_tape.specs.Peer.{AreBytesSent}
use Rattle.remote_tape.specs.declared.peer.Passed.{Passed}
use Rattle.remote_tape.specs.declared.peer.Passed.TheVariants.{Sent, Ended}
use Rattle.client_tests.proofs.tests.fake.FakePeerPeer.send.Goals as goal

-- what may have been passed to a peer: all bytes, or none of them and an end
some_sent : (bytes : List ℕ) (whole : Bool) → (passed : List Passed) × AreBytesSent bytes whole passed
some_sent bytes true = (map Sent bytes, refl)
some_sent bytes false = (Ended ∷ [], (0, refl))

pub returns : goal.returns
returns c =
    let sent = some_sent c.args.bytes.now c.is_ok.result in
    (sent.0, sent.1, λ log h. h)
