-- What passes between a caller and a peer that keeps a log. `p` and `p'` are the peer before and
-- after, and `tells` relates a peer to what passed so far. Public contracts cite it.
use Rattle.std.specs.Prelude.{◌≡◌, ℕ, Bool, true, false, List, [], ◌∷◌, ◌++◌, map, take}
use Rattle.remote_tape.specs.declared.peer.Passed.{Passed}
use Rattle.remote_tape.specs.declared.peer.Passed.TheVariants.{Connected, Sent, Given, Ended}

-- `passed` was appended to the peer's log
abbrev pub Logs : {P : Type 0} → (P → List Passed → Type 0) → P → P → List Passed → Type 0
Logs tells old new passed = (log : List Passed) → tells old log → tells new (log ++ passed)

-- what connecting logs: the connection was made, or it could not be
abbrev pub connected : Bool → List Passed
connected true = Connected ∷ []
connected false = Ended ∷ []

-- all of the bytes were sent, or a first part of them, and then the connection ended
abbrev pub AreBytesSent : List ℕ → Bool → List Passed → Type 0
AreBytesSent bytes true passed = passed ≡ map Sent bytes
AreBytesSent bytes false passed = (n : ℕ) × (passed ≡ map Sent (take n bytes) ++ Ended ∷ [])

-- what receiving logs: the bytes that came into this room; no bytes, though there is room, are the
-- end of the connection
abbrev pub given : List ℕ → List ℕ → List Passed
given [] bytes = []
given (r ∷ room) [] = Ended ∷ []
given (r ∷ room) (b ∷ bytes) = map Given (b ∷ bytes)
