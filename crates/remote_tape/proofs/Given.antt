-- What a read into some room gives.
use Rattle.remote_tape.proofs.Words.{zero, suc, ℕ, List, [], ◌∷◌, ◌≡◌, ◌≢◌, ◌<◌, ◌≤◌, length, map, take, refl, arith, given, Ended, Given}

-- a read into some room gives the bytes that came, or if none came, the end
pub some_given : (room : List ℕ) (n : ℕ) → n ≤ length room → n ≢ 0 → given room (take n room) ≡ map Given (take n room)
some_given [] n within some = absurd (some (omega (arith, within)))
some_given (r ∷ room) zero within some = absurd (some refl)
some_given (r ∷ room) (suc n) within some = refl

pub none_given : (room : List ℕ) (n : ℕ) → 0 < length room → n ≡ 0 → given room (take n room) ≡ Ended ∷ []
none_given [] n some e = absurd (omega (arith, some))
none_given (r ∷ room) n some e = rw e refl
