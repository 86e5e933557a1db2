-- A time of day, as the eight bytes that it is written with.
use Rattle.dumpdates.proofs.Terms.{◌≡◌, ℕ, List, [], ◌∷◌, ◌++◌, length, get_or, take, drop, refl, arith, SpellsDigits, SpellsTime, colon}

-- two colons among eight bytes, and two digits in each part
pub record IsTime (word : List ℕ) (h m s : ℕ) : Type 0 where
  pub long : length word ≡ 8
  pub first : get_or word 2 0 ≡ colon
  pub second : get_or word 5 0 ≡ colon
  pub hour : SpellsDigits 2 2 (take 2 word) h
  pub minute : SpellsDigits 2 2 (take 2 (drop 3 word)) m
  pub seconds : SpellsDigits 2 2 (drop 6 word) s

joined_is_time : (hours minutes seconds : List ℕ) (h m s : ℕ) → SpellsDigits 2 2 hours h → SpellsDigits 2 2 minutes m → SpellsDigits 2 2 seconds s
    → IsTime (hours ++ (colon ∷ (minutes ++ (colon ∷ seconds)))) h m s
joined_is_time (a ∷ b ∷ []) (c ∷ d ∷ []) (e ∷ f ∷ []) h m s x y z =
    record { long = refl; first = refl; second = refl; hour = x; minute = y; seconds = z }
joined_is_time hours minutes seconds h m s x y z = let a = x.count in let b = y.count in let c = z.count in absurd (omega arith)

pub spelled_is_time : (word : List ℕ) (h m s : ℕ) → SpellsTime word h m s → IsTime word h m s
spelled_is_time word h m s t = rw t.joined (joined_is_time t.hours t.minutes t.seconds h m s t.hour t.minute t.second)

pub time_spelled : (word : List ℕ) (h m s : ℕ) → IsTime word h m s → SpellsTime word h m s
time_spelled (a ∷ b ∷ x ∷ c ∷ d ∷ y ∷ e ∷ f ∷ []) h m s t = record {
  hours = a ∷ b ∷ [];
  minutes = c ∷ d ∷ [];
  seconds = e ∷ f ∷ [];
  hour = t.hour;
  minute = t.minute;
  second = t.seconds;
  joined = rw (t.first, t.second) refl;
}
time_spelled word h m s t = absurd (omega (arith, t.long))
