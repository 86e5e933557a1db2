-- Two ways to take one list apart.
use Rattle.rmt_wire.proofs.Words.{List, [], arith, inl, inr, refl, ℕ, ⊎_elim, ◌++◌, ◌<◌, ◌∷◌, ◌≡◌, ◌≢◌, ◌⊎◌, digit_value, AllDigits, line_feed, HasNoLineFeed}

pub no_cons : (x : ℕ) (xs : List ℕ) → x ∷ xs ≡ [] → ⊥
no_cons x xs e = cc

-- two texts that each end before a byte: one of them goes on where the other ends, or they are the same
abbrev pub Align : List ℕ → List ℕ → ℕ → ℕ → List ℕ → List ℕ → Type 0
Align p q a b x y = ((t : List ℕ) × (q ≡ p ++ a ∷ t)) ⊎ (((t : List ℕ) × (p ≡ q ++ b ∷ t)) ⊎ ((p ≡ q) × (a ≡ b) × (x ≡ y)))

pub align : (p q : List ℕ) (a b : ℕ) (x y : List ℕ) → p ++ a ∷ x ≡ q ++ b ∷ y → Align p q a b x y
align [] [] a b x y e = inr (inr (refl, (cc), (cc)))
align [] (c ∷ q) a b x y e = inl (q, (cc))
align (c ∷ p) [] a b x y e = inr (inl (p, (cc)))
align (c ∷ p) (d ∷ q) a b x y e =
    let tails : p ++ a ∷ x ≡ q ++ b ∷ y = cc in
    ⊎_elim (λ w. inl (w.0, (cc w.1))) (⊎_elim (λ w. inr (inl (w.0, (cc w.1)))) (λ w. inr (inr ((cc w.0), w.1, w.2)))) (align p q a b x y tails)

pub no_feed_append : (p t : List ℕ) → HasNoLineFeed p → HasNoLineFeed t → HasNoLineFeed (p ++ t)
no_feed_append [] t h k = k
no_feed_append (x ∷ p) t h k = (h.0, no_feed_append p t h.1 k)

digit_no_feed : (d : ℕ) → digit_value d < 10 → d ≢ line_feed
digit_no_feed d h e = let k : digit_value line_feed < 10 = rw e at h in absurd (omega arith)

pub digits_no_feed : (digits : List ℕ) → AllDigits 10 digits → HasNoLineFeed digits
digits_no_feed [] h = tt
digits_no_feed (d ∷ digits) h = (digit_no_feed d h.0, digits_no_feed digits h.1)
