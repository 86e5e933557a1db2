-- Facts about any grammar: how the front of bytes is read, and the results that a reader can return.
use Rattle.rmt_wire.proofs.Words.{Err, List, None, Ok, Some, [], ap, append-nil, append_assoc, drop, length, refl, subst, sym, ℕ, ⊎_elim, ◌++◌, ◌∙◌, ◌∷◌, ◌≡◌, drop_at, Parsed, after, WireFault}
use Rattle.rmt_wire.proofs.Align.{align}

-- what is read at the front of bytes: which bytes are a beginning of it, which bytes begin with it, and which
-- fault a byte is after a beginning
pub record Reading (A : Type 0) : Type 1 where
  pub front : List ℕ → Parsed A
  pub IsOpen : List ℕ → Type 0
  pub IsDone : List ℕ → A → Type 0
  pub IsCause : List ℕ → ℕ → WireFault → Type 0

-- after a beginning a byte is the fault, whatever follows it
pub record FaultSeen {A : Type 0} (r : Reading A) (bytes : List ℕ) (fault : WireFault) : Type 0 where
  pub seen : List ℕ
  pub byte : ℕ
  pub later : List ℕ
  pub split : bytes ≡ seen ++ byte ∷ later
  pub open_before : r.IsOpen seen
  pub cause : r.IsCause seen byte fault
  pub always : (more : List ℕ) → r.front (seen ++ byte ∷ more) ≡ Err fault

-- what the bytes are, by what is seen of them
abbrev pub View : {A : Type 0} → Reading A → List ℕ → Parsed A → Type 0
View r bytes (Ok None) = r.IsOpen bytes
View r bytes (Ok (Some a)) = r.IsDone bytes a
View r bytes (Err fault) = FaultSeen r bytes fault

-- the view of the front
abbrev pub Seen : {A : Type 0} → Reading A → List ℕ → Type 0
Seen r bytes = View r bytes (r.front bytes)

-- a first byte is a fault, whatever follows it
pub fault_first : {A : Type 0} (r : Reading A) (byte : ℕ) (later : List ℕ) (fault : WireFault) → r.IsOpen [] → r.IsCause [] byte fault
    → ((more : List ℕ) → r.front (byte ∷ more) ≡ Err fault) → Seen r (byte ∷ later)
fault_first r byte later fault none cause always = subst (View r (byte ∷ later)) (sym (always later))
    (record { seen = []; byte = byte; later = later; split = refl; open_before = none; cause = cause; always = always })

-- If bytes in front of others lead to what is read of the others, its view is a view of all of them.
module _ {A B : Type 0} (r : Reading A) (s : Reading B) (pre : List ℕ → List ℕ) (next : List ℕ → A → Parsed B)
    (moved : (a b : List ℕ) → pre (a ++ b) ≡ pre a ++ b) (whole : (t : List ℕ) → s.front (pre t) ≡ after (r.front t) (next t))
    (opens : (t : List ℕ) → r.IsOpen t → s.IsOpen (pre t))
    (causes : (t : List ℕ) (byte : ℕ) (fault : WireFault) → r.IsOpen t → r.IsCause t byte fault → s.IsCause (pre t) byte fault) where
  past_at : (bytes : List ℕ) (seen : Parsed A) → r.front bytes ≡ seen → View r bytes seen
      → ((a : A) → r.front bytes ≡ Ok (Some a) → r.IsDone bytes a → View s (pre bytes) (next bytes a)) → View s (pre bytes) (after seen (next bytes))
  past_at bytes (Ok None) e v done = opens bytes v
  past_at bytes (Ok (Some a)) e v done = done a e v
  past_at bytes (Err fault) e v done = record {
    seen = pre v.seen;
    byte = v.byte;
    later = v.later;
    split = ap pre v.split ∙ moved v.seen (v.byte ∷ v.later);
    open_before = opens v.seen v.open_before;
    cause = causes v.seen v.byte fault v.open_before v.cause;
    always = λ more.
        let t : List ℕ = v.seen ++ v.byte ∷ more in
        ap s.front (sym (moved v.seen (v.byte ∷ more))) ∙ whole t ∙ ap (λ x. after x (next t)) (v.always more);
  }

  pub past_with : (bytes : List ℕ) → Seen r bytes → ((a : A) → r.front bytes ≡ Ok (Some a) → r.IsDone bytes a → View s (pre bytes) (next bytes a))
      → Seen s (pre bytes)
  past_with bytes v done = subst (View s (pre bytes)) (sym (whole bytes)) (past_at bytes (r.front bytes) refl v done)

  -- the same where the view of all bytes is known once the others are read
  pub past : (bytes : List ℕ) → Seen r bytes → ((a : A) → r.IsDone bytes a → Seen s (pre bytes)) → Seen s (pre bytes)
  past bytes v done = past_with bytes v (λ a e d. subst (View s (pre bytes)) (whole bytes ∙ ap (λ x. after x (next bytes)) e) (done a d))

-- a grammar: which bytes spell a value, why a byte rules out every spelling, for which bytes a reader has room,
-- and the value that bytes begin with, and its length
pub record Grammar (A : Type 0) : Type 1 where
  pub Spells : List ℕ → A → Type 0
  pub IsCause : List ℕ → ℕ → WireFault → Type 0
  pub HasRoom : List ℕ → Type 0
  pub front : List ℕ → Parsed (A × ℕ)

-- more bytes can follow that make a value
abbrev pub IsPrefix : {A : Type 0} → Grammar A → List ℕ → Type 0
IsPrefix {A} g bytes = (more : List ℕ) × (a : A) × g.Spells (bytes ++ more) a

-- no beginning of the bytes spells a value
abbrev pub HasNone : {A : Type 0} → Grammar A → List ℕ → Type 0
HasNone {A} g bytes = (text rest : List ℕ) (a : A) → bytes ≡ text ++ rest → g.Spells text a → ⊥

-- the bytes begin with a spelling of a value, of this length
pub record Begins {A : Type 0} (g : Grammar A) (bytes : List ℕ) (p : A × ℕ) : Type 0 where
  pub text : List ℕ
  pub rest : List ℕ
  pub split : bytes ≡ text ++ rest
  pub spells : g.Spells text p.0
  pub long : p.1 ≡ length text

-- what is read of a grammar
abbrev pub reading : {A : Type 0} → Grammar A → Reading (A × ℕ)
reading g = record { front = g.front; IsOpen = λ bytes. IsPrefix g bytes × g.HasRoom bytes; IsDone = Begins g; IsCause = g.IsCause }

-- the first byte that rules out every value is this fault
pub record Hopeless {A : Type 0} (g : Grammar A) (bytes : List ℕ) (fault : WireFault) : Type 0 where
  pub seen : List ℕ
  pub byte : ℕ
  pub later : List ℕ
  pub split : bytes ≡ seen ++ byte ∷ later
  pub open_before : IsPrefix g seen
  pub hopeless : ¬ IsPrefix g (seen ++ byte ∷ [])
  pub cause : g.IsCause seen byte fault

-- what a reader gives of the bytes, and what it leaves
abbrev pub Gives : {A : Type 0} → Grammar A → List ℕ → Parsed A → List ℕ → Type 0
Gives g bytes (Ok (Some a)) rest = (text : List ℕ) × g.Spells text a × (bytes ≡ text ++ rest)
Gives g bytes (Ok None) rest = IsPrefix g bytes × HasNone g bytes × (rest ≡ bytes)
Gives g bytes (Err fault) rest = Hopeless g bytes fault × HasNone g bytes × (rest ≡ bytes)

-- what a reader answers to what is seen, and what is left after it
abbrev pub answer_to : {A : Type 0} → Parsed (A × ℕ) → Parsed A
answer_to (Ok None) = Ok None
answer_to (Ok (Some p)) = Ok (Some p.0)
answer_to (Err fault) = Err fault

abbrev pub rest_behind : {A : Type 0} → Parsed (A × ℕ) → List ℕ → List ℕ
rest_behind (Ok (Some p)) bytes = drop p.1 bytes
rest_behind other bytes = bytes

-- a beginning of a beginning is one
pub shorter : {A : Type 0} (g : Grammar A) (bytes more : List ℕ) → IsPrefix g (bytes ++ more) → IsPrefix g bytes
shorter g bytes more o = (more ++ o.0, o.1, subst (λ t. g.Spells t o.1) (append_assoc bytes more o.0) o.2)

-- each spelling is seen at the front of bytes, as it has to be
abbrev pub SpelledSeen : {A : Type 0} → Grammar A → Type 0
SpelledSeen {A} g = (text rest : List ℕ) (a : A) → g.Spells text a → g.front (text ++ rest) ≡ Ok (Some (a, length text))

-- the view of bytes that begin with a spelling
pub spelled_view : {A : Type 0} (g : Grammar A) → SpelledSeen g → (bytes text rest : List ℕ) (a : A) → bytes ≡ text ++ rest → g.Spells text a
    → Seen (reading g) bytes
spelled_view g seen bytes text rest a e s =
    subst (View (reading g) bytes) (sym (ap g.front e ∙ seen text rest a s)) (record { text = text; rest = rest; split = e; spells = s; long = refl })

found_same : {A : Type 0} (p q : A) → ◌≡◌ {A = Parsed A} (Ok (Some p)) (Ok (Some q)) → p ≡ q
found_same p q e = cc

rest_is : (bytes text rest : List ℕ) → bytes ≡ text ++ rest → drop (length text) bytes ≡ rest
rest_is bytes text rest e = ap (drop (length text)) e ∙ drop_at text rest (length text) refl

module _ {A : Type 0} (g : Grammar A) (spelled_seen : SpelledSeen g) where
  seen_at : (bytes text rest : List ℕ) (a : A) → bytes ≡ text ++ rest → g.Spells text a → g.front bytes ≡ Ok (Some (a, length text))
  seen_at bytes text rest a e s = ap g.front e ∙ spelled_seen text rest a s

  -- bytes begin with one spelling at most
  pub first_same : (bytes text rest text' rest' : List ℕ) (a b : A) → bytes ≡ text ++ rest → g.Spells text a → bytes ≡ text' ++ rest' → g.Spells text' b
      → (a ≡ b) × (rest ≡ rest')
  first_same bytes text rest text' rest' a b e s e' s' =
      let same : ◌≡◌ {A = A × ℕ} (a, length text) (b, length text') =
      found_same _ _ (sym (seen_at bytes text rest a e s) ∙ seen_at bytes text' rest' b e' s') in
      (ap (λ p. p.0) same, sym (rest_is bytes text rest e) ∙ ap (λ p. drop p.1 bytes) same ∙ rest_is bytes text' rest' e')

  -- no spelling goes on to be another
  pub one_text : (text more : List ℕ) (a b : A) → g.Spells text a → g.Spells (text ++ more) b → (more ≡ []) × (a ≡ b)
  one_text text more a b s t =
      let w = first_same (text ++ more) text more (text ++ more) [] a b refl s (sym (append-nil (text ++ more))) t in
      (w.1, w.0)

  -- bytes that are a fault whatever follows are no beginning
  not_open : (bytes : List ℕ) (fault : WireFault) → ((more : List ℕ) → g.front (bytes ++ more) ≡ Err fault) → ¬ IsPrefix g bytes
  not_open bytes fault always o =
      let h = seen_at (bytes ++ o.0) (bytes ++ o.0) [] o.1 (sym (append-nil (bytes ++ o.0))) o.2 in
      let k = always o.0 in
      cc

  gives_at : (bytes : List ℕ) (seen : Parsed (A × ℕ)) → g.front bytes ≡ seen → View (reading g) bytes seen
      → Gives g bytes (answer_to seen) (rest_behind seen bytes)
  gives_at bytes (Ok None) e v = (v.0, (λ text rest a is s. let h = seen_at bytes text rest a is s in cc), refl)
  gives_at bytes (Ok (Some p)) e v = (
    v.text,
    v.spells,
    v.split
        ∙ ap (λ t. v.text ++ t) (sym (ap (λ n. drop n bytes) v.long ∙ rest_is bytes v.text v.rest v.split)),
  )
  gives_at bytes (Err fault) e v = (
    record {
      seen = v.seen;
      byte = v.byte;
      later = v.later;
      split = v.split;
      open_before = v.open_before.0;
      hopeless = not_open (v.seen ++ v.byte ∷ []) fault (λ more. ap g.front (append_assoc v.seen (v.byte ∷ []) more) ∙ v.always more);
      cause = v.cause;
    },
    (λ text rest a is s. let h = seen_at bytes text rest a is s in cc),
    refl,
  )

  -- what is seen of the bytes is what a reader is to give of them
  pub gives_of : (bytes : List ℕ) (seen : Parsed (A × ℕ)) → Seen (reading g) bytes → g.front bytes ≡ seen
      → Gives g bytes (answer_to seen) (rest_behind seen bytes)
  gives_of bytes seen v e = gives_at bytes seen e (subst (View (reading g) bytes) e v)

-- a fault is seen whatever follows
pub faulty_always : {A : Type 0} (g : Grammar A) (bytes : List ℕ) (fault : WireFault) (more : List ℕ) → Seen (reading g) bytes → g.front bytes ≡ Err fault
    → g.front (bytes ++ more) ≡ Err fault
faulty_always g bytes fault more v e =
    let w : FaultSeen (reading g) bytes fault = subst (View (reading g) bytes) e v in
    ap g.front (ap (λ t. t ++ more) w.split ∙ append_assoc w.seen (w.byte ∷ w.later) more) ∙ w.always (w.later ++ more)

-- where a beginning is all that there is, there is room for more
pub room_of : {A : Type 0} (g : Grammar A) (bytes : List ℕ) → Seen (reading g) bytes → g.front bytes ≡ Ok None → g.HasRoom bytes
room_of g bytes v e = let w : IsPrefix g bytes × g.HasRoom bytes = subst (View (reading g) bytes) e v in w.1

-- no beginning goes on from a fault
pub none_past_fault : {A : Type 0} (g : Grammar A) (bytes : List ℕ) (fault : WireFault) (f : Hopeless g bytes fault) (t longer : List ℕ)
    → longer ≡ f.seen ++ f.byte ∷ t → IsPrefix g longer → ⊥
none_past_fault g bytes fault f t longer e o =
    f.hopeless (shorter g (f.seen ++ f.byte ∷ []) t (subst (IsPrefix g) (e ∙ sym (append_assoc f.seen (f.byte ∷ []) t)) o))

-- one byte after one beginning is one fault
abbrev pub OneCause : {A : Type 0} → Grammar A → Type 0
OneCause g = (seen : List ℕ) (byte : ℕ) (f h : WireFault) → g.IsCause seen byte f → g.IsCause seen byte h → f ≡ h

pub fault_same : {A : Type 0} (g : Grammar A) → OneCause g → (bytes : List ℕ) (f h : WireFault) → Hopeless g bytes f → Hopeless g bytes h → f ≡ h
fault_same g one bytes f h a b =
    ⊎_elim
    (λ w. absurd (none_past_fault g bytes f a w.0 b.seen w.1 b.open_before))
    (⊎_elim
    (λ w. absurd (none_past_fault g bytes h b w.0 a.seen w.1 a.open_before))
    (λ w. one b.seen b.byte f h (rw (w.0, w.1) at a.cause) b.cause))
    (align a.seen b.seen a.byte b.byte a.later b.later (sym a.split ∙ b.split))

-- at each place a reader can give one thing only
pub one_gift : {A : Type 0} (g : Grammar A) → SpelledSeen g → OneCause g → (bytes rest other : List ℕ) (answer another : Parsed A) → Gives g bytes answer rest
    → Gives g bytes another other
    → (answer ≡ another) × (rest ≡ other)
one_gift g seen one bytes rest other (Ok (Some a)) (Ok (Some b)) p q =
    let w = first_same g seen bytes p.0 rest q.0 other a b p.2 p.1 q.2 q.1 in
    (ap (λ x. Ok (Some x)) w.0, w.1)
one_gift g seen one bytes rest other answer (Ok (Some b)) p q = absurd (p.1 q.0 other b q.2 q.1)
one_gift g seen one bytes rest other (Ok (Some a)) another p q = absurd (q.1 p.0 rest a p.2 p.1)
one_gift g seen one bytes rest other (Ok None) (Ok None) p q = (refl, p.2 ∙ sym q.2)
one_gift g seen one bytes rest other (Ok None) (Err f) p q = absurd (none_past_fault g bytes f q.0 q.0.later bytes q.0.split p.0)
one_gift g seen one bytes rest other (Err f) (Ok None) p q = absurd (none_past_fault g bytes f p.0 p.0.later bytes p.0.split q.0)
one_gift g seen one bytes rest other (Err f) (Err h) p q = (ap Err (fault_same g one bytes f h p.0 q.0), p.2 ∙ sym q.2)
