-- A record that is read at the place.
use Rattle.tape.proofs.Words.{◌≡◌, false, true, ℕ, ◌+◌, ◌<◌, ◌≤◌, min, List, [], ◌∷◌, ◌++◌, length, take, drop, Some, inl, refl, sym, ap, subst, ◌∙◌, append_assoc, length-append, length-drop, length-take, drop-drop, arith, take_at, take_all, nil_from_length, take_min, take-append-le, PlainEntry, Tape, Passes, tape, Read, Gave, Fault, inr, bytes_of, MediumKind, IsReadAt, Record, Mark, length_bytes, image_of, images_of, IsFile, FileTape, AreMediumCalls, first_length, size_by_length, Device}
use Rattle.tape.proofs.Spelling.{rest_is, body_of, image_parts}
use Rattle.tape.proofs.Places.{parted}
use Rattle.tape.proofs.MediumRuns.{no_error, Looks}
use Rattle.tape.proofs.ReelCalls.{FileCall, file_call, reel_run}
use Rattle.tape.proofs.Passing.{IsAhead, first_ahead}

-- a read that gave these bytes, by what holds of the medium's bytes
pub gave_call : {M : Type 0} {m : MediumKind M} {tells : List ℕ → Type 0} (old new : FileTape M) (count : ℕ) (bytes : List ℕ)
    → AreMediumCalls m (Looks tells) 0 (false ≡ true) old.medium new.medium → length bytes ≤ count → new.capacity ≡ old.capacity
    → ((x : List ℕ) (t : Tape) → IsFile x old.offset t → tells x → (u : Tape) × IsFile x new.offset u × Passes count t.after t bytes u)
    → FileCall m old new (Read count) (Gave bytes)
gave_call old new count bytes run bound same step =
    file_call old new (Read count) (Gave bytes)
    (reel_run run no_error (λ f. absurd f) same (λ x y t f s. let p = step x t f s.1 in
    (p.0, subst (λ l. IsFile l new.offset p.0) (sym s.0) p.1, p.2)))
    (λ is. cc) (λ f. absurd f) (inl (bytes, bound, refl)) (λ is. cc) (omega arith) (λ file t u f is. is) (λ is. cc)

-- a read where the medium failed
pub failed_read : {M : Type 0} {m : MediumKind M} {tells : List ℕ → Type 0} {F : Type 0} (old new : FileTape M) (count : ℕ)
    → AreMediumCalls m (Looks tells) 0 F old.medium new.medium → F → new.offset ≡ old.offset → new.capacity ≡ old.capacity
    → FileCall m old new (Read count) (Fault Device)
failed_read old new count run failed here same =
    file_call old new (Read count) (Fault Device)
    (reel_run {does = λ t u. u ≡ t} {fails = Unit {0}} run (λ f. tt) (λ f. failed) same (λ x y t f s. (t, rw (s.0, here) f, refl)))
    (λ is. tt) (λ f. refl) (inr refl) (λ is. cc) (omega arith) (λ file t u f is. is) (λ is. cc)

-- a read passes the first entry ahead
passes_first : (way rest : List PlainEntry) (e : PlainEntry) (count : ℕ) (t : Tape) (bytes : List ℕ) → way ≡ e ∷ rest
    → bytes ≡ take count (bytes_of e)
    → Passes count way t bytes (tape (t.before ++ e ∷ []) rest)
passes_first way rest e count t bytes is copied = grind (arith, take_all {A = ℕ} count [])

-- a mark gives no bytes
pub mark_passes : (x : List ℕ) (at n want : ℕ) (t : Tape) → IsFile x at t → Some n ≡ first_length t.after → n ≡ 0
    → (u : Tape) × IsFile x (at + 4) u × Passes want t.after t [] u
mark_passes x at n want t f is zero_is =
    let a = first_ahead x at 0 t.before t.after f (ap Some (sym zero_is) ∙ is) in
    let none = nil_from_length (take want (bytes_of a.entry)) (omega (arith, length-take want (bytes_of a.entry), a.long)) in
    (tape (t.before ++ a.entry ∷ []) a.rest, a.file, passes_first t.after a.rest a.entry want t [] a.way_is (sym none))

after_four : (e : PlainEntry) (rest : List ℕ) → (more : List ℕ) × (drop 4 (image_of e ++ rest) ≡ bytes_of e ++ more)
after_four (Record bytes) rest = (
  length_bytes (length bytes) ++ rest,
  rest_is (image_of (Record bytes) ++ rest) (body_of (Record bytes) ++ rest) (length bytes) (image_parts (Record bytes) rest)
      ∙ append_assoc bytes (length_bytes (length bytes)) rest,
)
after_four Mark rest = (rest, rest_is (image_of Mark ++ rest) rest 0 refl)

-- after the leading length stand the record's bytes
content : (x : List ℕ) (at n : ℕ) (t : Tape) → IsFile x at t → (a : IsAhead x at n t.before t.after)
    → (more : List ℕ) × (drop (at + 4) x ≡ bytes_of a.entry ++ more)
content x at n t f a =
    let back = (parted f).back in
    let rest = images_of a.rest ++ back.tail in
    let there : drop at x ≡ image_of a.entry ++ rest
    = back.whole ∙ ap (λ l. images_of l ++ back.tail) a.way_is ∙ append_assoc (image_of a.entry) (images_of a.rest) back.tail in
    let four = after_four a.entry rest in
    (four.0, sym (drop-drop 4 at x) ∙ ap (drop 4) there ∙ four.1)

-- the length at the place was read, and then the bytes after it
abbrev pub Reads : ℕ → ℕ → ℕ → List ℕ → List ℕ → Type 0
Reads at n got given x = ((t : Tape) → IsFile x at t → Some n ≡ first_length t.after) × IsReadAt (at + 4) given got x

-- a read that got all that it wants of the record
pub read_whole : (x : List ℕ) (at n got count want : ℕ) (given rest : List ℕ) (t : Tape) → IsFile x at t → Reads at n got given x → count ≡ min want n
    → length given ≡ count → count ≤ got
    → (u : Tape) × IsFile x (at + size_by_length n) u × Passes want t.after t (take count (given ++ rest)) u
read_whole x at n got count want given rest t f (found, read) least long enough =
    let a = first_ahead x at n t.before t.after f (found t f) in
    let k = content x at n t f a in
    let size = a.long in
    let full : got ≡ count = (let r = read.0 in omega arith) in
    let front = take-append-le count (bytes_of a.entry) k.0 (omega arith) in
    let all = take_all got given (omega arith) in
    let copied : take count (given ++ rest) ≡ take want (bytes_of a.entry)
    = grind (arith, take_at given rest count long, read.1, k.1, take_min want (bytes_of a.entry)) in
    (tape (t.before ++ a.entry ∷ []) a.rest, a.file, passes_first t.after a.rest a.entry want t _ a.way_is copied)

-- no record is cut short
pub read_enough : (x : List ℕ) (at n got count want : ℕ) (given : List ℕ) (t : Tape) → IsFile x at t → Reads at n got given x → count ≡ min want n
    → length given ≡ count → got < count → ⊥
read_enough x at n got count want given t f (found, read) least long short =
    let a = first_ahead x at n t.before t.after f (found t f) in
    let k = content x at n t f a in
    let r = read.0 in
    let size = a.long in
    omega (arith, ap length k.1, length-drop (at + 4) x, length-append (bytes_of a.entry) k.0)
