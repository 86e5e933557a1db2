-- One entry of a record file that is passed.
use Rattle.tape.proofs.Words.{◌≡◌, ℕ, ◌+◌, ◌-◌, nat_eq, List, [], ◌∷◌, ◌++◌, length, reverse, Some, refl, sym, ap, ◌∙◌, append_assoc, length-append, arith, if◌then◌else◌, flat_map-append, nat_tests, reverse-append, reverse-reverse, All-head, PlainEntry, Tape, tape, IsTapeEntry, mark_count, size_of, bytes_of, IsFile, images_of, image_of, IsPassed, first_length, size_by_length, Forward, Back}
use Rattle.tape.proofs.Places.{All_back}
use Rattle.tape.proofs.Writing.{image_length}

-- the size of an entry by its length, and whether it is a mark
pub size_is : (e : PlainEntry) (n : ℕ) → IsTapeEntry e → n ≡ length (bytes_of e) → size_by_length n ≡ size_of e
size_is e n h is = grind (arith, nat_tests)

mark_is : (e : PlainEntry) (n : ℕ) → IsTapeEntry e → n ≡ length (bytes_of e) → mark_count e ≡ (if nat_eq n 0 then 1 else 0)
mark_is e n h is = grind (arith, nat_tests)

-- the images end with that of the last entry
images_on : (before : List PlainEntry) (e : PlainEntry) → length (images_of (before ++ e ∷ [])) ≡ length (images_of before) + size_of e
images_on before e = grind (arith, flat_map-append image_of before (e ∷ []), length-append {A = ℕ}, image_length e)

-- the first entry ahead by the length that was found, and the file with the place behind it
pub record IsAhead (bytes : List ℕ) (at n : ℕ) (before after : List PlainEntry) : Type 0 where
  pub entry : PlainEntry
  pub rest : List PlainEntry
  pub way_is : after ≡ entry ∷ rest
  pub lawful : IsTapeEntry entry
  pub long : n ≡ length (bytes_of entry)
  pub file : IsFile bytes (at + size_by_length n) (tape (before ++ entry ∷ []) rest)

pub first_ahead : (bytes : List ℕ) (at n : ℕ) (before after : List PlainEntry) → IsFile bytes at (tape before after) → Some n ≡ first_length after
    → IsAhead bytes at n before after
first_ahead bytes at n before [] f is = absurd cc
first_ahead bytes at n before (e ∷ es) f is =
    let long : n ≡ length (bytes_of e) = cc in
    let lawful = All-head IsTapeEntry e es (All_back IsTapeEntry before (e ∷ es) f.spelled.lawful) in
    let size = size_is e n lawful long in
    record {
      entry = e;
      rest = es;
      way_is = refl;
      lawful = lawful;
      long = long;
      file = record { spelled = rw (append_assoc before (e ∷ []) es) f.spelled; offset_is = omega (arith, f.offset_is, images_on before e, size) };
    }

-- what was passed forward, from the length that was found
pub next_passed : (bytes : List ℕ) (at n : ℕ) (t : Tape) → IsFile bytes at t → Some n ≡ first_length t.after
    → (u : Tape) × IsFile bytes (at + size_by_length n) u × IsPassed Forward t (nat_eq n 0) u
next_passed bytes at n t f is =
    let a = first_ahead bytes at n t.before t.after f is in (
      tape (t.before ++ a.entry ∷ []) a.rest,
      a.file,
      record {
        entry = a.entry;
        mark = mark_is a.entry n a.lawful a.long;
        way_is = a.way_is;
        same = append_assoc t.before (a.entry ∷ []) a.rest ∙ ap (λ l. t.before ++ l) (sym a.way_is);
        place = λ count. omega (arith, length-append t.before (a.entry ∷ []));
      },
    )

-- what was passed back
pub last_passed : (bytes : List ℕ) (at n : ℕ) (before after back : List PlainEntry) → back ≡ reverse before → IsFile bytes at (tape before after)
    → Some n ≡ first_length back → (u : Tape) × IsFile bytes (at - size_by_length n) u × IsPassed Back (tape before after) (nat_eq n 0) u
last_passed bytes at n before after [] turned f is = absurd cc
last_passed bytes at n before after (e ∷ es) turned f is =
    let long : n ≡ length (bytes_of e) = cc in
    let split : before ≡ reverse es ++ e ∷ [] = sym (reverse-reverse before) ∙ ap reverse (sym turned) ∙ reverse-append (e ∷ []) es in
    let whole : reverse es ++ (e ∷ after) ≡ before ++ after = sym (append_assoc (reverse es) (e ∷ []) after) ∙ ap (λ l. l ++ after) (sym split) in
    let spelled = rw (sym whole) at f.spelled in
    let lawful = All-head IsTapeEntry e after (All_back IsTapeEntry (reverse es) (e ∷ after) spelled.lawful) in (
      tape (reverse es) (e ∷ after),
      record {
        spelled = spelled;
        offset_is = omega (arith, f.offset_is, ap (λ l. length (images_of l)) split, images_on (reverse es) e, size_is e n lawful long);
      },
      record {
        entry = e;
        mark = mark_is e n lawful long;
        way_is = sym turned ∙ ap (λ l. e ∷ l) (sym (reverse-reverse es));
        same = whole;
        place = λ count. omega (arith, ap length split, length-append (reverse es) (e ∷ []));
      },
    )
