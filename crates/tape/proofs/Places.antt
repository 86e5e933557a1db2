-- A file with a place in it: what stands before the place, and what stands from there on.
use Rattle.tape.proofs.Words.{◌≡◌, ℕ, List, [], ◌++◌, length, take, drop, refl, sym, ap, ap₂, subst, ◌∙◌, append_assoc, append-nil, arith, take_at, drop_at, All-append, All-take, All-drop, flat_map-append, All, PlainEntry, Tape, IsTapeEntry, tape, image_of, images_of, SpellsReel, IsFile, tape_in}
use Rattle.tape.proofs.Spelling.{spells_in, tail_short}

pub All_back : (P : PlainEntry → Type 0) (xs ys : List PlainEntry) → All P (xs ++ ys) → All P ys
All_back P xs ys all = subst (All P) (drop_at xs ys (length xs) refl) (All-drop P (length xs) (xs ++ ys) all)

-- a file, cut at the place
pub record IsParted (bytes : List ℕ) (offset : ℕ) (t : Tape) : Type 0 where
  pub front : take offset bytes ≡ images_of t.before
  pub lawful : All IsTapeEntry t.before
  pub back : SpellsReel (drop offset bytes) t.after

pub parted : {bytes : List ℕ} {offset : ℕ} {t : Tape} → IsFile bytes offset t → IsParted bytes offset t
parted {bytes} {offset} {t} f =
    let behind = images_of t.after ++ f.spelled.tail in
    let whole : bytes ≡ images_of t.before ++ behind
    = f.spelled.whole ∙ ap (λ l. l ++ f.spelled.tail) (flat_map-append image_of t.before t.after)
    ∙ append_assoc (images_of t.before) (images_of t.after) f.spelled.tail in
    record {
      front = ap (take offset) whole ∙ take_at (images_of t.before) behind offset (sym f.offset_is);
      lawful = subst (All IsTapeEntry) (take_at t.before t.after (length t.before) refl)
          (All-take IsTapeEntry (length t.before) (t.before ++ t.after) f.spelled.lawful);
      back = record {
        tail = f.spelled.tail;
        whole = ap (drop offset) whole ∙ drop_at (images_of t.before) behind offset (sym f.offset_is);
        is_tail = f.spelled.is_tail;
        lawful = All_back IsTapeEntry t.before t.after f.spelled.lawful;
      };
    }

-- a file, put together from entries whose images stand before the place, and others that the bytes spell from it on
pub joined : (x part : List ℕ) (at : ℕ) (before after : List PlainEntry) → x ≡ images_of before ++ part → at ≡ length (images_of before)
    → All IsTapeEntry before
    → SpellsReel part after → IsFile x at (tape before after)
joined x part at before after is offset lawful s = record {
  spelled = record {
    tail = s.tail;
    whole = is ∙ ap (λ l. images_of before ++ l) s.whole ∙ sym (append_assoc (images_of before) (images_of after) s.tail)
        ∙ ap (λ l. l ++ s.tail) (sym (flat_map-append image_of before after));
    is_tail = s.is_tail;
    lawful = All-append IsTapeEntry before after lawful s.lawful;
  };
  offset_is = offset;
}

-- the tape of a file is that of its bytes and its offset
pub one_tape : (bytes : List ℕ) (offset : ℕ) (t : Tape) → IsFile bytes offset t → t ≡ tape_in offset bytes
one_tape bytes offset t f =
    let p = parted f in
    let front : SpellsReel (take offset bytes) t.before
    = record { tail = []; whole = p.front ∙ sym (append-nil (images_of t.before)); is_tail = tail_short [] (omega arith); lawful = p.lawful } in
    ap₂ tape (spells_in (take offset bytes) t.before front) (spells_in (drop offset bytes) t.after p.back)
