-- From bytes that were written to the tape of a reel.
use Rattle.tape.proofs.Words.{◌≡◌, ℕ, ◌+◌, List, [], ◌∷◌, ◌++◌, length, take, Ok, Err, IsErr, refl, ap, ◌∙◌, All-cons, All-nil, All, Steps, PlainEntry, IsRecord, IsTapeEntry, tape, Record, MediumKind, images_of, FileTape, AreMediumCalls, AreReelCalls, IsImageWritten, PutsEntries, MediumFailed, TapeFault}
use Rattle.tape.proofs.ReelCalls.{reel_run}
use Rattle.tape.proofs.Writing.{written_whole, written_part}

pub puts_whole : {M : Type 0} {m : MediumKind M} (old new : FileTape M) (written : List PlainEntry) (image : List ℕ) (added : ℕ) (u v : Unit {0})
    → All IsTapeEntry written → image ≡ images_of written → new.offset ≡ old.offset + length image → new.capacity ≡ old.capacity
    → AreMediumCalls m (IsImageWritten old.offset image (Ok u)) added (IsErr {E = MediumFailed} (Ok u)) old.medium new.medium
    → AreReelCalls m (PutsEntries written (Ok v)) added (IsErr {E = TapeFault} (Ok v)) old new
puts_whole old new written image added u v lawful image_is offset_is same run =
    reel_run run (λ f. f) (λ f. f) same
    (λ x y t f s. (tape (t.before ++ written) [], written_whole x y image old.offset new.offset t written f lawful image_is offset_is s, refl))

-- the medium's bytes end with what was written
pub ends_in : {M : Type 0} {m : MediumKind M} {added : ℕ} {fails : Type 0} (old new : M) (at : ℕ) (written : List PlainEntry) (image : List ℕ) (u : Unit {0})
    → image ≡ images_of written → AreMediumCalls m (IsImageWritten at image (Ok u)) added fails old new
    → Steps m.holds old new (λ bytes left. left ≡ take at bytes ++ images_of written)
ends_in old new at written image u image_is run = λ bytes held.
    let s = run.step bytes held in
    (s.0, s.1, s.2 ∙ ap (λ l. take at bytes ++ l) image_is)

pub puts_part : {M : Type 0} {m : MediumKind M} (old new : FileTape M) (written : List PlainEntry) (image : List ℕ) (added : ℕ) (e : MediumFailed) (d : TapeFault)
    → All IsTapeEntry written → image ≡ images_of written → new.offset ≡ old.offset → new.capacity ≡ old.capacity
    → AreMediumCalls m (IsImageWritten old.offset image (Err e)) added (IsErr {T = Unit {0}} (Err e)) old.medium new.medium
    → AreReelCalls m (PutsEntries written (Err d)) added (IsErr {T = Unit {0}} (Err d)) old new
puts_part old new written image added e d lawful image_is offset_is same run =
    reel_run run (λ f. f) (λ f. f) same (λ x y t f s. rw offset_is (written_part x y image old.offset e t written f lawful image_is s))

-- one record of a lawful length
pub one_record : (bytes : List ℕ) → IsRecord bytes → All IsTapeEntry (Record bytes ∷ [])
one_record bytes lawful = All-cons IsTapeEntry (Record bytes) [] lawful (All-nil IsTapeEntry)
