-- Which reels are latched, before and after what is done at one drive.
use Rattle.std.proofs.Common.{arith, ◌≡◌, ◌≢◌, ℕ, ◌<◌, List, [], length, map, IsSome, subst, get_or-set_other}
use Rattle.drives.proofs.Names.{TroubledTape, LibraryOf, TapeLibrary, with_drive_at, ReelSlot, Drive, drive_with, drive_at, EachReelOnce}
use Rattle.drives.proofs.Names.{latched_at, latched_on, ListLibrary, rest_slot, library_of, IsLibrary, IsStocked, HasLatched}
use Rattle.drives.proofs.Shops.{length_latched}
use Rattle.drives.proofs.ListLibrary.{told, drive_at_rest}

-- what is told of the reels that are latched
on_rest : (stack : List (ReelSlot TroubledTape)) → latched_on (map rest_slot stack) ≡ latched_on stack
on_rest stack = grind arith

pub latched_rest : (s : ListLibrary) (e : ℕ) → latched_at (library_of s) e ≡ latched_at s.library e
latched_rest s e = grind (arith, drive_at_rest s e, on_rest (drive_at s.library e).stack)

pub latched_in : (s : ListLibrary) (t : TapeLibrary) (e : ℕ) → IsLibrary s t → HasLatched IsLibrary s e → IsSome (latched_at s.library e)
latched_in s t e tells h = grind (arith, h t tells, latched_rest s e)

pub has_latched : (s : ListLibrary) (e : ℕ) → IsSome (latched_at s.library e) → HasLatched IsLibrary s e
has_latched s e some t tells = grind (arith, latched_rest s e)

pub stays_latched : (old new made : ListLibrary) (e : ℕ) → EachReelOnce old.library → new ≡ made → latched_at made.library e ≡ latched_at old.library e → HasLatched IsLibrary old e → HasLatched IsLibrary new e
stays_latched old new made e once is same h = has_latched new e (grind (arith, latched_in old (library_of old) e (told old once) h))

-- what is done at one drive leaves the reels latched in others
pub latched_elsewhere : {X : Type 0} (s : LibraryOf X) (d e : ℕ) (r : Drive X) → e ≢ d → latched_at (with_drive_at s d r) e ≡ latched_at s e
latched_elsewhere s d e r n = grind (arith, get_or-set_other s.drives d e r (drive_with [] []) n)

-- where a reel is latched the stack is not empty
pub value_some : (s now : ListLibrary) (d : ℕ) (reels room : ℕ) → s ≡ now → IsStocked s.library reels room → HasLatched IsLibrary now d → 0 < length (drive_at now.library d).stack
value_some s now d reels room v h latched =
    let once : EachReelOnce now.library = subst (λ (x : ListLibrary). EachReelOnce x.library) v h.once in
    length_latched (drive_at now.library d).stack (latched_in now (library_of now) d (told now once) latched)
