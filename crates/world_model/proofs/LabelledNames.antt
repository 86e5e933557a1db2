-- On each reel that is there something stands, wherever it is.
-- On the reel that a session has in its drive stands what is on its tape, and nothing else.
use Rattle.world_model.proofs.Basics.{◌≡◌, ◌⊎◌, ℕ, suc, ◌<◌, List, [], ◌∷◌, flat_map, Option, Some, refl, ap, ◌∙◌, inl, inr, arith, slice_get, slice_index_or, sum_by, sum_by-append, same_Some, bytes_eq-Decides, ◌≢◌, ◌≤◌, length, sym, subst, eqb_tells, length-set, sum_by-cons}
use Rattle.world_model.proofs.Terms.{PlainEntry, entries_of, KeptReel, ReelSlot, Drive, drive_with, TapeLibrary, drive_at, slots_in, named, times_named, ServerState, ServerConnection, PlainSession, drive_in, Online, side_of, first_name, AreThere, IsFirstAway, online_drive_in, IsOnlineAt, AreHeld, HasReel, ReelLiesIn, HasInDrive, ReelHolds, AreLaid, with_drive_at, EachReelOnce, bit, sum_by_with_drive, Access, PlainReel, ReelLiesOn}
use Rattle.std.proofs.lemmas.Bool.Decides.{leb_tells}
use Rattle.world_model.proofs.Laid.{online_drive, drive_other, alone_at, drive_within}
use Rattle.world_model.proofs.Named.{first_times}
use Rattle.world_model.proofs.Opened.{names_differ}

-- one of these has that name
abbrev HasSlot : List (ReelSlot KeptReel) → List ℕ → Type 0
HasSlot [] name = ⊥
HasSlot (x ∷ xs) name = (x.name ≡ name) ⊎ HasSlot xs name

slot_among : (xs : List (ReelSlot KeptReel)) (name : List ℕ) → 0 < sum_by (named name) xs → HasSlot xs name
slot_among [] name some = absurd (let none : sum_by (named {X = KeptReel} name) [] ≡ 0 = refl in omega (arith, some, none))
slot_among (x ∷ xs) name some = grind (arith, bytes_eq-Decides, slot_among xs name)

-- on a stack
stack_among : (drives : List (Drive KeptReel)) (name : List ℕ) → 0 < sum_by (named name) (flat_map (λ x. x.stack) drives)
    → (d : ℕ) × HasSlot (slice_index_or drives d (drive_with [] [])).stack name
stack_among [] name some = absurd (slot_among [] name some)
stack_among (r ∷ drives) name some = elim (leb_tells 1 (sum_by (named name) r.stack)) [
  | inl (test, here) ↦ (0, slot_among r.stack name here)
  | inr (test, none) ↦
      let on = stack_among drives name (omega (arith, none, some, sum_by-append (named name) r.stack (flat_map (λ x. x.stack) drives))) in
      (suc on.0, on.1)
]

-- what lies there
there_lies : (xs : List (ReelSlot KeptReel)) (name : List ℕ) → HasSlot xs name → AreThere xs → (entries : List PlainEntry) × ReelLiesIn xs name entries
there_lies [] name has there = absurd has
there_lies (x ∷ xs) name (inl named) ((reel, is), rest) = (reel.entries, inl record { named = named; reel = reel; there = is; holds = refl })
there_lies (x ∷ xs) name (inr has) (first, rest) = let on = there_lies xs name has rest in (on.0, inr on.1)

away_or_lies : (xs : List (ReelSlot KeptReel)) (name : List ℕ) → HasSlot xs name → IsFirstAway xs → (first_name xs ≡ name) ⊎ ((entries : List PlainEntry) × ReelLiesIn xs name entries)
away_or_lies xs name given known = grind (arith, there_lies)

in_drive : (s : TapeLibrary) (session : PlainSession) (d : ℕ) (name : List ℕ) → online_drive_in session ≡ Some d → first_name (drive_at s d).stack ≡ name
    → (entries : List PlainEntry) × HasInDrive s session name entries
in_drive s (Online drive access reel) d name online named =
    (entries_of reel.tape, (drive, access, reel, refl, ap (λ n. first_name (drive_at s n).stack) (same_Some drive d online) ∙ named, refl))
in_drive s session d name online named = grind arith

online_there : (h : ServerState) (k d : ℕ) (s : ServerConnection) (o : Option ℕ) → AreHeld h → slice_get h.holders d ≡ Some k → side_of h k ≡ Some s → drive_in s.session ≡ Some d
    → online_drive_in s.session ≡ o → IsOnlineAt h d ⊎ (IsOnlineAt h d → ⊥)
online_there h k d s o a holds at drive is = grind (arith, online_drive)

held_online : (h : ServerState) (d : ℕ) (o : Option ℕ) → AreHeld h → slice_get h.holders d ≡ o → IsOnlineAt h d ⊎ (IsOnlineAt h d → ⊥)
held_online h d (Some (suc k)) a is =
    let s = a.holds k d is in
    online_there h (suc k) d s.0 (online_drive_in s.0.session) a is s.1 s.2 refl
held_online h d o a is = inr (grind (arith, online_drive))

-- on a stack, or in the drive
stack_stands : (h : ServerState) (d : ℕ) (name : List ℕ) → AreLaid h → HasSlot (drive_at h.library d).stack name → IsOnlineAt h d ⊎ (IsOnlineAt h d → ⊥)
    → (entries : List PlainEntry) × ReelHolds h name entries
stack_stands h d name l has (inl (k, s, at, online)) = elim (away_or_lies (drive_at h.library d).stack name has (l.latched d (k, s, at, online))) [
  | inl named ↦ (let on = in_drive h.library s.session d name online named in (on.0, inr (k, s, at, on.1)))
  | inr (entries, lies) ↦ (entries, inl (inl (d, lies)))
]
stack_stands h d name l has (inr off) = let on = there_lies (drive_at h.library d).stack name has (l.lying d off) in (on.0, inl (inl (d, on.1)))

pub stands_somewhere : (h : ServerState) (name : List ℕ) → AreHeld h → AreLaid h → HasReel h.library name → (entries : List PlainEntry) × ReelHolds h name entries
stands_somewhere h name a l has = elim (leb_tells 1 (sum_by (named name) (flat_map (λ x. x.stack) h.library.drives))) [
  | inl (test, some) ↦
      let on = stack_among h.library.drives name some in
      stack_stands h on.0 name l on.1 (held_online h on.0 (slice_get h.holders on.0) a refl)
  | inr (test, none) ↦
      let parts = sum_by-append (named name) (flat_map (λ x. x.stack) h.library.drives) h.library.bin in
      let on = there_lies h.library.bin name (slot_among h.library.bin name (omega (arith, none, parts, times_named name (slots_in h.library), has))) l.bin in
      (on.0, inl (inr on.1))
]

-- a reel of that name lies there
pub lies_times : (xs : List (ReelSlot KeptReel)) (name : List ℕ) (entries : List PlainEntry) → ReelLiesIn xs name entries → 0 < sum_by (named name) xs
lies_times [] name entries lies = absurd lies
lies_times (x ∷ xs) name entries (inl here) =
    let one : named name x ≡ 1 = ap bit ((bytes_eq-Decides name x.name).1 (sym here.named)) in
    omega (arith, one, sum_by-cons (named name) x xs)
lies_times (x ∷ xs) name entries (inr rest) = omega (arith, lies_times xs name entries rest, sum_by-cons (named name) x xs)

pub lies_within : (drives : List (Drive KeptReel)) (d : ℕ) (name : List ℕ) (entries : List PlainEntry) → ReelLiesIn (slice_index_or drives d (drive_with [] [])).stack name entries
    → d < length drives
lies_within (r ∷ drives) (suc d) name entries lies = let on = lies_within drives d name entries lies in omega (arith, on)
lies_within drives d name entries lies = grind arith

-- the first of a stack is away, and no other has its name
away_alone : (xs : List (ReelSlot KeptReel)) (name : List ℕ) (entries : List PlainEntry) → IsFirstAway xs → first_name xs ≡ name → sum_by (named name) xs ≤ 1
    → ReelLiesIn xs name entries → ⊥
away_alone [] name entries away is few lies = absurd lies
away_alone (x ∷ xs) name entries away is few (inl here) = let clash = sym away.0 ∙ here.there in absurd cc
away_alone (x ∷ xs) name entries away is few (inr rest) =
    let one : named name x ≡ 1 = ap bit ((bytes_eq-Decides name x.name).1 (sym is)) in
    omega (arith, one, lies_times xs name entries rest, sum_by-cons (named name) x xs, few)

-- no reel of that name lies on a stack or in the bin
lies_nowhere : (s : TapeLibrary) (drive : ℕ) (name : List ℕ) (entries : List PlainEntry) → EachReelOnce s → drive < length s.drives → IsFirstAway (drive_at s drive).stack
    → first_name (drive_at s drive).stack ≡ name → ReelLiesOn s name entries → ⊥
lies_nowhere s drive name entries once within away is (inl (d, lies)) = elim (eqb_tells d drive) [
  | inl (equal, same) ↦
      let whole = sum_by_with_drive (named name) s drive (drive_with [] []) within in
      let all = times_named name (slots_in s) in
      let few = once name in
      away_alone (drive_at s drive).stack name entries away is (omega (arith, whole, all, few)) (subst (λ i. ReelLiesIn (drive_at s i).stack name entries) same lies)
  | inr (unequal, other) ↦
      let t = with_drive_at s drive (drive_with [] []) in
      let there = lies_within s.drives d name entries lies in
      let still : drive_at t d ≡ drive_at s d = drive_other s.drives drive d (drive_with [] []) (drive_with [] []) other in
      let two = sum_by_with_drive (named name) t d (drive_with [] []) (let many = length-set s.drives drive (drive_with [] []) in omega (arith, there, many)) in
      let its : sum_by (named name) (drive_at t d).stack ≡ sum_by (named name) (drive_at s d).stack = ap (λ (r : Drive KeptReel). sum_by (named name) r.stack) still in
      let first : 0 < sum_by (named name) (drive_at s drive).stack = subst (λ n. 0 < sum_by (named n) (drive_at s drive).stack) is (first_times (drive_at s drive).stack away) in
      let second = lies_times (drive_at s d).stack name entries lies in
      omega (arith, sum_by_with_drive (named name) s drive (drive_with [] []) within, two, its, first, second, times_named name (slots_in s), once name)
]
lies_nowhere s drive name entries once within away is (inr lies) =
    let first : 0 < sum_by (named name) (drive_at s drive).stack = subst (λ n. 0 < sum_by (named n) (drive_at s drive).stack) is (first_times (drive_at s drive).stack away) in
    let parts = sum_by-append (named name) (flat_map (λ r. r.stack) (with_drive_at s drive (drive_with [] [])).drives) s.bin in
    let all = times_named name (slots_in s) in
    omega (arith, sum_by_with_drive (named name) s drive (drive_with [] []) within, first, lies_times s.bin name entries lies, parts, all, once name)

-- what stands on the reel in a drive
pub stands_one : (h : ServerState) (k : ℕ) (s : ServerConnection) (drive : ℕ) (access : Access) (reel : PlainReel) (name : List ℕ) (entries : List PlainEntry) → side_of h k ≡ Some s
    → s.session ≡ Online drive access reel → first_name (drive_at h.library drive).stack ≡ name → AreHeld h → AreLaid h → EachReelOnce h.library → ReelHolds h name entries
    → entries ≡ entries_of reel.tape
stands_one h k s drive access reel name entries live online is a l once (inl lies) =
    absurd (lies_nowhere h.library drive name entries once (drive_within h k s drive a live (ap drive_in online)) (l.latched drive (k, s, live, ap online_drive_in online)) is lies)
stands_one h k s drive access reel name entries live online is a l once (inr (j, y, at, (e, other, r, now, named, holds))) = elim (eqb_tells j k) [
  | inl (equal, same) ↦ grind (arith, same_Some)
  | inr (unequal, differ) ↦
      let apart : e ≢ drive
      = λ same. alone_at h k s drive a live (ap drive_in online) (j, differ, (y, at, ap drive_in now ∙ ap Some same)) in
      absurd (names_differ h.library e drive once apart (drive_within h j y e a at (ap drive_in now)) (l.latched e (j, y, at, ap online_drive_in now))
      (drive_within h k s drive a live (ap drive_in online)) (l.latched drive (k, s, live, ap online_drive_in online)) (named ∙ sym is))
]
