-- If a reel has these contents after a change of the library, a reel of this name had them before.
-- How one request changes the contents of reels.
use Rattle.world_model.proofs.Basics.{◌≡◌, ◌⊎◌, ℕ, suc, Bool, true, false, List, [], ◌∷◌, ◌++◌, Option, Some, None, refl, sym, subst, inl, inr, slice_set, slice_index_or, find, remove_key, same_Some, arith, ap, ◌∙◌, ◌<◌, length, append_assoc, Ok, MatchOption, take-append-drop}
use Rattle.world_model.proofs.Terms.{PlainEntry, entries_of, KeptReel, ReelSlot, Drive, drive_with, TapeLibrary, library, drive_at, with_first, to_bin, after_latch, arranged, picked, left, without, pile_of, PlainSession, closed_library, Idle, Online, first_name, IsReelOf, ReelLiesIn, ReelLiesOn, HasInDrive, PlainRequest, Op, PlainReply, Tape, tape, TapeRequest, TapeAnswer, WriteRecord, WriteMarks, DeviceStep, Trouble, waiting_reel, Access, access_of, writes, PlainReel, plain_reel, SessionView, session_view, status_of, refusal, tape_request, closed, is_offline, TroubledServeStep, TroubledOpenStep, TroubledReelStep, TroubledOpStep, TroubledDoneStep, written_reel}
use Rattle.rmt_wire.specs.Request.PlainRequest.{Open, Close}
use Rattle.world_model.proofs.Laid.{drive_same}

module _ (name : List ℕ) (entries : List PlainEntry) where
  -- lists of reels, one after the other
  lies_in_more : (xs ys : List (ReelSlot KeptReel)) → ReelLiesIn (xs ++ ys) name entries → ReelLiesIn xs name entries ⊎ ReelLiesIn ys name entries
  lies_in_more [] ys lies = inr lies
  lies_in_more (x ∷ xs) ys (inl here) = inl (inl here)
  lies_in_more (x ∷ xs) ys (inr rest) = grind (arith, lies_in_more xs ys rest)

  -- the first is laid there
  put_lies : (reel : KeptReel) (xs : List (ReelSlot KeptReel)) → ReelLiesIn (with_first (Some reel) xs) name entries
      → ((first_name xs ≡ name) × (reel.entries ≡ entries)) ⊎ ReelLiesIn xs name entries
  put_lies reel xs lies = grind arith

  -- the drive of that rack is another, or it is the one that was changed
  drive_now : (drives : List (Drive KeptReel)) (e d : ℕ) (r : Drive KeptReel) → ReelLiesIn (slice_index_or (slice_set drives e r) d (drive_with [] [])).stack name entries
      → ReelLiesIn r.stack name entries ⊎ ReelLiesIn (slice_index_or drives d (drive_with [] [])).stack name entries
  drive_now (x ∷ drives) (suc e) (suc d) r lies = drive_now drives e d r lies
  drive_now drives e d r lies = grind arith

  -- one rack was changed
  drive_lies : (s : TapeLibrary) (e : ℕ) (r : Drive KeptReel) (bin : List (ReelSlot KeptReel)) → ReelLiesOn (library (slice_set s.drives e r) bin) name entries
      → ReelLiesIn r.stack name entries ⊎ (ReelLiesOn s name entries ⊎ ReelLiesIn bin name entries)
  drive_lies s e r bin given = grind (arith, drive_now)

  -- a latch of drive d takes a reel away
  latch_lies : (s : TapeLibrary) (d : ℕ) → ReelLiesOn (after_latch s d) name entries → ReelLiesOn s name entries
  latch_lies s d lies = elim (drive_lies s d _ s.bin lies) [
    | inl here ↦ inl (d, (grind arith))
    | inr rest ↦ grind arith
  ]

  -- what was open is laid back
  pub closed_lies : (s : TapeLibrary) (session : PlainSession) → ReelLiesOn (closed_library s session) name entries
      → ReelLiesOn s name entries ⊎ HasInDrive s session name entries
  closed_lies s (Online drive access reel) lies = elim (drive_lies s drive _ s.bin lies) [
    | inl here ↦ grind (arith, put_lies)
    | inr rest ↦ grind arith
  ]
  closed_lies s session lies = inl lies

  -- the open reel is moved to the bin
  moved_lies : (s : TapeLibrary) (drive : ℕ) (reel : KeptReel) → ReelLiesOn (to_bin s drive reel) name entries
      → ReelLiesOn s name entries ⊎ ((first_name (drive_at s drive).stack ≡ name) × (reel.entries ≡ entries))
  moved_lies s drive reel lies = elim (drive_lies s drive _ _ lies) [
    | inl here ↦ inl (inl (drive, (grind arith)))
    | inr (inl on) ↦ inl on
    | inr (inr bin) ↦ grind (arith, lies_in_more, same_Some)
  ]

  -- reels that are picked by their names, and those that are left
  find_lies : (test : ReelSlot KeptReel → Bool) (y : ReelSlot KeptReel) (xs : List (ReelSlot KeptReel)) → find test xs ≡ Some y → IsReelOf y name entries
      → ReelLiesIn xs name entries
  find_lies test y [] is its = absurd cc
  find_lies test y (x ∷ xs) is its = grind (arith, find_lies test y xs)

  without_lies : (test : ReelSlot KeptReel → Bool) (xs : List (ReelSlot KeptReel)) → ReelLiesIn (remove_key test xs) name entries → ReelLiesIn xs name entries
  without_lies test [] lies = lies
  without_lies test (x ∷ xs) lies = grind (arith, without_lies test xs)

  sorted_lies : (names : List (List ℕ)) (xs : List (ReelSlot KeptReel)) → ReelLiesIn (picked names xs) name entries ⊎ ReelLiesIn (left names xs) name entries
      → ReelLiesIn xs name entries
  sorted_lies [] xs given = grind arith
  sorted_lies (n ∷ names) xs given = grind (arith, find_lies, without_lies, sorted_lies names (without n xs))

  -- an operator's order only moves reels
  pub arranged_lies : (s : TapeLibrary) (d : ℕ) (names : List (List ℕ)) → ReelLiesOn (arranged s d names) name entries → ReelLiesOn s name entries
  arranged_lies s d names lies =
      let on = drive_lies s d (drive_with (drive_at s d).name (picked names (pile_of s d))) (left names (pile_of s d)) lies in
      let sorted = sorted_lies names (pile_of s d) in
      grind (arith, lies_in_more)

-- it may change what stands on the tape
abbrev pub is_write : TapeRequest → Bool
is_write (WriteRecord bytes) = true
is_write (WriteMarks count) = true
is_write request = false

-- it stands on a reel that lies there, or on the reel that the session has in its drive
abbrev pub StandsIn : SessionView → List ℕ → List PlainEntry → Type 0
StandsIn v name entries = ReelLiesOn v.library name entries ⊎ HasInDrive v.library v.session name entries

-- the session may write on that reel, and the request asks for a write
abbrev pub WritesOn : SessionView → PlainRequest → List ℕ → Type 0
WritesOn before request name = (is_write (tape_request request) ≡ true) × (written_reel before.library before.session ≡ Some name)

-- The contents of a reel after the request were there before, or the request wrote on the reel.
abbrev pub Stood : SessionView → PlainRequest → SessionView → Type 0
Stood before request after =
    (name : List ℕ) (entries : List PlainEntry) → StandsIn after name entries → StandsIn before name entries ⊎ WritesOn before request name

-- nothing changes
same_stood : (before : SessionView) (request : PlainRequest) (after : SessionView) → after ≡ before → Stood before request after
same_stood before request after is name entries stands = inl (subst (λ v. StandsIn v name entries) is stands)

-- one call of the open reel, where no check refuses the request
reel_now : (trouble : Trouble) (before : SessionView) (request : PlainRequest) (drive : ℕ) (access : Access) (reel : PlainReel) (answer : TapeAnswer) (t : Tape)
    (b : Bool) (name : List ℕ) (entries : List PlainEntry)
    → is_write (tape_request request) ≡ b → (b ≡ true → writes access ≡ true) → before.session ≡ Online drive access reel
    → DeviceStep reel.capacity trouble reel.tape (tape_request request) answer t
    → HasInDrive before.library (Online drive access (plain_reel t reel.capacity)) name entries → StandsIn before name entries ⊎ WritesOn before request name
reel_now trouble before request drive access reel answer t true name entries test may online device (e, other, r, is, named, holds) = grind arith
reel_now trouble before request drive access reel answer t false name entries test may online device (e, other, r, is, named, holds) = grind (arith, append_assoc, take-append-drop)

reel_stood : (trouble : Trouble) (before : SessionView) (request : PlainRequest) (reply : PlainReply) (after : SessionView)
    → refusal (status_of before.session) request ≡ None
    → TroubledReelStep trouble before request reply after → Stood before request after
reel_stood trouble before request reply after none (drive, access, reel, answer, t, online, device, replies, is) name entries stands =
    reel_stands (subst (λ v. StandsIn v name entries) is stands)
  where
    reel_stands : StandsIn (session_view before.library (Online drive access (plain_reel t reel.capacity))) name entries → StandsIn before name entries ⊎ WritesOn before request name
    reel_stands (inl lies) = inl (inl lies)
    reel_stands (inr has) =
        reel_now trouble before request drive access reel answer t (is_write (tape_request request)) name entries refl
        (grind arith) online device has

-- no reel is in the drive of a session that is not online
idle_none : (s : TapeLibrary) (session : PlainSession) (name : List ℕ) (entries : List PlainEntry) → session ≡ Idle → HasInDrive s session name entries → ⊥
idle_none s session name entries idle (drive, access, reel, online, named, holds) = let clash : Idle ≡ Online drive access reel = sym idle ∙ online in cc

latched_stood : (before : SessionView) (request : PlainRequest) (after : SessionView) (d : ℕ) (access : Access) (reel : PlainReel) (first : KeptReel)
    → d < length (closed_library before.library before.session).drives → waiting_reel (closed_library before.library before.session) d ≡ Some first
    → after.library ≡ after_latch (closed_library before.library before.session) d → reel.tape ≡ tape [] first.entries → after.session ≡ Online d access reel
    → Stood before request after
latched_stood before request after d access reel first within waits library has is name entries (inl lies) =
    inl (closed_lies name entries before.library before.session
    (latch_lies name entries (closed_library before.library before.session) d (subst (λ s. ReelLiesOn s name entries) library lies)))
latched_stood before request after d access reel first within waits library has is name entries (inr (e, other, r, now, called, holds)) =
    let s = closed_library before.library before.session in
    let both : Online e other r ≡ Online d access reel = sym now ∙ is in
    let same : e ≡ d = cc in
    let its : r ≡ reel = cc in
    let its_name : first_name (drive_at s d).stack ≡ name = grind (arith, drive_same) in
    let its_entries : first.entries ≡ entries = sym (ap entries_of has) ∙ sym (ap (λ (x : PlainReel). entries_of x.tape) its) ∙ holds in
    inl (closed_lies name entries before.library before.session (inl (d, (grind arith))))

opens_stood : (trouble : Trouble) (holders : List ℕ) (before : SessionView) (request : PlainRequest) (device : List ℕ) (access : Option Access) (reply : PlainReply) (after : SessionView)
    → TroubledOpenStep trouble holders (closed before) device access reply after → Stood before request after
opens_stood trouble holders before request device (Some access) reply after (Ok opened, asked, (found, named, latch), cause, replies, is) =
    latched_stood before request after opened.0 access opened.1 latch.0 named.0 latch.1 latch.2 latch.3 is
opens_stood trouble holders before request device access reply after given = grind (arith, closed_lies, idle_none)

op_stood : (offline : Bool) (trouble : Trouble) (before : SessionView) (op count : ℕ) (reply : PlainReply) (after : SessionView)
    → refusal (status_of before.session) (Op op count) ≡ None
    → TroubledOpStep offline trouble before op count reply after → Stood before (Op op count) after
op_stood true trouble before op count reply after none step = grind (arith, moved_lies)
op_stood false trouble before op count reply after none step = reel_stood trouble before (Op op count) reply after none step

done_stood : (trouble : Trouble) (before : SessionView) (request : PlainRequest) (reply : PlainReply) (after : SessionView) → refusal (status_of before.session) request ≡ None
    → TroubledDoneStep trouble before request reply after → Stood before request after
done_stood trouble before Close reply after none step = grind (arith, closed_lies, idle_none)
done_stood trouble before (Op op count) reply after none step = op_stood (is_offline op) trouble before op count reply after none step
done_stood trouble before request reply after none step = reel_stood trouble before request reply after none step

-- a request that is refused, or done
other_stood : {R : Type 0} (trouble : Trouble) (before : SessionView) (request : PlainRequest) (reply : PlainReply) (after : SessionView) (o : Option R) (B : R → Type 0)
    → (o ≡ None → refusal (status_of before.session) request ≡ None) → ((r : R) → B r → after ≡ before)
    → MatchOption o (TroubledDoneStep trouble before request reply after) B → Stood before request after
other_stood trouble before request reply after None B none same step = done_stood trouble before request reply after (none refl) step
other_stood trouble before request reply after (Some r) B none same step = same_stood before request after (same r step)

pub step_stood : (trouble : Trouble) (holders : List ℕ) (before : SessionView) (request : PlainRequest) (reply : PlainReply) (after : SessionView)
    → TroubledServeStep trouble holders before request reply after → Stood before request after
step_stood trouble holders before (Open device mode) reply after step = opens_stood trouble _ before (Open device mode) device (access_of mode) reply after step
step_stood trouble holders before request reply after step =
    other_stood trouble before request reply after (refusal (status_of before.session) request) _ (λ is. is) (λ r it. it.1) step
