-- How reels are latched and laid back with what the sides of a server have open.
use Rattle.std.proofs.Common.{◌≡◌, ◌≢◌, ◌⊎◌, ℕ, ◌≤◌, List, [], ◌∷◌, ◌++◌, length, map, option_map, Option, Some, None, MatchOption, Result, Ok, Err}
use Rattle.std.proofs.Common.{refl, sym, ap, ◌∙◌, inl, inr, arith}
use Rattle.world_host.proofs.Names.{map-append, PlainRequest, Open, PlainReply, entries_of, Trouble, DriveFault, TapeLibrary, kept_reel, OpenStep}
use Rattle.world_host.proofs.Names.{Access, access_of, refused, PlainReel, PlainSession, SessionView, status_of, refusal, closed, closed_library}
use Rattle.world_host.proofs.Names.{session_after, Idle, Offline, Online, drive_of, session_seen, drive_in, with_holder, TroubledDoneStep}
use Rattle.world_host.proofs.Names.{TroubledOpenStep, TroubledServeStep, ServerConnection, RealServerConnection, side_at, with_side_at}
use Rattle.world_host.proofs.Names.{AreInSlotsExcept, online_drive_in, online_by, IsOnlineAt, seen_side}
use Rattle.world_host.proofs.Lying.{lie_laid, lie_latched, lie_moved}
use Rattle.world_host.proofs.Sides.{side_within, side_other, side_same, side_map, map_with, at_more}

-- that drive is this one, or one of others
abbrev pub Either : Option ℕ → (ℕ → Type 0) → ℕ → Type 0
Either own others d = (own ≡ Some d) ⊎ others d

-- ---- one request of a session, where others have drives open

module _ (others : ℕ → Type 0) where
  abbrev Fits : TapeLibrary → PlainSession → Type 0
  Fits s x = AreInSlotsExcept s (Either (online_drive_in x) others)

  given_up : (drive e : ℕ) → e ≢ drive → Either (Some drive) others e → Either None others e
  given_up drive e apart h = grind arith

  taken_up : (drive e : ℕ) → e ≢ drive → Either None others e → Either (Some drive) others e
  taken_up drive e apart h = grind arith

  pub closed_fits : (s : TapeLibrary) (x : PlainSession) → Fits s x → Fits (closed_library s x) Idle
  closed_fits s (Online drive access reel) h =
      lie_laid s drive (Either (Some drive) others) (Either None others) h (given_up drive) (kept_reel (entries_of reel.tape) reel.capacity)
  closed_fits s Idle h = h
  closed_fits s (Offline drive access) h = h

  latched_fits : (device : List ℕ) (asked : Option ℕ) (access : Access) (result : Result (ℕ × PlainReel) DriveFault) (s now : TapeLibrary)
      → OpenStep (λ reel t. reel.tape ≡ t) (λ reel. reel.capacity) device asked result s now → Fits s Idle → Fits now (session_after access result)
  latched_fits device asked access (Ok opened) s now step h =
      rw step.2.2 (lie_latched s opened.0 (Either None others) (Either (Some opened.0) others) h (taken_up opened.0) (inl refl))
  latched_fits device asked access (Err fault) s now step h = grind arith

  opened_fits : (trouble : Trouble) (holders : List ℕ) (v : SessionView) (device : List ℕ) (access : Option Access) (reply : PlainReply)
      (w : SessionView) → v.session ≡ Idle → TroubledOpenStep trouble holders v device access reply w → Fits v.library Idle → Fits w.library w.session
  opened_fits trouble holders v device None reply w idle step h = rw step.1 (rw idle h)
  opened_fits trouble holders v device (Some access) reply w idle (result, asked, step, cause, told, after) h =
      rw after (latched_fits device asked access result v.library w.library step h)

  done_fits : (trouble : Trouble) (v : SessionView) (request : PlainRequest) (reply : PlainReply) (w : SessionView)
      → TroubledDoneStep trouble v request reply w
      → Fits v.library v.session → Fits w.library w.session
  done_fits trouble v request reply w done h =
      let moved = λ (drive : ℕ) (reel : PlainReel) (fits : AreInSlotsExcept v.library (Either (Some drive) others)).
      lie_moved v.library drive (Either (Some drive) others) (Either None others) fits (given_up drive)
      (kept_reel (entries_of reel.tape) reel.capacity) in
      grind (arith, closed_fits v.library v.session h, moved)

  -- a request is refused, or is done so
  unless_refused : {R : Type 0} (o : Option R) (why : R → PlainReply) (Done : Type 0) (v : SessionView) (reply : PlainReply) (w : SessionView)
      → MatchOption o Done (λ r. (reply ≡ why r) × (w ≡ v)) → (Done → Fits w.library w.session) → Fits v.library v.session → Fits w.library w.session
  unless_refused o why Done v reply w m done h = grind arith

  pub served_fits : (trouble : Trouble) (holders : List ℕ) (v : SessionView) (request : PlainRequest) (reply : PlainReply) (w : SessionView)
      → TroubledServeStep trouble holders v request reply w → Fits v.library v.session → Fits w.library w.session
  served_fits trouble holders v (Open device mode) reply w step h =
      opened_fits trouble (with_holder (drive_in v.session) 0 holders) (closed v) device (access_of mode) reply w refl step
      (closed_fits v.library v.session h)
  served_fits trouble holders v request reply w step h =
      unless_refused (refusal (status_of v.session) request) refused (TroubledDoneStep trouble v request reply w) v reply w step
      (λ done. done_fits trouble v request reply w done h) h

-- ---- the sides of all connections

-- the side of a connection other than k has that drive open with its reel
abbrev pub OnlineBeside : List (Option ServerConnection) → ℕ → ℕ → Type 0
OnlineBeside sides k d = (j : ℕ) × (j ≢ k) × (online_by (side_at sides j) ≡ Some d)

by_one : (sides : List (Option ServerConnection)) (k d : ℕ) (own : Option ServerConnection) → side_at sides k ≡ own → IsOnlineAt sides d
    → Either (online_by own) (OnlineBeside sides k) d
by_one sides k d own is on = grind arith

by_all : (sides : List (Option ServerConnection)) (k d : ℕ) (x : Option ServerConnection) → 1 ≤ k → k ≤ length sides
    → Either (online_by x) (OnlineBeside sides k) d → IsOnlineAt (with_side_at sides k x) d
by_all sides k d x first last (inl own) = (k, ap online_by (side_same sides k x first last) ∙ own)
by_all sides k d x first last (inr (j, apart, online)) = (j, ap online_by (side_other sides k j x apart) ∙ online)

-- if more drives may have their reel away, the other reels still lie in their slots
pub lie_while : {s : TapeLibrary} (before after : ℕ → Type 0) → AreInSlotsExcept s before → ((d : ℕ) → before d → after d) → AreInSlotsExcept s after
lie_while before after h more = record { bin = h.bin; below = h.below; first = λ d away. more d (h.first d away) }

-- what one side did
pub side_tidy : (sides : List (Option RealServerConnection)) (k : ℕ) (s : RealServerConnection) → side_at sides k ≡ Some s
    → (x : Option RealServerConnection) (old new : TapeLibrary)
    → AreInSlotsExcept old (IsOnlineAt (map (option_map seen_side) sides))
    → (AreInSlotsExcept old (Either (online_drive_in (session_seen s.session.opened)) (OnlineBeside (map (option_map seen_side) sides) k))
    → AreInSlotsExcept new (Either (online_by (option_map seen_side x)) (OnlineBeside (map (option_map seen_side) sides) k)))
    → AreInSlotsExcept new (IsOnlineAt (map (option_map seen_side) (with_side_at sides k x)))
side_tidy sides k s is x old new h step =
    let all = map (option_map seen_side) sides in
    let own : side_at all k ≡ Some (seen_side s) = side_map seen_side sides k ∙ ap (option_map seen_side) is in
    let within = side_within all k (seen_side s) own in
    let out = lie_while (IsOnlineAt all) (Either (online_by (Some (seen_side s))) (OnlineBeside all k)) h
    (λ d. by_one all k d (Some (seen_side s)) own) in
    rw map_with (lie_while (Either (online_by (option_map seen_side x)) (OnlineBeside all k))
    (IsOnlineAt (with_side_at all k (option_map seen_side x))) (step out) (λ d. by_all all k d (option_map seen_side x) within.0 within.1))

-- one side more
pub joined_tidy : (sides : List (Option RealServerConnection)) (s : RealServerConnection) (library : TapeLibrary)
    → AreInSlotsExcept library (IsOnlineAt (map (option_map seen_side) sides))
    → AreInSlotsExcept library (IsOnlineAt (map (option_map seen_side) (sides ++ Some s ∷ [])))
joined_tidy sides s library h =
    let all = map (option_map seen_side) sides in
    rw map-append (lie_while (IsOnlineAt all) (IsOnlineAt (all ++ Some (seen_side s) ∷ [])) h
    (λ d (k, online). (k, grind (arith, at_more all k (seen_side s)))))

-- a side whose session does not have the drive open is not online there
none_online_at : (side : Option RealServerConnection) (d : ℕ) → ((s : RealServerConnection) → side ≡ Some s → drive_of s.session.opened ≢ Some d)
    → online_by (option_map seen_side side) ≡ Some d → ⊥
none_online_at None d free online = absurd cc
none_online_at (Some s) d free online = free s refl (grind arith)

-- a drive that is open in no session has no side that is online there
pub none_online : (sides : List (Option RealServerConnection)) (d : ℕ)
    → ((k : ℕ) (s : RealServerConnection) → side_at sides k ≡ Some s → drive_of s.session.opened ≢ Some d)
    → IsOnlineAt (map (option_map seen_side) sides) d → ⊥
none_online sides d free (k, online) =
    none_online_at (side_at sides k) d (free k) (sym (ap online_by (side_map seen_side sides k)) ∙ online)
