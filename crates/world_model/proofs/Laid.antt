-- Where reels lie, whatever happens.
use Rattle.world_model.proofs.Basics.{◌≡◌, ◌≢◌, ◌⊎◌, ℕ, zero, suc, ◌<◌, Bool, cond, List, [], ◌∷◌, ◌++◌, length, take, drop, Option, Some, None, refl, sym, ap, subst, ◌∙◌, inl, inr, arith, slice_get, slice_set, slice_index_or, option_map, find, cons_option, remove_key, bytes_eq, eqb_tells, get_or-set_same, get_or-set_other, same_Some, slice_get_within, get_or_from_slice_get}
use Rattle.world_model.proofs.Terms.{Access, PlainReel, held, entries_of, TapeLibrary, KeptReel, kept_reel, ReelSlot, Drive, drive_with, drive_at, with_first, first_reel, waiting_reel, after_latch, picked, left, slot_named, without, ServerState, server, ServerConnection, side, PlainSession, session_view, closed_library, Idle, Online, drive_in, with_holder, World, numbered, with_numbered, side_of, AreThere, IsFirstAway, online_drive_in, IsOnlineAt, AreHeld, AreLaid}
use Rattle.world_model.proofs.Ground.{side_there, set_other, with_here, with_twice, use_of, Comes, stays, closes, opens, moves, comes_serves, ServerMove, leaves, reads, arranges, server_after, Move, moved, server_move, server_moved, Sits, sits_here, sits_other, sits_is, joined_is, joined_was, KeepsHeldOver, held_ended_by, held_all_ended_by, free_then}
use Rattle.world_model.proofs.ServerMoves.{joins, serves, ends, restarts}

-- an online session has its drive open
pub online_drive : (s : PlainSession) (d : ℕ) → online_drive_in s ≡ Some d → drive_in s ≡ Some d
online_drive s d is = grind arith

abbrev online_of : Option ServerConnection → Option ℕ
online_of None = None
online_of (Some s) = online_drive_in s.session

-- a session of another connection is online there
abbrev pub IsOnlineElse : ServerState → ℕ → ℕ → Type 0
IsOnlineElse h k d = (j : ℕ) × (j ≢ k) × ((s : ServerConnection) × (side_of h j ≡ Some s) × (online_drive_in s.session ≡ Some d))

-- a session of another connection has it open
abbrev pub IsOpenElse : ServerState → ℕ → ℕ → Type 0
IsOpenElse h k d = (j : ℕ) × (j ≢ k) × ((s : ServerConnection) × (side_of h j ≡ Some s) × (drive_in s.session ≡ Some d))

pub online_else : (h : ServerState) (k d : ℕ) → IsOnlineElse h k d → IsOpenElse h k d
online_else h k d (j, other, (x, at, online)) = (j, other, (x, at, online_drive x.session d online))

-- who is online afterwards, and who was before
now_online : (h : ServerState) (k : ℕ) (s : ServerConnection) (o : Option ServerConnection) (u : ServerState) → Sits h k s o u → (d : ℕ) → IsOnlineAt u d → (online_of o ≡ Some d) ⊎ IsOnlineElse h k d
now_online h k s o u t d (j, x, at, online) = elim (sits_is h k s o u t j x at) [
  | inl (same, own) ↦ inl (ap online_of own ∙ online)
  | inr (other, was) ↦ inr (j, other, (x, was, online))
]

was_online : (h : ServerState) (k : ℕ) (s : ServerConnection) → side_of h k ≡ Some s → (d : ℕ) → IsOnlineAt h d → (online_drive_in s.session ≡ Some d) ⊎ IsOnlineElse h k d
was_online h k s was d given = grind (arith, same_Some)

pub else_stays : (h : ServerState) (k : ℕ) (s : ServerConnection) (o : Option ServerConnection) (u : ServerState) → Sits h k s o u → (d : ℕ) → IsOnlineElse h k d → IsOnlineAt u d
else_stays h k s o u t d (j, other, (x, at, online)) = (j, x, sits_other h k j s o u t other ∙ at, online)

pub else_was : (h : ServerState) (k d : ℕ) → IsOnlineElse h k d → IsOnlineAt h d
else_was h k d (j, other, (x, at, online)) = (j, x, at, online)

own_there : (h : ServerState) (k : ℕ) (s : ServerConnection) (o : Option ServerConnection) (u : ServerState) → Sits h k s o u → (d : ℕ) → online_of o ≡ Some d → IsOnlineAt u d
own_there h k s None u t d online = absurd cc
own_there h k s (Some x) u t d online = ((k, x, sits_here h k s (Some x) u t, online))

-- no other has a drive open that a session has open
pub alone_at : (h : ServerState) (k : ℕ) (s : ServerConnection) (d : ℕ) → AreHeld h → side_of h k ≡ Some s → drive_in s.session ≡ Some d → IsOpenElse h k d → ⊥
alone_at h k s d a was own (j, other, (x, at, has)) = other (same_Some j k (sym (a.opened j d x at has) ∙ a.opened k d s was own))

-- nor has one open what that session has afterwards
pub apart : (h u : ServerState) (k : ℕ) (s x : ServerConnection) → Sits h k s (Some x) u → AreHeld u → (d : ℕ) → IsOpenElse h k d → drive_in x.session ≡ Some d → ⊥
apart h u k s x t b d (j, other, (y, at, has)) drive =
    alone_at u k x d b (sits_here h k s (Some x) u t) drive (j, other, (y, sits_other h k j s (Some x) u t other ∙ at, has))

-- nor at a drive that has no holder once what a session had open is laid back
free_from : (o : Option ℕ) (holders : List ℕ) (k j d : ℕ) → slice_get (with_holder o 0 holders) d ≡ Some 0 → slice_get holders d ≡ Some (suc j)
    → ((e : ℕ) → o ≡ Some e → slice_get holders e ≡ Some k) → suc j ≡ k
free_from o holders k j d free holder own = grind (arith, same_Some, set_other)

alone_free : (h : ServerState) (k : ℕ) (s : ServerConnection) (d : ℕ) → AreHeld h → side_of h k ≡ Some s → slice_get (with_holder (drive_in s.session) 0 h.holders) d ≡ Some 0
    → IsOnlineElse h k d → ⊥
alone_free h k s d a was free (zero, other, (x, at, online)) = let none : numbered h.sides zero ≡ Some (Some x) = side_there h zero x at in cc
alone_free h k s d a was free (suc j, other, (x, at, online)) =
    other (free_from (drive_in s.session) h.holders k j d free (a.opened (suc j) d x at (online_drive x.session d online)) (λ e own. a.opened k e s was own))

-- stacks of which the first is laid back, or latched, or taken away
laid_first : (reel : KeptReel) (stack : List (ReelSlot KeptReel)) → IsFirstAway stack → AreThere (with_first (Some reel) stack)
laid_first reel stack given = grind arith

latched_first : (stack : List (ReelSlot KeptReel)) (first : KeptReel) → first_reel stack ≡ Some first → AreThere stack → IsFirstAway (with_first None stack)
latched_first stack first waits given = grind arith

behind_first : (stack : List (ReelSlot KeptReel)) → IsFirstAway stack → AreThere (drop 1 stack)
behind_first stack given = grind arith

there_more : (xs ys : List (ReelSlot KeptReel)) → AreThere xs → AreThere ys → AreThere (xs ++ ys)
there_more [] ys one two = two
there_more (x ∷ xs) ys (here, one) two = (here, there_more xs ys one two)

-- the rack of a drive, where one was changed
pub drive_same : (drives : List (Drive KeptReel)) (e : ℕ) (r d : Drive KeptReel) → e < length drives → slice_index_or (slice_set drives e r) e d ≡ r
drive_same drives e r d within = get_or-set_same drives e r d within

pub drive_other : (drives : List (Drive KeptReel)) (e j : ℕ) (r d : Drive KeptReel) → j ≢ e → slice_index_or (slice_set drives e r) j d ≡ slice_index_or drives j d
drive_other drives e j r d other = get_or-set_other drives e j r d other

-- One rack is changed, of a drive at which only the side that turns is online, before or afterwards.
record Shifts (h : ServerState) (k : ℕ) (s : ServerConnection) (o : Option ServerConnection) (u : ServerState) (e : ℕ) (r : Drive KeptReel) : Type 0 where
  sits : Sits h k s o u
  drives : u.library.drives ≡ slice_set h.library.drives e r
  within : e < length h.library.drives
  alone : IsOnlineElse h k e → ⊥
  before : (d : ℕ) → online_drive_in s.session ≡ Some d → d ≡ e
  after : (d : ℕ) → online_of o ≡ Some d → d ≡ e
  away : online_of o ≡ Some e → IsFirstAway r.stack
  there : (online_of o ≡ Some e → ⊥) → AreThere r.stack
  bin : AreThere u.library.bin

here_drive : (h : ServerState) (k : ℕ) (s : ServerConnection) (o : Option ServerConnection) (u : ServerState) (e : ℕ) (r : Drive KeptReel) → Shifts h k s o u e r → drive_at u.library e ≡ r
here_drive h k s o u e r t = ap (λ l. slice_index_or l e (drive_with [] [])) t.drives ∙ drive_same h.library.drives e r (drive_with [] []) t.within

other_drive : (h : ServerState) (k : ℕ) (s : ServerConnection) (o : Option ServerConnection) (u : ServerState) (e d : ℕ) (r : Drive KeptReel) → Shifts h k s o u e r → d ≢ e → drive_at u.library d ≡ drive_at h.library d
other_drive h k s o u e d r t other = ap (λ l. slice_index_or l d (drive_with [] [])) t.drives ∙ drive_other h.library.drives e d r (drive_with [] []) other

latched_shift : (h : ServerState) (k : ℕ) (s : ServerConnection) (o : Option ServerConnection) (u : ServerState) (e : ℕ) (r : Drive KeptReel) → Shifts h k s o u e r → AreLaid h
    → (d : ℕ) → IsOnlineAt u d → IsFirstAway (drive_at u.library d).stack
latched_shift h k s o u e r t l d on =
    grind (arith, now_online h k s o u t.sits d on, here_drive h k s o u e r t, other_drive h k s o u e d r t, t.after d, t.alone, else_was h k d, l.latched d)

lying_shift : (h : ServerState) (k : ℕ) (s : ServerConnection) (o : Option ServerConnection) (u : ServerState) (e : ℕ) (r : Drive KeptReel) → Shifts h k s o u e r → AreLaid h
    → (d : ℕ) → (IsOnlineAt u d → ⊥) → AreThere (drive_at u.library d).stack
lying_shift h k s o u e r t l d off = elim (eqb_tells d e) [
  | inl (equal, same) ↦ subst (λ (x : Drive KeptReel). AreThere x.stack) (sym (ap (drive_at u.library) same ∙ here_drive h k s o u e r t))
      (t.there (λ own. off (subst (IsOnlineAt u) (sym same) (own_there h k s o u t.sits e own))))
  | inr (unequal, other) ↦ subst (λ (x : Drive KeptReel). AreThere x.stack) (sym (other_drive h k s o u e d r t other))
      (l.lying d (λ on. elim (was_online h k s t.sits.was d on) [
        | inl own ↦ other (t.before d own)
        | inr elsewhere ↦ off (else_stays h k s o u t.sits d elsewhere)
      ]))
]

shift_laid : (h : ServerState) (k : ℕ) (s : ServerConnection) (o : Option ServerConnection) (u : ServerState) (e : ℕ) (r : Drive KeptReel) → Shifts h k s o u e r → AreLaid h → AreLaid u
shift_laid h k s o u e r t l = record { latched = latched_shift h k s o u e r t l; lying = lying_shift h k s o u e r t l; bin = t.bin }

-- the drives and who is online at each stay
still_laid : (h u : ServerState) → u.library ≡ h.library → ((d : ℕ) → IsOnlineAt u d → IsOnlineAt h d) → ((d : ℕ) → IsOnlineAt h d → IsOnlineAt u d) → AreLaid h → AreLaid u
still_laid h u library back on l = record {
  latched = λ d at. subst (λ (v : TapeLibrary). IsFirstAway (drive_at v d).stack) (sym library) (l.latched d (back d at));
  lying = λ d off. subst (λ (v : TapeLibrary). AreThere (drive_at v d).stack) (sym library) (l.lying d (λ at. off (on d at)));
  bin = subst (λ (v : TapeLibrary). AreThere v.bin) (sym library) l.bin;
}

-- the side that turns is online as before
turn_laid : (h : ServerState) (k : ℕ) (s : ServerConnection) (o : Option ServerConnection) (u : ServerState) → Sits h k s o u → u.library ≡ h.library
    → online_of o ≡ online_drive_in s.session → AreLaid h → AreLaid u
turn_laid h k s o u t library same l = still_laid h u library (λ d on. elim (now_online h k s o u t d on) [
  | inl own ↦ (k, s, t.was, sym same ∙ own)
  | inr elsewhere ↦ else_was h k d elsewhere
]) (λ d on. grind (arith, was_online h k s t.was d on, own_there h k s o u t d, else_stays h k s o u t d)) l

-- the place of a drive that a session has open
pub drive_within : (h : ServerState) (k : ℕ) (s : ServerConnection) (d : ℕ) → AreHeld h → side_of h k ≡ Some s → drive_in s.session ≡ Some d → d < length h.library.drives
drive_within h k s d a was own =
    let places = a.places in omega (arith, slice_get_within h.holders d k (a.opened k d s was own), places)

-- what a session had open is laid back
back_laid : (h : ServerState) (k : ℕ) (s : ServerConnection) (o : Option ServerConnection) (u : ServerState) (d : ℕ) (access : Access) (reel : PlainReel)
    → s.session ≡ Online d access reel
    → Sits h k s o u → u.library ≡ closed_library h.library (Online d access reel) → online_of o ≡ None → AreHeld h → AreLaid h → AreLaid u
back_laid h k s o u d access reel is t library off a l =
    let within = drive_within h k s d a t.was (ap drive_in is) in
    let alone = alone_at h k s d a t.was (ap drive_in is) in
    let away = l.latched d (k, s, t.was, ap online_drive_in is) in
    shift_laid h k s o u d (drive_with (drive_at h.library d).name (with_first (Some (kept_reel (entries_of reel.tape) reel.capacity)) (drive_at h.library d).stack))
    (grind (arith, online_else, laid_first)) l

closed_laid : (h : ServerState) (k : ℕ) (s : ServerConnection) (o : Option ServerConnection) (u : ServerState) (session : PlainSession) → s.session ≡ session → Sits h k s o u → u.library ≡ closed_library h.library session
    → online_of o ≡ None → AreHeld h → AreLaid h → AreLaid u
closed_laid h k s o u (Online drive access reel) is t library off a l = back_laid h k s o u drive access reel is t library off a l
closed_laid h k s o u session is t library off a l = turn_laid h k s o u t library (off ∙ sym (ap online_drive_in is)) l

-- the first reel of a free drive is latched
open_laid : (h : ServerState) (k : ℕ) (s x : ServerConnection) (u : ServerState) (d : ℕ) (first : KeptReel) → Sits h k s (Some x) u → online_drive_in s.session ≡ None → online_drive_in x.session ≡ Some d
    → waiting_reel h.library d ≡ Some first → u.library ≡ after_latch h.library d → d < length h.library.drives → (IsOnlineElse h k d → ⊥) → AreLaid h → AreLaid u
open_laid h k s x u d first t off on waits library within alone l =
    shift_laid h k s (Some x) u d (drive_with (drive_at h.library d).name (with_first None (drive_at h.library d).stack)) (grind (arith, was_online, latched_first)) l

-- the latched reel lies in the bin
moved_laid : (h : ServerState) (k : ℕ) (s x : ServerConnection) (u : ServerState) (d : ℕ) (reel : KeptReel) → Sits h k s (Some x) u → online_drive_in s.session ≡ Some d → online_drive_in x.session ≡ None
    → u.library.drives ≡ slice_set h.library.drives d (drive_with (drive_at h.library d).name (drop 1 (drive_at h.library d).stack))
    → u.library.bin ≡ h.library.bin ++ with_first (Some reel) (take 1 (drive_at h.library d).stack) → AreHeld h → AreLaid h → AreLaid u
moved_laid h k s x u d reel t on off drives bin a l =
    shift_laid h k s (Some x) u d (drive_with (drive_at h.library d).name (drop 1 (drive_at h.library d).stack))
    (grind (arith, drive_within, alone_at, online_else, online_drive, behind_first, there_more)) l

-- A hall between a close and an open: the session has nothing open.
abbrev idle_server : ServerState → ℕ → ServerConnection → ServerState
idle_server h k s = server (closed_library h.library s.session) h.holders (with_numbered h.sides k (Some (side s.reached Idle)))

idle_laid : (h : ServerState) (k : ℕ) (s : ServerConnection) → side_of h k ≡ Some s → AreHeld h → AreLaid h → AreLaid (idle_server h k s)
idle_laid h k s was a l = closed_laid h k s (Some (side s.reached Idle)) (idle_server h k s) s.session refl record { was = was; sides = refl } refl refl a l

-- no other is online there in between
idle_else : (h : ServerState) (k : ℕ) (s : ServerConnection) (d : ℕ) → side_of h k ≡ Some s → IsOnlineElse (idle_server h k s) k d → IsOnlineElse h k d
idle_else h k s d was (j, other, (x, at, online)) =
    (j, other, (x, sym (sits_other h k j s (Some (side s.reached Idle)) (idle_server h k s) record { was = was; sides = refl } other) ∙ at, online))

-- what a session is online with is told by what it uses
online_use : (s : PlainSession) → online_drive_in s ≡ option_map (λ x. x.0) (use_of s)
online_use s = grind arith

use_online : (s t : PlainSession) → use_of s ≡ use_of t → online_drive_in s ≡ online_drive_in t
use_online s t same = online_use s ∙ ap (option_map (λ x. x.0)) same ∙ sym (online_use t)

-- one request of a session
comes_laid : (h : ServerState) (k : ℕ) (s x : ServerConnection) (u : ServerState) (opened : Option (List ℕ)) → Sits h k s (Some x) u → AreHeld h → AreLaid h
    → ((d : ℕ) → drive_in x.session ≡ Some d → slice_get (with_holder (drive_in s.session) 0 h.holders) d ≡ Some 0)
    → Comes h.holders (session_view h.library s.session) (session_view u.library x.session) opened → AreLaid u
comes_laid h k s x u opened t a l none (stays library session drive same) = turn_laid h k s (Some x) u t library (use_online x.session s.session session) l
comes_laid h k s x u opened t a l none (closes library session same) = closed_laid h k s (Some x) u s.session refl t library (ap online_drive_in session) a l
comes_laid h k s x u opened t a l none (opens drive access reel first within waits free library session new) =
    open_laid (idle_server h k s) k (side s.reached Idle) x u drive first (grind (arith, with_here, side_there, with_twice)) refl (ap online_drive_in session)
    waits library within
    (λ elsewhere. alone_free h k s drive a t.was (none drive (ap drive_in session)) (idle_else h k s drive t.was elsewhere)) (idle_laid h k s t.was a l)
comes_laid h k s x u opened t a l none (moves drive access reel online library session same) =
    moved_laid h k s x u drive (kept_reel (entries_of reel.tape) reel.capacity) t (ap online_drive_in online) (ap online_drive_in session) (ap (λ (v : TapeLibrary). v.drives) library)
    (ap (λ (v : TapeLibrary). v.bin) library) a l

-- a side that is over
over_laid : KeepsHeldOver AreLaid
over_laid h k s is a l = closed_laid h k s None _ s.session refl record { was = is; sides = refl } refl refl a l

-- an operator's order: reels are picked from those that lie there
found_there : (test : ReelSlot KeptReel → Bool) (b : Bool) (x : ReelSlot KeptReel) (xs : List (ReelSlot KeptReel)) → ((reel : KeptReel) × (x.reel ≡ Some reel))
    → ((y : ReelSlot KeptReel) → find test xs ≡ Some y → (reel : KeptReel) × (y.reel ≡ Some reel))
    → (y : ReelSlot KeptReel) → cond b (Some x) (find test xs) ≡ Some y → (reel : KeptReel) × (y.reel ≡ Some reel)
found_there test b x xs here rest y is = grind arith

find_there : (test : ReelSlot KeptReel → Bool) (xs : List (ReelSlot KeptReel)) → AreThere xs → (y : ReelSlot KeptReel) → find test xs ≡ Some y → (reel : KeptReel) × (y.reel ≡ Some reel)
find_there test [] there y is = absurd cc
find_there test (x ∷ xs) (here, there) y is = found_there test (test x) x xs here (find_there test xs there) y is

removed_if : (b : Bool) (x : ReelSlot KeptReel) (xs ys : List (ReelSlot KeptReel)) → ((reel : KeptReel) × (x.reel ≡ Some reel)) → AreThere xs → AreThere ys → AreThere (cond b xs (x ∷ ys))
removed_if b x xs ys here all rest = grind arith

without_there : (test : ReelSlot KeptReel → Bool) (xs : List (ReelSlot KeptReel)) → AreThere xs → AreThere (remove_key test xs)
without_there test [] there = tt
without_there test (x ∷ xs) (here, there) = removed_if (test x) x xs (remove_key test xs) here there (without_there test xs there)

with_found : (o : Option (ReelSlot KeptReel)) (xs : List (ReelSlot KeptReel)) → ((y : ReelSlot KeptReel) → o ≡ Some y → (reel : KeptReel) × (y.reel ≡ Some reel)) → AreThere xs
    → AreThere (cons_option o xs)
with_found o xs found there = grind arith

picked_there : (names : List (List ℕ)) (xs : List (ReelSlot KeptReel)) → AreThere xs → AreThere (picked names xs)
picked_there [] xs there = tt
picked_there (name ∷ names) xs there =
    with_found (slot_named name xs) (picked names (without name xs)) (find_there (λ x. bytes_eq name x.name) xs there)
    (picked_there names (without name xs) (without_there (λ x. bytes_eq name x.name) xs there))

left_there : (names : List (List ℕ)) (xs : List (ReelSlot KeptReel)) → AreThere xs → AreThere (left names xs)
left_there [] xs there = there
left_there (name ∷ names) xs there = left_there names (without name xs) (without_there (λ x. bytes_eq name x.name) xs there)

-- nobody is online at a drive that has no holder
pub free_off : (h : ServerState) (d : ℕ) → AreHeld h → slice_index_or h.holders d 0 ≡ 0 → IsOnlineAt h d → ⊥
free_off h d a free (zero, x, at, on) = let none : numbered h.sides zero ≡ Some (Some x) = side_there h zero x at in cc
free_off h d a free (suc k, x, at, on) =
    let holder = a.opened (suc k) d x at (online_drive x.session d on) in
    let clash : 0 ≡ suc k = sym free ∙ get_or_from_slice_get h.holders d (suc k) 0 holder in omega (arith, clash)

server_laid : (h : ServerState) (m : ServerMove h) → AreHeld h → AreLaid h → AreLaid (server_after h m)
server_laid h leaves a l = l
server_laid h joins a l = grind (arith, still_laid, joined_is, joined_was)
server_laid h (reads k s reached live unread) a l = turn_laid h k s (Some (side reached s.session)) _ record { was = live; sides = refl } refl refl l
server_laid h (serves k s x library holders opened live unread comes held) a l =
    let v = comes_serves h.holders (session_view h.library s.session) (session_view library x.session) opened a.places comes in
    comes_laid h k s x (server library holders (with_numbered h.sides k (Some x))) opened record { was = live; sides = refl } a l
    (λ d drive. free_then h.holders s.session d k (a.opened k d s live) (v.drive d drive)) comes
server_laid h (ends k) a l = held_ended_by AreLaid over_laid h k a l
server_laid h restarts a l = held_all_ended_by AreLaid over_laid h (length h.sides) a l
server_laid h (arranges d names within free) a l = grind (arith, free_off, there_more, drive_same, drive_other, picked_there, left_there)

pub laid_moved : (w : World) (m : Move w) → AreHeld w.server → AreLaid w.server → AreLaid (moved w m).server
laid_moved w m a l = subst AreLaid (sym (server_moved w m)) (server_laid w.server (server_move w m) a l)
