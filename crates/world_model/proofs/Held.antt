-- Who holds the drives, whatever happens.
use Rattle.world_model.proofs.Basics.{◌≡◌, ◌⊎◌, ℕ, suc, List, length, Option, Some, None, refl, sym, ap, subst, ◌∙◌, inl, arith, slice_get, slice_set, set-set, set-get_or, get_or_from_slice_get, eqb_tells, length-set, same_Some, slice_get-get_or}
use Rattle.world_model.proofs.Terms.{TapeLibrary, SessionView, closed_library, held, ServerState, ServerConnection, side, PlainSession, session_view, drive_in, with_holder, World, PlainEvent, side_of, with_side, ended_from, ended, all_ended, Happens, AreHeld}
use Rattle.world_model.proofs.Numbers.{set_is, set_here, set_other, numbered_first}
use Rattle.world_model.proofs.NamedRequests.{Comes}
pub use Rattle.world_model.proofs.Sides.{side_there}
use Rattle.world_model.proofs.Sides.{Sits, sits_here, sits_other, joined_is, joined_was, KeepsOver, ended_by, all_ended_by}
use Rattle.world_model.proofs.ServerMoves.{ServerMove, reads, serves, restarts, server_after}
use Rattle.world_model.proofs.Moves.{Move, moved, server_move, server_moved, happened}

-- a session that lays its reel back leaves the drives
closed_drives : (s : TapeLibrary) (session : PlainSession) → length (closed_library s session).drives ≡ length s.drives
closed_drives s session = grind (arith, length-set)

-- What a request makes of a drive: it is the one that was open, or one that no other had.
pub record Serves (holders : List ℕ) (before after : SessionView) : Type 0 where
  pub drives : length after.library.drives ≡ length before.library.drives
  pub drive : (d : ℕ) → drive_in after.session ≡ Some d
      → (drive_in before.session ≡ Some d) ⊎ (slice_get (with_holder (drive_in before.session) 0 holders) d ≡ Some 0)

holders_length : (o : Option ℕ) (n : ℕ) (holders : List ℕ) → length (with_holder o n holders) ≡ length holders
holders_length o n holders = grind (arith, length-set)

pub comes_serves : (holders : List ℕ) (before after : SessionView) (opened : Option (List ℕ)) → length holders ≡ length before.library.drives
    → Comes holders before after opened → Serves holders before after
comes_serves holders before after opened places given = grind (arith, closed_drives, length-set, holders_length, same_Some, slice_get-get_or)

-- the drive that a side, if it is live, has open
abbrev pub drive_of_side : Option ServerConnection → Option ℕ
drive_of_side None = None
drive_of_side (Some s) = drive_in s.session

-- A place among the holders, once the drive that was open has none.
cleared_other : (o : Option ℕ) (holders : List ℕ) (d n : ℕ) → slice_get holders d ≡ Some n → (o ≡ Some d → ⊥) → slice_get (with_holder o 0 holders) d ≡ Some n
cleared_other o holders d n at other = grind (arith, set_other)

pub cleared_was : (o : Option ℕ) (holders : List ℕ) (d n : ℕ) → slice_get (with_holder o 0 holders) d ≡ Some (suc n)
    → (slice_get holders d ≡ Some (suc n)) × (o ≡ Some d → ⊥)
cleared_was o holders d n at = grind (arith, set_is, same_Some)

-- A live side is another, or over, and the holders follow: what was open is free, and what is open is its own.
pub record Turns (h : ServerState) (k : ℕ) (s : ServerConnection) (o : Option ServerConnection) (u : ServerState) : Type 0 where
  pub sits : Sits h k s o u
  pub holders : u.holders ≡ with_holder (drive_of_side o) k (with_holder (drive_in s.session) 0 h.holders)
  pub drives : length u.library.drives ≡ length h.library.drives
  pub free : (d : ℕ) → drive_of_side o ≡ Some d → slice_get (with_holder (drive_in s.session) 0 h.holders) d ≡ Some 0

opened_turn : (h : ServerState) (k : ℕ) (s : ServerConnection) (o : Option ServerConnection) (u : ServerState) → Turns h k s o u → AreHeld h
    → (j d : ℕ) (x : ServerConnection) → side_of u j ≡ Some x → drive_in x.session ≡ Some d → slice_get u.holders d ≡ Some j
opened_turn h k s o u t a j d x at drive =
    let mine = sits_here h k s o u t.sits in
    let beside = sits_other h k j s o u t.sits in
    let first = numbered_first u.sides j (Some x) (side_there u j x at) in
    let here = set_here (with_holder (drive_in s.session) 0 h.holders) d 0 k in
    grind (arith, eqb_tells j k, a.opened j d x, a.opened k d s t.sits.was, t.free d, set_other, cleared_other (drive_in s.session) h.holders d j)

-- the holder that is told has it open
told_holder : (h : ServerState) (k : ℕ) (s : ServerConnection) (o : Option ServerConnection) (u : ServerState) → Turns h k s o u → AreHeld h → (j d : ℕ)
    → slice_get (with_holder (drive_in s.session) 0 h.holders) d ≡ Some (suc j) → (x : ServerConnection) × (side_of u (suc j) ≡ Some x) × (drive_in x.session ≡ Some d)
told_holder h k s o u t a j d at =
    let was = cleared_was (drive_in s.session) h.holders d j at in
    let x = a.holds j d was.0 in
    let other : suc j ≡ k → ⊥ = grind arith in
    (x.0, sits_other h k (suc j) s o u t.sits other ∙ x.1, x.2)

holds_from : (h : ServerState) (k : ℕ) (s : ServerConnection) (o : Option ServerConnection) (u : ServerState) (e : Option ℕ) → Turns h k s o u → AreHeld h → drive_of_side o ≡ e → (j d : ℕ)
    → slice_get (with_holder e k (with_holder (drive_in s.session) 0 h.holders)) d ≡ Some (suc j)
    → (x : ServerConnection) × (side_of u (suc j) ≡ Some x) × (drive_in x.session ≡ Some d)
holds_from h k s o u e t a its j d at = grind (arith, told_holder h k s o u t a j d, set_is, sits_here h k s o u t.sits)

pub turned_held : (h : ServerState) (k : ℕ) (s : ServerConnection) (o : Option ServerConnection) (u : ServerState) → Turns h k s o u → AreHeld h → AreHeld u
turned_held h k s o u t a = grind (arith, holders_length, opened_turn, holds_from)

-- a drive that is given back and taken again by its holder
pub taken_again : (holders : List ℕ) (o : Option ℕ) (k : ℕ) → ((d : ℕ) → o ≡ Some d → slice_get holders d ≡ Some k) → with_holder o k (with_holder o 0 holders) ≡ holders
taken_again holders None k mine = refl
taken_again holders (Some d) k mine =
    set-set holders d 0 k ∙ ap (slice_set holders d) (sym (get_or_from_slice_get holders d k 0 (mine d refl))) ∙ set-get_or holders d 0

-- a side more, with nothing open
joined_held : (h : ServerState) → AreHeld h → AreHeld (with_side h)
joined_held h a = record { places = a.places; opened = grind (arith, joined_is); holds = λ k d at. (let x = a.holds k d at in (x.0, joined_was h (suc k) x.0 x.1, x.2)) }

-- a side that is over
over_held : KeepsOver AreHeld
over_held h k s is a = turned_held h k s None _ record {
  sits = record { was = is; sides = refl };
  holders = refl;
  drives = closed_drives h.library s.session;
  free = λ d e. absurd cc;
} a

-- what stays so beside this of a hall of which a side is over
abbrev pub KeepsHeldOver : (ServerState → Type 0) → Type 0
KeepsHeldOver P = (h : ServerState) (k : ℕ) (s : ServerConnection) → side_of h k ≡ Some s → AreHeld h → P h → P (ended_from h k (Some s))

both_over : (P : ServerState → Type 0) → KeepsHeldOver P → KeepsOver (λ h. AreHeld h × P h)
both_over P over h k s is both = (over_held h k s is both.0, over h k s is both.0 both.1)

pub held_ended_by : (P : ServerState → Type 0) → KeepsHeldOver P → (h : ServerState) (k : ℕ) → AreHeld h → P h → P (ended h k)
held_ended_by P over h k a p = (ended_by (λ x. AreHeld x × P x) (both_over P over) h k (a, p)).1

pub held_all_ended_by : (P : ServerState → Type 0) → KeepsHeldOver P → (h : ServerState) (n : ℕ) → AreHeld h → P h → P (all_ended h n)
held_all_ended_by P over h n a p = (all_ended_by (λ x. AreHeld x × P x) (both_over P over) h n (a, p)).1

-- a free place stays free once nothing is open
pub free_then : (holders : List ℕ) (session : PlainSession) (d k : ℕ) → (drive_in session ≡ Some d → slice_get holders d ≡ Some k)
    → (drive_in session ≡ Some d) ⊎ (slice_get (with_holder (drive_in session) 0 holders) d ≡ Some 0)
    → slice_get (with_holder (drive_in session) 0 holders) d ≡ Some 0
free_then holders session d k own way = grind (arith, set_here)

server_held : (h : ServerState) (m : ServerMove h) → AreHeld h → AreHeld (server_after h m)
server_held h (reads k s reached live unread) a = turned_held h k s (Some (side reached s.session)) _ record {
  sits = record { was = live; sides = refl };
  holders = sym (taken_again h.holders (drive_in s.session) k (λ d own. a.opened k d s live own));
  drives = refl;
  free = λ d own. free_then h.holders s.session d k (a.opened k d s live) (inl own);
} a
server_held h (serves k s x library holders opened live unread comes held) a =
    let v = comes_serves h.holders (session_view h.library s.session) (session_view library x.session) opened a.places comes in
    turned_held h k s (Some x) _ record {
      sits = record { was = live; sides = refl };
      holders = held;
      drives = v.drives;
      free = λ d drive. free_then h.holders s.session d k (a.opened k d s live) (v.drive d drive);
    } a
server_held h restarts a = all_ended_by AreHeld over_held h (length h.sides) a
server_held h m a = grind (arith, joined_held, over_held, length-set)

pub held_moved : (w : World) (m : Move w) → AreHeld w.server → AreHeld (moved w m).server
held_moved w m a = subst AreHeld (sym (server_moved w m)) (server_held w.server (server_move w m) a)

pub held_after : (w : World) (event : PlainEvent) (u : World) → Happens w event u → AreHeld w.server → AreHeld u.server
held_after w event u happens a = let m = happened w event u happens in subst (λ (x : World). AreHeld x.server) (sym m.1) (held_moved w m.0 a)
