-- The names of reels, whatever happens.
use Rattle.world_model.proofs.Basics.{◌≡◌, ◌⊎◌, ℕ, ◌+◌, ◌<◌, ◌≤◌, Bool, true, false, List, [], ◌∷◌, ◌++◌, length, take, drop, map, flat_map, Option, Some, None, Contains, refl, sym, ap, subst, ◌∙◌, inl, inr, arith, sum_by, list_any, sum_by-append, sum_by-cons, bytes_eq, option_to_list, option_map, append-nil, Contains-push_cases, bytes_eq-Decides}
use Rattle.world_model.proofs.Terms.{entries_of, KeptReel, kept_reel, ReelSlot, slot, Drive, drive_with, TapeLibrary, library, drive_at, slots_in, names_of, names_in, times, with_first, at_first, to_bin, bit, named, times_named, sum_by_with_drive, are_distinct, times_arranged, ServerState, ServerConnection, side, PlainSession, SessionView, session_view, closed_library, Online, drive_in, World, Opening, PlainEvent, side_of, first_name, written_reel, opened_reel, opening, Happens, PlainDriveSpec, AreGoodDrives, blank_drive, first_world, IsFirstAway, online_drive_in, AreHeld, HasReel, AreLaid, SameNames, AreNamed}
use Rattle.world_model.proofs.Ground.{sits_here, KeepsHeldOver, held_ended_by, held_all_ended_by, Comes, stays, closes, opens, moves, ServerMove, arranges, server_after, Move, moved, server_move, server_moved, happened}
use Rattle.world_model.proofs.Laid.{online_drive, drive_within}
use Rattle.world_model.proofs.ServerMoves.{serves, ends, restarts}
use Rattle.world_model.proofs.Moves as move

-- and what is taken from it, with what is left
taken_names : (name : List ℕ) (reel : KeptReel) (stack : List (ReelSlot KeptReel))
    → sum_by (named name) (drop 1 stack) + sum_by (named name) (with_first (Some reel) (take 1 stack)) ≡ sum_by (named name) stack
taken_names name reel [] = refl
taken_names name reel (first ∷ rest) = omega (arith, sum_by-cons (named name) (slot first.name (Some reel)) [], sum_by-cons (named name) first rest)

-- names stay where sums of them do
by_sums : (s u : TapeLibrary) → ((name : List ℕ) → sum_by (named name) (slots_in u) ≡ sum_by (named name) (slots_in s)) → SameNames s u
by_sums s u sums name = times_named name (slots_in u) ∙ sums name ∙ sym (times_named name (slots_in s))

pub at_first_names : (s : TapeLibrary) (d : ℕ) (reel : Option KeptReel) → d < length s.drives → SameNames s (at_first s d reel)
at_first_names s d reel within = by_sums s (at_first s d reel) (grind (arith, sum_by_with_drive))

pub to_bin_names : (s : TapeLibrary) (d : ℕ) (reel : KeptReel) → d < length s.drives → SameNames s (to_bin s d reel)
to_bin_names s d reel within = by_sums s (to_bin s d reel) (λ name. (let r = drive_at s d in
    let put = with_first (Some reel) (take 1 r.stack) in
    let whole = sum_by_with_drive (named name) s d (drive_with r.name (drop 1 r.stack)) within in
    grind (arith, sum_by-append, taken_names)))

-- what was open is laid back
closed_names : (h : ServerState) (k : ℕ) (s : ServerConnection) → side_of h k ≡ Some s → AreHeld h → (session : PlainSession) → s.session ≡ session → SameNames h.library (closed_library h.library session)
closed_names h k s was a (Online drive access reel) is =
    at_first_names h.library drive (Some (kept_reel (entries_of reel.tape) reel.capacity)) (drive_within h k s drive a was (ap drive_in is))
closed_names h k s was a session is = grind arith

-- one request of a session
comes_names : (holders : List ℕ) (h : ServerState) (k : ℕ) (s : ServerConnection) (after : SessionView) (opened : Option (List ℕ)) → side_of h k ≡ Some s → AreHeld h → Comes holders (session_view h.library s.session) after opened
    → SameNames h.library after.library
comes_names holders h k s after opened was a (stays library session drive none) name = ap (λ (v : TapeLibrary). times name (names_in v)) library
comes_names holders h k s after opened was a (closes library session none) name =
    ap (λ (v : TapeLibrary). times name (names_in v)) library ∙ closed_names h k s was a s.session refl name
comes_names holders h k s after opened was a (opens drive access reel first within waits free library session new) name =
    ap (λ (v : TapeLibrary). times name (names_in v)) library ∙ at_first_names (closed_library h.library s.session) drive None within name
    ∙ closed_names h k s was a s.session refl name
comes_names holders h k s after opened was a (moves drive access reel online library session none) name =
    ap (λ (v : TapeLibrary). times name (names_in v)) library
    ∙ to_bin_names h.library drive (kept_reel (entries_of reel.tape) reel.capacity) (drive_within h k s drive a was (ap drive_in online)) name

-- a side that is over
over_names : (base : TapeLibrary) → KeepsHeldOver (λ h. SameNames base h.library)
over_names base h k s is a same name = closed_names h k s is a s.session refl name ∙ same name

-- each event
server_names : (h : ServerState) (m : ServerMove h) → AreHeld h → SameNames h.library (server_after h m).library
server_names h (serves k s x library holders opened live unread comes held) a = comes_names h.holders h k s (session_view library x.session) opened live a comes
server_names h (ends k) a = held_ended_by (λ u. SameNames h.library u.library) (over_names h.library) h k a (λ name. refl)
server_names h restarts a = held_all_ended_by (λ u. SameNames h.library u.library) (over_names h.library) h (length h.sides) a (λ name. refl)
server_names h (arranges d names within free) a = times_arranged h.library d names within
server_names h m a = λ name. refl

names_moved : (w : World) (m : Move w) → AreHeld w.server → SameNames w.server.library (moved w m).server.library
names_moved w m a = subst (λ (h : ServerState). SameNames w.server.library h.library) (sym (server_moved w m)) (server_names w.server (server_move w m) a)

pub names_after : (w : World) (event : PlainEvent) (u : World) → Happens w event u → AreHeld w.server → SameNames w.server.library u.server.library
names_after w event u happens a =
    let m = happened w event u happens in subst (λ (x : World). SameNames w.server.library x.server.library) (sym m.1) (names_moved w m.0 a)

-- the openings, where one may have been added
pub opening_is : (all : List Opening) (k : ℕ) (opened : Option (List ℕ)) (o : Opening) → Contains (all ++ option_to_list (option_map (opening k) opened)) o
    → (Contains all o) ⊎ ((reel : List ℕ) × (opened ≡ Some reel) × (o ≡ opening k reel))
opening_is all k None o among = inl (subst (λ l. Contains l o) (append-nil all) among)
opening_is all k (Some reel) o among = elim (Contains-push_cases all (opening k reel) o among) [
  | inl before ↦ inl before
  | inr is ↦ inr (reel, refl, sym is)
]

-- the first reel of a stack is there
pub first_times : (stack : List (ReelSlot KeptReel)) → IsFirstAway stack → 0 < sum_by (named (first_name stack)) stack
first_times [] away = absurd away
first_times (first ∷ rest) away =
    let one : named first.name first ≡ 1 = ap bit ((bytes_eq-Decides first.name first.name).1 refl) in
    omega (arith, one, sum_by-cons (named first.name) first rest)

first_is_reel : (s : TapeLibrary) (d : ℕ) → d < length s.drives → IsFirstAway (drive_at s d).stack → HasReel s (first_name (drive_at s d).stack)
first_is_reel s d within away =
    let part = sum_by_with_drive (named (first_name (drive_at s d).stack)) s d (drive_with [] []) within in
    grind (arith, first_times, times_named)

-- what a session that writes has open
pub written_is : (s : TapeLibrary) (session : PlainSession) (reel : List ℕ) → written_reel s session ≡ Some reel
    → (d : ℕ) × (online_drive_in session ≡ Some d) × (first_name (drive_at s d).stack ≡ reel)
written_is s session reel is = grind arith

-- the reel that was opened is there
opened_is_reel : (h : ServerState) (k : ℕ) (x : ServerConnection) (reel : List ℕ) → side_of h k ≡ Some x → AreHeld h → AreLaid h → written_reel h.library x.session ≡ Some reel → HasReel h.library reel
opened_is_reel h k x reel live a l is = grind (arith, first_is_reel, drive_within, online_drive)

-- the names and the openings, after an event that made no opening, or one
served_named : (w u : World) (k : ℕ) (opened : Option (List ℕ)) → SameNames w.server.library u.server.library → u.opens ≡ w.opens ++ option_to_list (option_map (opening k) opened)
    → ((reel : List ℕ) → opened ≡ Some reel → HasReel u.server.library reel) → AreNamed w → AreNamed u
served_named w u k opened same made new n = record {
  once = λ name. subst (λ m. m ≤ 1) (sym (same name)) (n.once name);
  opened = λ o among. elim (opening_is w.opens k opened o (subst (λ l. Contains l o) made among)) [
    | inl before ↦ subst (λ m. 0 < m) (sym (same o.reel)) (n.opened o before)
    | inr (reel, is, its) ↦ subst (λ (z : Opening). HasReel u.server.library z.reel) (sym its) (new reel is)
  ];
}

-- the reel that a request opened is there
pub comes_reel : (holders : List ℕ) (before after : SessionView) (opened : Option (List ℕ)) → Comes holders before after opened → (reel : List ℕ) → opened ≡ Some reel
    → written_reel after.library after.session ≡ Some reel
comes_reel holders before after opened given reel is = grind arith

pub named_moved : (w : World) (m : Move w) → AreHeld w.server → AreHeld (moved w m).server → AreLaid (moved w m).server → AreNamed w → AreNamed (moved w m)
named_moved w (move.serves t) before a l n =
    let u = moved w (move.serves t) in
    served_named w u t.k (opened_reel t.request t.library t.session) (names_moved w (move.serves t) before) refl
    (λ reel new. opened_is_reel u.server t.k (side t.reached t.session) reel (sits_here w.server t.k t.s (Some (side t.reached t.session)) u.server record { was = t.live; sides = refl }) a l
    (grind arith)) n
named_moved w m before a l n = served_named w _ 0 None (names_moved w m before) (sym (append-nil w.opens)) (λ reel none. absurd cc) n

-- the names of the first world
none_times : (name : List ℕ) (names : List (List ℕ)) → list_any (bytes_eq name) names ≡ false → times name names ≡ 0
none_times name [] none = refl
none_times name (n ∷ names) none = grind (arith, none_times name names)

distinct_if : (name n : List ℕ) (names : List (List ℕ)) (b : Bool) → bytes_eq name n ≡ b → list_any (bytes_eq n) names ≡ false → times name names ≤ 1
    → times name (n ∷ names) ≤ 1
distinct_if name n names b is apart more =
    grind (arith, bytes_eq-Decides name n, none_times n names apart, sum_by-cons (λ m. bit (bytes_eq name m)) n names, ap (λ m. times m names))

distinct_once : (names : List (List ℕ)) → are_distinct names ≡ true → (name : List ℕ) → times name names ≤ 1
distinct_once [] distinct name = omega arith
distinct_once (n ∷ names) distinct name =
    distinct_if name n names (bytes_eq name n) refl (grind arith) (distinct_once names (grind arith) name)

names_more : (xs ys : List (ReelSlot KeptReel)) → names_of (xs ++ ys) ≡ names_of xs ++ names_of ys
names_more [] ys = refl
names_more (x ∷ xs) ys = ap (λ l. x.name ∷ l) (names_more xs ys)

blank_names : (capacity : ℕ) (names : List (List ℕ)) → names_of (map (λ name. slot name (Some (kept_reel [] capacity))) names) ≡ names
blank_names capacity [] = refl
blank_names capacity (name ∷ names) = ap (λ l. name ∷ l) (blank_names capacity names)

first_world_names : (drives : List PlainDriveSpec) → names_of (flat_map (λ (r : Drive KeptReel). r.stack) (map blank_drive drives)) ≡ flat_map (λ (d : PlainDriveSpec). d.reels) drives
first_world_names [] = refl
first_world_names (d ∷ drives) =
    names_more (blank_drive d).stack (flat_map (λ (r : Drive KeptReel). r.stack) (map blank_drive drives))
    ∙ ap (λ l. l ++ names_of (flat_map (λ (r : Drive KeptReel). r.stack) (map blank_drive drives))) (blank_names d.capacity d.reels)
    ∙ ap (λ l. d.reels ++ l) (first_world_names drives)

pub first_named : (drives : List PlainDriveSpec) → AreGoodDrives drives → AreNamed (first_world drives)
first_named drives good = record {
  once = λ name.
      (let all : names_in (first_world drives).server.library ≡ flat_map (λ (d : PlainDriveSpec). d.reels) drives
      = ap (λ l. names_of l) (append-nil (flat_map (λ (r : Drive KeptReel). r.stack) (map blank_drive drives))) ∙ first_world_names drives in
      subst (λ l. times name l ≤ 1) (sym all) (distinct_once (flat_map (λ (d : PlainDriveSpec). d.reels) drives) good.2 name));
  opened = λ o (k, within, is). absurd (omega (arith, within));
}
