-- Of a reel that a session may write on the last opening is its own, whatever happens.
-- Which session wrote on which reel, whatever happens.
use Rattle.world_model.proofs.Basics.{◌≡◌, ◌≢◌, ◌⊎◌, ℕ, suc, ◌<◌, ◌≤◌, List, [], ◌∷◌, ◌++◌, length, Contains, Option, Some, None, refl, sym, ap, subst, ◌∙◌, inl, inr, arith, slice_index_or, option_to_list, option_map, append-nil, length-append, length-set, same_Some, take, drop, take_all, take-append-le, take-append-drop, length-take-le, Contains-push_cases, Contains-append_left, Contains-append_right}
use Rattle.world_model.proofs.Terms.{drive_with, TapeLibrary, drive_at, with_drive_at, slots_in, EachReelOnce, arranged, named, times_named, sum_by_with_drive, ServerState, server, ServerConnection, side, PlainSession, SessionView, session_view, closed_library, drive_in, World, Opening, with_numbered, side_of, ended_from, first_name, written_reel, opened_reel, opening, answered, AreTidy, AreLaid, IsFirstAway, online_drive_in, AreHeld, IsUnopenedSince, AreOpened, PlainRequest, PlainReply, Trouble, TroubledServeStep, Writing, numbered, writing, reel_written, AreWritersLast, IsAlone, writes}
use Rattle.world_model.proofs.Ground.{side_there, length_changed, pushed_is, numbered_more, numbered_last, numbered_within, numbered_first, numbered_there, less_or_more, Sits, sits_here, sits_other, sits_is, joined_is, KeepsHeldOver, held_ended_by, held_all_ended_by, Comes, step_comes, ServerMove, reads, arranges, server_after, IsNoRequest, Move, moved, server_move, connections_more, Turn, turned}
use Rattle.world_model.proofs.Laid.{IsOnlineElse, IsOpenElse, online_else, apart, alone_at, drive_other, drive_within, free_off, online_drive}
use Rattle.world_model.proofs.ServerMoves.{joins, ends, restarts}
use Rattle.world_model.proofs.Named.{comes_reel, first_times, written_is, opening_is}
use Rattle.world_model.proofs.LabelledSteps.{WritesOn}
use Rattle.world_model.proofs.Moves as move

-- an opening that was the last of its reel, where one may have been added
last_stays : (all : List Opening) (k j : ℕ) (reel : List ℕ) (opened : Option (List ℕ)) → ((r : List ℕ) → opened ≡ Some r → r ≢ reel) → IsUnopenedSince all k reel
    → IsUnopenedSince (all ++ option_to_list (option_map (opening j) opened)) k reel
last_stays all k j reel opened differs last = grind (arith, append-nil, numbered_more, pushed_is)

-- one that was added is the last
last_new : (all : List Opening) (k : ℕ) (reel : List ℕ) → IsUnopenedSince (all ++ opening k reel ∷ []) k reel
last_new all k reel = (suc (length all), numbered_last all (opening k reel), grind (arith, numbered_within, length-append))

-- of each session that may write, the last opening of its reel is its own
abbrev AreLast : ServerState → List Opening → Type 0
AreLast h all = (k : ℕ) (s : ServerConnection) (reel : List ℕ) → side_of h k ≡ Some s → written_reel h.library s.session ≡ Some reel → IsUnopenedSince all k reel

-- the reel that is written is told by the rack of its drive alone
written_library : (s t : TapeLibrary) (session : PlainSession) (d : ℕ) → online_drive_in session ≡ Some d → drive_at s d ≡ drive_at t d → written_reel s session ≡ written_reel t session
written_library s t session d on same = grind arith

-- One side turns, where the racks of the others' drives stay, and a reel that was opened is none of theirs.
turn_last : (h u : ServerState) (k : ℕ) (s : ServerConnection) (o : Option ServerConnection) (all : List Opening) (opened : Option (List ℕ)) → Sits h k s o u
    → ((d : ℕ) → IsOnlineElse h k d → drive_at u.library d ≡ drive_at h.library d)
    → ((d : ℕ) → IsOnlineElse h k d → (r : List ℕ) → opened ≡ Some r → r ≢ first_name (drive_at u.library d).stack)
    → ((x : ServerConnection) (reel : List ℕ) → o ≡ Some x → written_reel u.library x.session ≡ Some reel → IsUnopenedSince (all ++ option_to_list (option_map (opening k) opened)) k reel)
    → AreLast h all → AreLast u (all ++ option_to_list (option_map (opening k) opened))
turn_last h u k s o all opened t all_drives differs own l j x reel at written =
    grind (arith, sits_is h k s o u t j x at, written_is u.library x.session reel written, written_library, last_stays, own x reel, l j x reel)

-- the same where nothing was opened
quiet_last : (h u : ServerState) (k : ℕ) (s : ServerConnection) (o : Option ServerConnection) (all : List Opening) → Sits h k s o u
    → ((d : ℕ) → IsOnlineElse h k d → drive_at u.library d ≡ drive_at h.library d)
    → ((x : ServerConnection) (reel : List ℕ) → o ≡ Some x → written_reel u.library x.session ≡ Some reel → IsUnopenedSince all k reel)
    → AreLast h all → AreLast u all
quiet_last h u k s o all t all_drives own l =
    subst (AreLast u) (append-nil all) (turn_last h u k s o all None t all_drives (λ d elsewhere r is. absurd cc)
    (λ x reel is written. subst (λ m. IsUnopenedSince m k reel) (sym (append-nil all)) (own x reel is written)) l)

-- the racks of drives that others have open
pub closed_else : (h : ServerState) (k : ℕ) (s : ServerConnection) → side_of h k ≡ Some s → AreHeld h → (session : PlainSession) → s.session ≡ session → (d : ℕ) → IsOpenElse h k d
    → drive_at (closed_library h.library session) d ≡ drive_at h.library d
closed_else h k s was a session is d elsewhere = grind (arith, drive_other, alone_at)

pub comes_else : (holders : List ℕ) (h : ServerState) (k : ℕ) (s : ServerConnection) (after : SessionView) (opened : Option (List ℕ)) → side_of h k ≡ Some s → AreHeld h
    → ((d : ℕ) → IsOpenElse h k d → drive_in after.session ≡ Some d → ⊥) → Comes holders (session_view h.library s.session) after opened
    → (d : ℕ) → IsOpenElse h k d → drive_at after.library d ≡ drive_at h.library d
comes_else holders h k s after opened was a apart given d elsewhere = grind (arith, closed_else, drive_other, alone_at)

-- what the session itself may write on then, it could before, or it was opened
pub comes_own : (holders : List ℕ) (before after : SessionView) (opened : Option (List ℕ)) (reel : List ℕ) → Comes holders before after opened → written_reel after.library after.session ≡ Some reel
    → ((written_reel before.library before.session ≡ Some reel) × (opened ≡ None)) ⊎ (opened ≡ Some reel)
comes_own holders before after opened reel given written = grind arith

-- two reels that are away have two names
pub names_differ : (s : TapeLibrary) (d e : ℕ) → EachReelOnce s → d ≢ e → d < length s.drives → IsFirstAway (drive_at s d).stack → e < length s.drives → IsFirstAway (drive_at s e).stack
    → first_name (drive_at s d).stack ≢ first_name (drive_at s e).stack
names_differ s d e once other here away there gone same =
    let name = first_name (drive_at s d).stack in
    let t = with_drive_at s d (drive_with [] []) in
    let two = sum_by_with_drive (named name) t e (drive_with [] []) (let many = length-set s.drives d (drive_with [] []) in omega (arith, there, many)) in
    let one = first_times (drive_at s d).stack away in
    let all = times_named name (slots_in s) in
    grind (arith, sum_by_with_drive (named name) s d (drive_with [] []) here, first_times (drive_at s e).stack gone, drive_other, once name)

-- a side that is over
over_last : (all : List Opening) → KeepsHeldOver (λ h. AreLast h all)
over_last all h k s is a l =
    quiet_last h (ended_from h k (Some s)) k s None all record { was = is; sides = refl }
    (λ d elsewhere. closed_else h k s is a s.session refl d (online_else h k d elsewhere)) (λ x reel none written. absurd cc) l

-- an operator's order
arranged_last : (h : ServerState) (d : ℕ) (names : List (List ℕ)) (all : List Opening) → AreHeld h → slice_index_or h.holders d 0 ≡ 0 → AreLast h all
    → AreLast (server (arranged h.library d names) h.holders h.sides) all
arranged_last h d names all a free l k s reel at written =
    grind (arith, written_is (arranged h.library d names) s.session reel written, free_off h d a free, written_library, drive_other, l k s reel at)

-- one request of a session
served_last : (holders : List ℕ) (h u : ServerState) (k : ℕ) (s x : ServerConnection) (all : List Opening) (opened : Option (List ℕ)) → Sits h k s (Some x) u → Comes holders (session_view h.library s.session) (session_view u.library x.session) opened
    → AreHeld h → AreHeld u → AreLaid u → EachReelOnce u.library → AreLast h all → AreLast u (all ++ option_to_list (option_map (opening k) opened))
served_last holders h u k s x all opened t comes a b laid once l =
    let here : side_of u k ≡ Some x = sits_here h k s (Some x) u t in
    let there : (d : ℕ) → IsOnlineElse h k d → IsOnlineElse u k d
    = λ d (j, other, (y, at, on)). (j, other, (y, sits_other h k j s (Some x) u t other ∙ at, on)) in
    turn_last h u k s (Some x) all opened t (λ d elsewhere. comes_else holders h k s (session_view u.library x.session) opened t.was a (apart h u k s x t b) comes d (online_else h k d elsewhere))
    (λ d elsewhere r is same. (
    let w = written_is u.library x.session r (comes_reel holders (session_view h.library s.session) (session_view u.library x.session) opened comes r is) in
    let other : w.0 ≢ d = λ e. apart h u k s x t b d (online_else h k d elsewhere) (online_drive x.session d (w.1 ∙ ap Some e)) in
    let (j, unlike, (y, at, on)) = there d elsewhere in
    names_differ u.library w.0 d once other (drive_within u k x w.0 b here (online_drive x.session w.0 w.1)) (laid.latched w.0 (k, x, here, w.1))
    (drive_within u j y d b at (online_drive y.session d on)) (laid.latched d (j, y, at, on)) (w.2 ∙ same)))
    (λ y reel same written. (
    let its : written_reel u.library x.session ≡ Some reel = ap (λ (z : ServerConnection). written_reel u.library z.session) (same_Some x y same) ∙ written in
    elim (comes_own holders (session_view h.library s.session) (session_view u.library x.session) opened reel comes its) [
      | inl (before, none) ↦ last_stays all k k reel opened (λ r is. (let clash = sym none ∙ is in absurd cc)) (l k s reel t.was before)
      | inr new ↦ subst (λ o. IsUnopenedSince (all ++ option_to_list (option_map (opening k) o)) k reel) (sym new) (last_new all k reel)
    ]))
    l

-- what an event makes of the openings
served_there : (w u : World) (k : ℕ) (s : ServerConnection) (opened : Option (List ℕ)) → side_of w.server k ≡ Some s → u.opens ≡ w.opens ++ option_to_list (option_map (opening k) opened)
    → length u.connections ≡ length w.connections → AreTidy w → AreOpened w → (o : Opening) → Contains u.opens o → (1 ≤ o.connection) × (o.connection ≤ length u.connections)
served_there w u k s opened live made connections t n o among =
    let first = numbered_first w.server.sides k (Some s) (side_there w.server k s live) in
    let last = numbered_within w.server.sides k (Some s) (side_there w.server k s live) in
    grind (arith, opening_is w.opens k opened o (subst (λ l. Contains l o) made among), n.there o, t.paired)

-- each event
server_last : (h : ServerState) (m : ServerMove h) (all : List Opening) → IsNoRequest h m → AreHeld h → AreLast h all → AreLast (server_after h m) all
server_last h joins all none a l = grind (arith, joined_is)
server_last h (reads k s reached live unread) all none a l =
    quiet_last h (server h.library h.holders (with_numbered h.sides k (Some (side reached s.session)))) k s (Some (side reached s.session)) all record { was = live; sides = refl }
    (λ d elsewhere. refl)
    (λ y reel same written. l k s reel live (ap (λ (z : ServerConnection). written_reel h.library z.session) (same_Some (side reached s.session) y same) ∙ written)) l
server_last h (ends k) all none a l = held_ended_by (λ u. AreLast u all) (over_last all) h k a l
server_last h restarts all none a l = held_all_ended_by (λ u. AreLast u all) (over_last all) h (length h.sides) a l
server_last h (arranges d names within free) all none a l = arranged_last h d names all a free l
server_last h m all none a l = grind arith

pub opened_moved : (w : World) (m : Move w) → AreTidy w → AreHeld w.server → AreHeld (moved w m).server → AreLaid (moved w m).server → EachReelOnce (moved w m).server.library → AreOpened w
    → AreOpened (moved w m)
opened_moved w (move.serves t) tidy a b l once n =
    let u = moved w (move.serves t) in
    let o = opened_reel t.request t.library t.session in
    record {
      there = served_there w u t.k t.s o t.live refl (length_changed (answered t.request t.reply) w.connections t.k) tidy n;
      last = served_last w.server.holders w.server u.server t.k t.s (side t.reached t.session) w.opens o record { was = t.live; sides = refl }
          (step_comes t.trouble w.server.holders (session_view w.server.library t.s.session) t.request t.reply (session_view t.library t.session) t.served.step) a b l once n.last;
    }
opened_moved w m tidy a b l once n = record {
  there = λ o among. (let before = n.there o among in let few = before.1 in (before.0, omega (arith, few, connections_more w m)));
  last = server_last w.server (server_move w m) w.opens tt a n.last;
}

write_stays : (trouble : Trouble) (holders : List ℕ) (before : SessionView) (request : PlainRequest) (reply : PlainReply) (after : SessionView) (name : List ℕ)
    → TroubledServeStep trouble holders before request reply after → WritesOn before request name → reel_written request after.library after.session ≡ Some name
write_stays trouble holders before request reply after name step given = grind arith

-- it was so before the request
was_open : (trouble : Trouble) (holders : List ℕ) (before : SessionView) (request : PlainRequest) (reply : PlainReply) (after : SessionView) (name : List ℕ)
    → TroubledServeStep trouble holders before request reply after → reel_written request after.library after.session ≡ Some name
    → written_reel before.library before.session ≡ Some name
was_open trouble holders before request reply after name step is = grind arith

-- a writing is one of those before, or that of the request
pub writing_is : (all : List Writing) (k after : ℕ) (written : Option (List ℕ)) (x : Writing)
    → Contains (all ++ option_to_list (option_map (writing k after) written)) x
    → Contains all x ⊎ ((reel : List ℕ) × (written ≡ Some reel) × (x ≡ writing k after reel))
writing_is all k after None x among = inl (subst (λ l. Contains l x) (append-nil all) among)
writing_is all k after (Some reel) x among = elim (Contains-push_cases all (writing k after reel) x among) [
  | inl before ↦ inl before
  | inr is ↦ inr (reel, refl, sym is)
]

pub writings_after : (w : World) (v : Turn w) (x : Writing) → Contains w.writings x → Contains (turned w v).writings x
writings_after w v x among = Contains-append_left w.writings _ x among

-- the writing of the request, where it writes on this reel
pub writing_there : (w : World) (v : Turn w) (name : List ℕ) → WritesOn (session_view w.server.library v.s.session) v.request name
    → Contains (turned w v).writings (writing v.k (length w.opens) name)
writing_there w v name writes =
    let new = writing v.k (length w.opens) name in
    let stays = write_stays v.trouble w.server.holders (session_view w.server.library v.s.session) v.request v.reply (session_view v.library v.session) name v.served.step writes in
    subst (λ o. Contains (w.writings ++ option_to_list (option_map (writing v.k (length w.opens)) o)) new) (sym stays)
    (Contains-append_right w.writings (new ∷ []) new (0, omega arith, refl))

-- The reel of a writing was opened last by its connection, also where one more was opened.
served_writers : (w : World) (v : Turn w) → AreOpened w → AreWritersLast w → AreWritersLast (turned w v)
served_writers w v opened writers x among =
    let all = (turned w v).opens in
    let more : length w.opens ≤ length all
    = (let parts = length-append w.opens (option_to_list (option_map (opening v.k) (opened_reel v.request v.library v.session))) in omega (arith, parts)) in
    elim (writing_is w.writings v.k (length w.opens) (reel_written v.request v.library v.session) x among) [
      | inl before ↦
          let p = writers x before in
          (omega (arith, p.0, more), subst (λ os. IsUnopenedSince os x.connection x.reel) (sym (take-append-le x.after w.opens _ p.0)) p.1)
      | inr (reel, is, new) ↦
          let was = was_open v.trouble w.server.holders (session_view w.server.library v.s.session) v.request v.reply
          (session_view v.library v.session) reel v.served.step is in
          subst (λ (y : Writing). (y.after ≤ length all) × IsUnopenedSince (take y.after all) y.connection y.reel) (sym new) (
            more,
            subst (λ os. IsUnopenedSince os v.k reel) (sym (take-append-le (length w.opens) w.opens _ (omega arith) ∙ take_all (length w.opens) w.opens (omega arith)))
                (opened.last v.k v.s reel v.live was),
          )
    ]

pub writers_moved : (w : World) (m : Move w) → AreOpened w → AreWritersLast w → AreWritersLast (moved w m)
writers_moved w (move.serves v) opened writers = served_writers w v opened writers
writers_moved w m opened writers = writers

-- a member of the front of a list
pub front_in : (xs : List Opening) (n i : ℕ) (y : Opening) → numbered (take n xs) i ≡ Some y → numbered xs i ≡ Some y
front_in xs n i y at = ap (λ l. numbered l i) (sym (take-append-drop n xs)) ∙ numbered_more (take n xs) (drop n xs) i y at

pub in_front : (xs : List Opening) (n i : ℕ) (y : Opening) → n ≤ length xs → i ≤ n → numbered xs i ≡ Some y → numbered (take n xs) i ≡ Some y
in_front xs n i y long within at = grind (arith, numbered_there (take n xs) i (numbered_first xs i y at) (omega (arith, length-take-le n xs long, within)), front_in)

-- where no session opened a reel since connection k did, no other wrote on it since
pub last_alone : (w : World) (k : ℕ) (reel : List ℕ) → AreWritersLast w → IsUnopenedSince w.opens k reel → IsAlone w k reel
last_alone w k reel writers (i, at, unopened) = (
  i,
  at,
  λ x among its since. (
      let p = writers x among in
      let front = in_front w.opens x.after i (opening k reel) p.0 since at in
      let whole = front_in w.opens x.after p.1.0 (opening x.connection x.reel) p.1.1 in
      grind (arith, less_or_more p.1.0 i, unopened p.1.0 (opening x.connection x.reel), p.1.2 i (opening k reel))),
)
