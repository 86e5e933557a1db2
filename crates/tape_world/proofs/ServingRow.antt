-- What a turn of the server's side makes of the world.
use Rattle.tape_world.proofs.Layers.{common_steps, arith, ◌≡◌, ◌≢◌, ℕ, List, ◌++◌, length, option_map, Some, None, refl, sym, ap, subst, ◌∙◌, Ok, Err, Contains, option_to_list, append-nil, take-append-drop, PlainRequest, PlainReply, Trouble, SessionView, session_view, TroubledServeStep, drive_in, ServerState, server, ServerConnection, side, Turn, Hosted, side_at, Carries, GivesNothing, GivesFault, asked_of, carried_of, VolumeCount, World, Connection, Opening, numbered, with_numbered, Serve, with_no_failure, changed, opened_reel, opening, list_in, writing, answered, without_server, Possible, Happens}
use Rattle.tape_world.proofs.Layers.{AreHeld, IsWorldKept, HistoryHeld, TurnServes, IsNoted, IsLibraryKnown, IsOnlineIn, name_opened_by, opened_in, written_in, reel_written, name_written_by, take, drop, Contains-push, Contains-append_left, WireFault, IsSameHistory, among_at, carried, ended_at}
use Rattle.world_host.specs.declared.turn.Carried.{Carried}
use Rattle.tape_world.proofs.Server.{side_found, ended_is}
use Rattle.tape_world.proofs.Online.{held_there}
use Rattle.world_host.specs.declared.turn.Turn.TheVariants as turns
use Rattle.world_host.specs.Servers as host

-- ---- nothing to serve

pub nothing_there : (trouble : Trouble) (k : ℕ) (w : World) (h : ServerState) → w.server ≡ h
    → ((s : ServerConnection) → side_at h.sides k ≡ Some s → GivesNothing s.reached)
    → Possible w (Serve k trouble) → ⊥
nothing_there trouble k w h was none s = grind (arith, common_steps, side_found)

-- ---- what is noted

-- the reel that a request opened, and the one on which it wrote, where it was carried out
noted_is : (trouble : Trouble) (holders : List ℕ) (before : SessionView) (request : PlainRequest) (reply : PlainReply) (after : SessionView)
    (h : ServerState) (k : ℕ) (s : ServerConnection)
    → TroubledServeStep trouble holders before request reply after → h.library ≡ after.library → s.session ≡ after.session → side_at h.sides k ≡ Some s
    → (name_opened_by (asked_of request) h k ≡ opened_reel request after.library after.session)
    × (name_written_by (carried_of request reply) h k ≡ reel_written request after.library after.session)
noted_is trouble holders before request reply after h k s step library session live = (grind (arith, common_steps), grind (arith, common_steps))

-- ---- the row

-- a member of the front of a list
front_has : (xs : List Opening) (n i : ℕ) (y : Opening) → numbered (take n xs) i ≡ Some y → Contains xs y
front_has xs n i y at = subst (λ l. Contains l y) (take-append-drop n xs) (Contains-append_left (take n xs) (drop n xs) y (among_at (take n xs) i y at))

-- the world after a turn, with what is to be noted
abbrev pub turned : World → ℕ → ServerState → Turn → List Connection → World
turned w k h turn connections = record (with_no_failure w) {
  server = h;
  connections = connections;
  opens = w.opens ++ option_to_list (option_map (opening k) (opened_in h k turn));
  lists = w.lists ++ option_to_list (option_map (λ reel. list_in w.caller) (opened_in h k turn));
  writings = w.writings ++ option_to_list (option_map (writing k (length w.opens)) (written_in h k turn));
}

carried_happens : (trouble : Trouble) (k : ℕ) (w : World) (s : ServerConnection) (request : PlainRequest) (reply : PlainReply) (new : ServerState)
    (connections : List Connection)
    → side_at w.server.sides k ≡ Some s → Carries trouble w.server k s request reply new → connections ≡ changed (answered request reply) w.connections k
    → Happens w (Serve k trouble) (turned w k new (turns.Carried (carried_of request reply)) connections)
carried_happens trouble k w s request reply new connections live c is =
    let turn = turns.Carried (carried_of request reply) in
    let here = sym (side_found w.server k) ∙ live in
    let hallis : new ≡ server c.library c.holders (with_numbered w.server.sides k (Some (side c.reached c.session))) = c.after in
    let next : side_at new.sides k ≡ Some (side c.reached c.session) = grind (arith, common_steps) in
    let library : new.library ≡ c.library = ap (λ x. x.library) c.after in
    let noted = noted_is trouble w.server.holders (session_view w.server.library s.session) request reply (session_view c.library c.session) new k
    (side c.reached c.session) c.served.step library refl next in
    let same : turned w k new turn connections ≡ carried w k request reply c.reached c.library c.session c.holders = grind (arith, hallis, noted, is) in (
      (s, Ok (Some request), here, (c.given.0, c.given.1, c.given.2, c.given.3, λ is. cc)),
      (s, Ok (Some request), c.given.0, c.given.1, here, c.given.2, c.given.3, (reply, c.reached, c.library, c.session, c.holders, c.given.4, c.served, same)),
    )

broken_happens : (trouble : Trouble) (k : ℕ) (w : World) (s : ServerConnection) (fault : WireFault) (new : ServerState) (connections : List Connection)
    → side_at w.server.sides k ≡ Some s → GivesFault s.reached fault → new ≡ host.ended w.server k → connections ≡ changed without_server w.connections k
    → Happens w (Serve k trouble) (turned w k new (turns.Broken fault) connections)
broken_happens trouble k w s fault new connections live (bytes, rest, unread, gives) after is =
    let here = sym (side_found w.server k) ∙ live in
    let same : turned w k new (turns.Broken fault) connections ≡ ended_at (with_no_failure w) k
    = grind (arith, after ∙ ended_is w.server k, append-nil w.opens, append-nil w.lists, append-nil w.writings) in
    ((s, Err fault, here, (bytes, rest, unread, gives, λ is. cc)), (s, Err fault, bytes, rest, here, unread, gives, same))

pub serves_happens : (trouble : Trouble) (k : ℕ) (w : World) (old new : Hosted) (turn : Turn) (connections : List Connection) → w.server ≡ old.server
    → TurnServes trouble old k turn new (λ f. connections ≡ changed f w.connections k) → turn ≢ turns.Nothing
    → Happens w (Serve k trouble) (turned w k new.server turn connections)
serves_happens trouble k w old new turns.Nothing connections was t some = absurd (some refl)
serves_happens trouble k w old new (turns.Carried c) connections was (s, request, reply, live, carries, told, is) some =
    subst (λ (x : Carried). Happens w (Serve k trouble) (turned w k new.server (turns.Carried x) connections)) (sym told)
    (carried_happens trouble k w s request reply new.server connections (ap (λ (h : ServerState). side_at h.sides k) was ∙ live)
    (subst (λ h. Carries trouble h k s request reply new.server) (sym was) carries) is)
serves_happens trouble k w old new (turns.Broken fault) connections was (s, live, gives, after, is) some =
    broken_happens trouble k w s fault new.server connections (ap (λ (h : ServerState). side_at h.sides k) was ∙ live) gives
    (ap (λ (h : Hosted). h.server) after ∙ ap (λ h. host.ended h k) (sym was)) is

-- the reel that was opened is there, so its name is known
pub opened_known : (names : List (List ℕ)) (w : World) (k : ℕ) (h : ServerState) (turn : Turn) (connections : List Connection) (name : List ℕ)
    → IsWorldKept (turned w k h turn connections)
    → IsLibraryKnown names h.library → opened_in h k turn ≡ Some name → Contains names name
opened_known names w k h turn connections name kept known is =
    known.each name (kept.once.opened (opening k name)
    (subst (λ o. Contains (w.opens ++ option_to_list (option_map (opening k) o)) (opening k name)) (sym is) (Contains-push w.opens (opening k name))))

-- so is one that was written on, which was opened before
pub written_known : (names : List (List ℕ)) (w : World) (k : ℕ) (h : ServerState) (turn : Turn) (connections : List Connection) (name : List ℕ)
    → IsWorldKept (turned w k h turn connections)
    → IsLibraryKnown names h.library → written_in h k turn ≡ Some name → Contains names name
written_known names w k h turn connections name kept known is =
    let x = writing k (length w.opens) name in
    let its = kept.writers x
    (subst (λ o. Contains (w.writings ++ option_to_list (option_map (writing k (length w.opens)) o)) x) (sym is) (Contains-push w.writings x)) in
    known.each name (kept.once.opened (opening k name) (front_has (turned w k h turn connections).opens (length w.opens) its.1.0 (opening k name) its.1.1))

pub online_in : (h : ServerState) (k : ℕ) → AreHeld h → IsOnlineIn h k
online_in h k held s drive access reel at online = held_there h held k drive s (sym (side_found h k) ∙ at) (ap drive_in online)

-- the world with this history
abbrev pub with_history : World → HistoryHeld → World
with_history w b = record w { counts = b.counts; opens = b.opens; lists = b.lists; writings = b.writings; entered = b.entered }

-- the world after a turn was noted in its history
pub noted_history : (w : World) (h : ServerState) (connections : List Connection) (first old new : HistoryHeld) (list : List VolumeCount) (k : ℕ) (turn : Turn)
    → list ≡ list_in w.caller → IsSameHistory first old → IsNoted old list h k turn new
    → record (with_history w new) { server = h; connections = connections; failure = None } ≡ turned (with_history w first) k h turn connections
noted_history w h connections first old new list k turn is same s = grind (arith, common_steps)
