-- What a request of a session meets, and that it touches no drive that another has open.
-- If an MTOFFL of an attempt was carried out, its volume lies whole in the bin.
use Rattle.world_model.proofs.Basics.{◌≡◌, ◌⊎◌, ℕ, false, List, Option, Some, None, Ok, MatchOption, refl, sym, ap, subst, ◌∙◌, inl, inr, append-nil, same_Some, arith}
use Rattle.world_model.proofs.Terms.{PlainRequest, Op, PlainReply, Trouble, entries_of, drive_at, Access, access_of, refused, ServerState, server, ServerConnection, side, PlainSession, SessionView, session_view, status_of, check, closed, closed_library, Idle, Offline, Online, drive_in, with_holder, holder_of, TroubledServeStep, TroubledOpenStep, TroubledDoneStep, World, Connection, AttemptState, with_numbered, Serve, side_of, connection_of, AreHeld, Happens, IsConnectionSent, AreTold, ServerTurn, IsNextSent, is_open, IsRefused, ChangesAt, Meets, own, free, OthersStay, Done, MTOFFL, after_offline, Both, PlainReel, Step, Operation, Unload, Begun, first_name, written_reel, opening, IsWorldKept, HasDone, request_in, whole_volume, IsReelWritten, IsWholeInBin, IsMoveDone}
use Rattle.rmt_wire.specs.Request.PlainRequest.{Open}
use Rattle.world_model.specs.Serving.{refusal}
use Rattle.world_model.proofs.Ground.{Sits, sits_other, step_comes, OneReading, DroppedWrites, nothing_there, serve_pending, Turn, turned, among_at}
use Rattle.world_model.proofs.Held.{taken_again}
use Rattle.world_model.proofs.Laid.{apart, drive_other}
use Rattle.world_model.proofs.Opened.{comes_else, last_alone}
use Rattle.world_model.proofs.LabelledSingle.{IsServed, served_step}

pub carries_happens : (w u : World) (k : ℕ) (trouble : Trouble) → ServerTurn w k trouble u → Happens w (Serve k trouble) u
carries_happens w u k trouble c = (
  (c.s, Ok (Some c.request), c.live, (c.bytes, c.rest, c.unread, c.gives, λ none. cc)),
  (c.s, Ok (Some c.request), c.bytes, c.rest, c.live, c.unread, c.gives, (c.reply, c.reached, c.library, c.session, c.holders, c.left, c.served, c.is)),
)

-- it is the one that was sent and not carried out
sent_next : OneReading → DroppedWrites → (w : World) (v : Turn w) (l : Connection) (d : AttemptState) → IsConnectionSent w.begun (Some v.s) l d → IsNextSent w d v.request
sent_next g h w v l d (inl settled) = absurd (nothing_there h w v l.toward settled.unserved)
sent_next g h w v l d (inr (b, step, at, p)) =
    let all = serve_pending g h w v b l.toward d step p in
    grind arith

pub next_request : OneReading → DroppedWrites → (w : World) (v : Turn w) (l : Connection) (d : AttemptState) → AreTold w → connection_of w v.k ≡ Some l → l.dump ≡ Some d
    → IsNextSent w d v.request
next_request g h w v l d told at dump = sent_next g h w v l d (subst (λ o. IsConnectionSent w.begun o l d) v.live ((told.each v.k l at).sent d dump))

-- a request that is no open and passes its check meets the drive that is open
has_drive : (session : PlainSession) (request : PlainRequest) → is_open request ≡ false → check (status_of session) request ≡ None → (d : ℕ) × (drive_in session ≡ Some d)
has_drive Idle request is none = absurd (grind arith)
has_drive (Offline drive access) request is none = (drive, refl)
has_drive (Online drive access reel) request is none = (drive, refl)

checked : {R : Type 0} (A D : Type 0) (C : R → Type 0) (o : Option R) → MatchOption o A (λ r. C r × D) → ((o ≡ None) × A) ⊎ (MatchOption o ⊥ C × D)
checked A D C o step = grind arith

-- What a request that is no open makes of drives and session, where no check refuses it: nothing changes but at the open drive, and
-- no other is open afterwards.
record AtOwn (d : ℕ) (before after : SessionView) : Type 0 where
  changes : ChangesAt d before.library after.library
  drive : (e : ℕ) → drive_in after.session ≡ Some e → e ≡ d

done_at : (d : ℕ) (trouble : Trouble) (before : SessionView) (request : PlainRequest) (reply : PlainReply) (after : SessionView) → drive_in before.session ≡ Some d
    → TroubledDoneStep trouble before request reply after → AtOwn d before after
done_at d trouble before request reply after mine given = grind (arith, drive_other, append-nil)

-- One request of session k, whose side is live, leaves drives and session so, and the holders follow.
record Leaves (w : World) (k : ℕ) (s : ServerConnection) (u : World) (after : SessionView) : Type 0 where
  kept : AreHeld w.server
  live : side_of w.server k ≡ Some s
  left : u.server.library ≡ after.library
  held : u.server.holders ≡ with_holder (drive_in after.session) k (with_holder (drive_in s.session) 0 w.server.holders)

check_refuses : (w : World) (k : ℕ) (s : ServerConnection) (u : World) (request : PlainRequest) (reply : PlainReply) (after : SessionView) → Leaves w k s u after
    → is_open request ≡ false → MatchOption (check (status_of s.session) request) ⊥ (λ why. reply ≡ refused why) → after ≡ session_view w.server.library s.session
    → IsRefused w s.session request reply u after.session
check_refuses w k s u request reply after l is answer same = grind (arith, taken_again)

other_meets : (w : World) (k : ℕ) (s : ServerConnection) (u : World) (request : PlainRequest) (reply : PlainReply) (after : SessionView) (trouble : Trouble) → Leaves w k s u after
    → is_open request ≡ false
    → MatchOption (check (status_of s.session) request) (TroubledDoneStep trouble (session_view w.server.library s.session) request reply after)
    (λ r. (reply ≡ refused r) × (after ≡ session_view w.server.library s.session)) → Meets w k s.session request reply u after.session
other_meets w k s u request reply after trouble l is step =
    elim (checked (TroubledDoneStep trouble (session_view w.server.library s.session) request reply after) (after ≡ session_view w.server.library s.session) (λ r. reply ≡ refused r)
    (check (status_of s.session) request) step) [
      | inl (none, done) ↦
          let d = has_drive s.session request is none in
          let its = done_at d.0 trouble (session_view w.server.library s.session) request reply after d.1 done in
          own d.0 is none d.1 (l.kept.opened k d.0 s l.live d.1) its.drive (subst (ChangesAt d.0 w.server.library) (sym l.left) its.changes)
      | inr (answer, same) ↦ refusal (check_refuses w k s u request reply after l is answer same)
    ]

open_meets : (w : World) (k : ℕ) (s : ServerConnection) (u : World) (device : List ℕ) (mode : ℕ) (access : Option Access) (reply : PlainReply) (after : SessionView) (trouble : Trouble)
    → Leaves w k s u after
    → TroubledOpenStep trouble (with_holder (drive_in s.session) 0 w.server.holders) (closed (session_view w.server.library s.session)) device access reply after
    → Meets w k s.session (Open device mode) reply u after.session
open_meets w k s u device mode (Some access) reply after trouble l (Ok opened, asked, (found, named, latch), (none, quiet), replies, now) =
    free opened.0 refl replies (ap drive_in now) (ap (holder_of (with_holder (drive_in s.session) 0 w.server.holders)) (sym found) ∙ none)
    (subst (ChangesAt opened.0 (closed_library w.server.library s.session)) (sym (l.left ∙ latch.2)) (grind (arith, drive_other, append-nil)))
open_meets w k s u device mode access reply after trouble l given = grind arith

step_meets : (w : World) (k : ℕ) (s : ServerConnection) (u : World) (request : PlainRequest) (reply : PlainReply) (after : SessionView) (trouble : Trouble) → Leaves w k s u after
    → TroubledServeStep trouble w.server.holders (session_view w.server.library s.session) request reply after → Meets w k s.session request reply u after.session
step_meets w k s u (Open device mode) reply after trouble l step = open_meets w k s u device mode (access_of mode) reply after trouble l step
step_meets w k s u request reply after trouble l step = other_meets w k s u request reply after trouble l refl step

-- of a drive that another has open the stack stays, and who holds it
pub stale_requests : (w u : World) (k : ℕ) (trouble : Trouble) (c : ServerTurn w k trouble u) → AreHeld w.server → AreHeld u.server
    → Meets w k c.s.session c.request c.reply u c.session × OthersStay w k u
stale_requests w u k trouble c a b =
    let h : ServerState = server c.library c.holders (with_numbered w.server.sides k (Some (side c.reached c.session))) in
    let is : u.server ≡ h = ap (λ (x : World). x.server) c.is in
    let sits : Sits w.server k c.s (Some (side c.reached c.session)) h = record { was = c.live; sides = refl } in (
      step_meets w k c.s u c.request c.reply (session_view c.library c.session) trouble
          (record { kept = a; live = c.live; left = ap (λ (x : ServerState). x.library) is; held = ap (λ (x : ServerState). x.holders) is ∙ c.served.held }) c.served.step,
      λ j d y other one has.
          (let still : side_of u.server j ≡ Some y = ap (λ x. side_of x j) is ∙ sits_other w.server k j c.s (Some (side c.reached c.session)) h sits other ∙ one in (
            still,
            b.opened j d y still has,
            ap (λ (x : ServerState). drive_at x.library d) is
                ∙ comes_else w.server.holders w.server k c.s (session_view c.library c.session) _ c.live a
                (apart w.server h k c.s (side c.reached c.session) sits (subst AreHeld is b))
                (step_comes trouble w.server.holders (session_view w.server.library c.s.session) c.request c.reply (session_view c.library c.session) c.served.step) d (j, other, (y, one, has)),
          )),
    )

-- the step is that of the MTOFFL
move_step : (b : Begun) (d : AttemptState) (step : Step) (count : ℕ) → request_in b d step ≡ Op MTOFFL count → (next : ℕ) × (step ≡ Operation (Unload next))
move_step b d step count is = grind arith

unloaded_to : (trouble : Trouble) (holders : List ℕ) (before after : SessionView) (request : PlainRequest) (reply : PlainReply) (n d : ℕ) (reel : PlainReel)
    → request ≡ Op MTOFFL 1 → reply ≡ Done n → before.session ≡ Online d Both reel → TroubledServeStep trouble holders before request reply after
    → after.library ≡ after_offline before.library d (entries_of reel.tape) reel.capacity
unloaded_to trouble holders before after request reply n d reel asks replies was step = grind arith

moved_whole : (w : World) (v : Turn w) (l : Connection) (d : AttemptState) (p : IsServed w v l d) (next n : ℕ) → IsWorldKept w → connection_of w v.k ≡ Some l → l.dump ≡ Some d
    → HasDone p.b.run (Some v.s) d (Operation (Unload next)) → v.request ≡ Op MTOFFL 1 → v.reply ≡ Done n → IsWholeInBin w v.k d (turned w v)
moved_whole w v l d p next n kept at dump done asks replies =
    let on = done.stands v.s refl in
    let drive = on.1.0 in
    let reel = on.0 in
    let name = first_name (drive_at w.server.library drive).stack in
    let last = kept.opened.last v.k v.s name v.live (ap (written_reel w.server.library) on.1.1) in
    let a = kept.labelled v.k l d at dump done.label in
    let same : a.0 ≡ p.b = same_Some a.0 p.b (sym a.1 ∙ p.begun) in
    let alone = last_alone w v.k name kept.writers last in
    let written : IsReelWritten w v.k p.b d name = subst (λ b. IsReelWritten w v.k b d name) same (a.2 name (done.fault, alone)) in
    let whole : entries_of reel.tape ≡ whole_volume p.b.run p.b.payload d.volume d.first d.blocks
    = written.stands (entries_of reel.tape) (inr (v.k, v.s, v.live, (drive, Both, reel, on.1.1, refl, refl))) ∙ (grind (arith, done.label, done.mark)) in
    let library = unloaded_to v.trouble w.server.holders (session_view w.server.library v.s.session) (session_view v.library v.session) v.request v.reply n drive reel
    asks replies on.1.1 v.served.step in
    record {
      begun = p.b;
      begun_as = p.begun;
      within = done.within;
      name = name;
      opened = among_at w.opens last.0 (opening v.k name) last.1;
      capacity = reel.capacity;
      bin = grind arith;
    }

pub whole_at_the_move : OneReading → DroppedWrites → (w : World) (v : Turn w) (l : Connection) (d : AttemptState) → IsWorldKept w → connection_of w v.k ≡ Some l → l.dump ≡ Some d
    → IsMoveDone v.request v.reply → IsWholeInBin w v.k d (turned w v)
whole_at_the_move g h w v l d kept at dump ((count, asks), (n, replies)) =
    let p = served_step g h w v kept.told l d at dump in
    let step = move_step p.b d p.step count (sym p.asks ∙ asks) in
    moved_whole w v l d p step.0 n kept at dump (subst (HasDone p.b.run (Some v.s) d) step.1 p.done) (p.asks ∙ ap (request_in p.b d) step.1) replies
