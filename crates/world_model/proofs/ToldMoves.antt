-- The statement `AreTold` about a connection stays true if the server's side, or the bytes on the way, change.
-- The statement `AreTold` about each connection stays true, whatever happens.
use Rattle.world_model.proofs.Basics.{◌≡◌, ◌≢◌, ◌⊎◌, ℕ, suc, ◌≤◌, List, [], ◌∷◌, ◌++◌, length, append_assoc, take, drop, Option, Some, None, refl, sym, ap, subst, ◌∙◌, inl, inr, arith, option_and_then, take-append-drop, zero, true, option_map, same_Some}
use Rattle.world_model.proofs.Terms.{RequestHeld, held, Unread, ServerConnection, side, Idle, PlainRun, Standing, Step, Stage, ToSend, Waiting, World, Connection, AttemptState, Begun, WorldClient, numbered, changed, side_of, connection_of, new_connection, with_side, AreUnserved, IsPending, IsConnectionSettled, IsConnectionSent, IsStepReply, IsConnectionToldAt, IsConnectionTold, IsGood, AreTold, ServerState, with_numbered, without_peer, without_server, ended_from, all_ended, answered, noted, AreTidy, IsPushed}
use Rattle.world_model.proofs.Numbers.{changed_is, pushed_is, numbered_more, numbered_last, numbered_within, numbered_there, numbered_first, map_at, with_here, with_other}
use Rattle.world_model.proofs.SentWire.{moved_done, OneReading, DroppedWrites}
use Rattle.world_model.proofs.SentServe.{serve_sent, serve_told}
use Rattle.world_model.proofs.Moves.{Turn, reaches, serves, ends, restarts, cuts, moved}

-- The server's side is another, or what is on the way to it: the session stays, or is over, and what is unserved too, or is lost.
pub record Moves (o p : Option ServerConnection) (way new : List ℕ) : Type 0 where
  pub session : (s : ServerConnection) → p ≡ Some s → (x : ServerConnection) × (o ≡ Some x) × (s.session ≡ x.session)
  pub stays : (bytes : List ℕ) → AreUnserved o way bytes → AreUnserved p new bytes ⊎ AreUnserved p new []
  pub nothing : AreUnserved o way [] → AreUnserved p new []

pub settled_moves : (o p : Option ServerConnection) (way new : List ℕ) (d : AttemptState) → Moves o p way new → IsConnectionSettled o way d → IsConnectionSettled p new d
settled_moves o p way new d m h = grind arith

pub pending_moves : (b : Begun) (o p : Option ServerConnection) (way new : List ℕ) (d : AttemptState) (step : Step) → Moves o p way new → IsPending b o way d step → IsPending b p new d step
pending_moves b o p way new d step m h = grind (arith, moved_done)

reply_moves : (run : PlainRun) (o p : Option ServerConnection) (old : Standing) (d : AttemptState) (step : Step) (bytes : List ℕ)
    → ((s : ServerConnection) → p ≡ Some s → (x : ServerConnection) × (o ≡ Some x) × (s.session ≡ x.session)) → IsStepReply run o old d step bytes → IsStepReply run p old d step bytes
reply_moves run o p old d step bytes m (inl none) = inl none
reply_moves run o p old d step bytes m (inr (reply, is, brief, leads)) =
    inr (reply, is, brief, λ progress new next becomes at. (let g = leads progress new next becomes at in grind (arith, moved_done)))

pub told_moves : (stage : Stage) (begun : List Begun) (o p : Option ServerConnection) (l y : Connection) (c : WorldClient) (d : AttemptState) → Moves o p l.toward y.toward → y.back ≡ l.back
    → IsConnectionToldAt stage begun o l c d → IsConnectionToldAt stage begun p y c d
told_moves (ToSend step) begun o p l y c d m back (b, attempt, turn) = (b, attempt, grind (arith, moved_done, settled_moves))
told_moves (Waiting step) begun o p l y c d m back (b, attempt, inl asked) = (b, attempt, inl (grind (arith, pending_moves)))
told_moves (Waiting step) begun o p l y c d m back (b, attempt, inr replied) = (
  b,
  attempt,
  inr record {
    settled = settled_moves o p l.toward y.toward d m replied.settled;
    fed = replied.fed;
    has = replied.has;
    reply = (let heard = reply_moves b.run o p c.at d step (replied.fed ++ l.back) m.session replied.reply in grind arith);
  },
)
told_moves stage begun o p l y c d m back told = tt

-- nothing changes
pub no_move : (o : Option ServerConnection) (way : List ℕ) → Moves o o way way
no_move o way = grind arith

-- the server's side is over
pub lost_move : (o : Option ServerConnection) (way : List ℕ) → Moves o None way []
lost_move o way = grind arith

-- bytes reach it
pub reached_move : (s : ServerConnection) (reached : RequestHeld) (way : List ℕ) (n : ℕ) → ((bytes : List ℕ) → Unread s.reached bytes → Unread reached (bytes ++ take n way))
    → Moves (Some s) (Some (side reached s.session)) way (drop n way)
reached_move s reached way n grows = grind (arith, take-append-drop, append_assoc)

-- one that is as it was, beside a client that is as it was, or has another connection or none
pub other_told : (w u : World) (k : ℕ) (l : Connection) → u.begun ≡ w.begun → side_of u.server k ≡ side_of w.server k
    → (u.own ≡ Some k → (w.own ≡ Some k) × (u.caller ≡ w.caller)) → IsConnectionTold w k (side_of w.server k) l → IsConnectionTold u k (side_of u.server k) l
other_told w u k l begun sides own h = grind arith

good_same : (w u : World) → u.begun ≡ w.begun → ((n : ℕ) (b : Begun) → numbered w.begun n ≡ Some b → IsGood b) → (n : ℕ) (b : Begun) → numbered u.begun n ≡ Some b → IsGood b
good_same w u begun good n b at = good n b (ap (λ bs. numbered bs n) (sym begun) ∙ at)

-- all connections are as they were
pub same_told : (w u : World) → u.begun ≡ w.begun → u.connections ≡ w.connections → u.server.sides ≡ w.server.sides
    → ((k : ℕ) → u.own ≡ Some k → (w.own ≡ Some k) × (u.caller ≡ w.caller)) → AreTold w → AreTold u
same_told w u begun connections sides own t = record {
  good = good_same w u begun t.good;
  each = λ k l at. other_told w u k l begun (ap (λ ss. option_and_then (λ s. s) (numbered ss k)) sides) (own k)
      (t.each k l (ap (λ ls. numbered ls k) (sym connections) ∙ at));
}

-- one connection is changed
pub changed_told : (w u : World) (k : ℕ) (f : Connection → Connection) → u.begun ≡ w.begun → u.connections ≡ changed f w.connections k
    → ((j : ℕ) → j ≢ k → side_of u.server j ≡ side_of w.server j) → ((j : ℕ) → j ≢ k → u.own ≡ Some j → (w.own ≡ Some j) × (u.caller ≡ w.caller))
    → ((l : Connection) → connection_of w k ≡ Some l → IsConnectionTold w k (side_of w.server k) l → IsConnectionTold u k (side_of u.server k) (f l)) → AreTold w → AreTold u
changed_told w u k f begun connections beside own here t = record {
  good = good_same w u begun t.good;
  each = λ j l at. elim (changed_is f w.connections k j l (ap (λ ls. numbered ls j) (sym connections) ∙ at)) [
    | inl (same, (x, was, new)) ↦ subst (λ i. IsConnectionTold u i (side_of u.server i) l) (sym same)
        (subst (λ y. IsConnectionTold u k (side_of u.server k) y) (sym new) (here x was (t.each k x was)))
    | inr (other, on) ↦ other_told w u j l begun (beside j other) (own j other) (t.each j l on)
  ];
}

-- a connection more
pub joined_told : (w u : World) (dump : Option AttemptState) → length w.server.sides ≡ length w.connections → u.begun ≡ w.begun → u.connections ≡ w.connections ++ new_connection dump ∷ []
    → u.server.sides ≡ (with_side w.server).sides → ((j : ℕ) → j ≤ length w.connections → u.own ≡ Some j → (w.own ≡ Some j) × (u.caller ≡ w.caller))
    → IsConnectionTold u (suc (length w.connections)) (Some (side (held [] 0) Idle)) (new_connection dump) → AreTold w → AreTold u
joined_told w u dump paired begun connections sides own here t = record {
  good = good_same w u begun t.good;
  each = λ j l at. elim (pushed_is w.connections (new_connection dump) j l (ap (λ ls. numbered ls j) (sym connections) ∙ at)) [
    | inl on ↦
        let within = numbered_within w.connections j l on in
        let there = numbered_there w.server.sides j (numbered_first w.connections j l on) (omega (arith, paired, within)) in
        let same : side_of u.server j ≡ side_of w.server j = grind (arith, numbered_more) in
        other_told w u j l begun same (own j within) (t.each j l on)
    | inr (last, new) ↦
        let new_side : side_of u.server (suc (length w.connections)) ≡ Some (side (held [] 0) Idle) = grind (arith, numbered_last) in
        subst (λ i. IsConnectionTold u i (side_of u.server i) l) (sym last)
        (subst (λ y. IsConnectionTold u (suc (length w.connections)) (side_of u.server (suc (length w.connections))) y) (sym new)
        (subst (λ o. IsConnectionTold u (suc (length w.connections)) o (new_connection dump)) (sym new_side) here))
  ];
}

-- a side that is another, and those beside it
pub turned_here : (w u : World) (k : ℕ) (s : ServerConnection) (x : Option ServerConnection) → side_of w.server k ≡ Some s → u.server.sides ≡ with_numbered w.server.sides k x → side_of u.server k ≡ x
turned_here w u k s x live sides = grind (arith, with_here)

pub turned_beside : (w u : World) (k : ℕ) (x : Option ServerConnection) → u.server.sides ≡ with_numbered w.server.sides k x → (j : ℕ) → j ≢ k → side_of u.server j ≡ side_of w.server j
turned_beside w u k x sides j other = grind (arith, with_other)

ended_here : (h : ServerState) (k : ℕ) (o : Option ServerConnection) → side_of h k ≡ o → side_of (ended_from h k o) k ≡ None
ended_here h k o is = grind (arith, with_here)

ended_beside : (h : ServerState) (k j : ℕ) (o : Option ServerConnection) → j ≢ k → side_of (ended_from h k o) j ≡ side_of h j
ended_beside h k j o other = grind (arith, with_other)

-- the first so many sides are over
none_live : (h : ServerState) (n j : ℕ) → j ≤ n → side_of (all_ended h n) j ≡ None
none_live h (suc n) j within = grind (arith, ended_here, ended_beside, none_live h n j)
none_live h zero j within = grind arith

pub mapped : {X : Type 0} (f : X → X) (o : Option X) (y : X) → option_map f o ≡ Some y → (x : X) × (o ≡ Some x) × (y ≡ f x)
mapped f o y is = grind arith

-- a stranger's
pub strangers : (u : World) (k : ℕ) (o : Option ServerConnection) (y : Connection) → y.dump ≡ None → IsConnectionTold u k o y
strangers u k o y none = grind arith

-- the server's side is another, or what is on the way to it
connection_moves : (w u : World) (k : ℕ) (o p : Option ServerConnection) (l y : Connection) → u.begun ≡ w.begun → u.own ≡ w.own → u.caller ≡ w.caller → Moves o p l.toward y.toward → y.back ≡ l.back
    → y.dump ≡ l.dump → IsConnectionTold w k o l → IsConnectionTold u k p y
connection_moves w u k o p l y begun own caller m back dump h = grind (arith, told_moves, pending_moves, settled_moves)

over_connection : (w u : World) (k : ℕ) (l : Connection) → u.begun ≡ w.begun → u.own ≡ w.own → u.caller ≡ w.caller → side_of u.server k ≡ None → IsConnectionTold w k (side_of w.server k) l
    → IsConnectionTold u k (side_of u.server k) (without_server l)
over_connection w u k l begun own caller over h =
    let lost = connection_moves w u k (side_of w.server k) None l (without_server l) begun own caller (lost_move (side_of w.server k) l.toward) refl refl h in
    subst (λ o. IsConnectionTold u k o (without_server l)) (sym over) lost

-- the connection is cut
pub cut_told : (w : World) (k : ℕ) → AreTold w → AreTold (moved w (cuts k))
cut_told w k t =
    changed_told w _ k (λ l. record l { cut = true }) refl refl (λ j other. refl) (λ j other own. (own, refl))
    (λ l at h. connection_moves w (moved w (cuts k)) k (side_of w.server k) (side_of w.server k) l (record l { cut = true }) refl refl refl (no_move (side_of w.server k) l.toward) refl refl h) t

-- the server's side is over
pub ended_told : (w : World) (k : ℕ) → AreTold w → AreTold (moved w (ends k))
ended_told w k t =
    changed_told w _ k without_server refl refl (λ j other. ended_beside w.server k j (side_of w.server k) other) (λ j other mine. (mine, refl))
    (λ l at h. over_connection w (moved w (ends k)) k l refl refl refl (ended_here w.server k (side_of w.server k) refl) h) t

pub restarted_told : (w : World) → AreTidy w → AreTold w → AreTold (moved w restarts)
restarted_told w tidy t = record {
  good = t.good;
  each = λ j y at. (
      let x = map_at without_server w.connections j y at in
      let within = numbered_within w.connections j x.0 x.1 in
      let over = none_live w.server (length w.server.sides) j (omega (arith, within, tidy.paired)) in
      subst (λ l. IsConnectionTold (moved w restarts) j (side_of (moved w restarts).server j) l) (sym x.2)
      (over_connection w (moved w restarts) j x.0 refl refl refl over (t.each j x.0 x.1)));
}

-- the client's side is over, and there is no attempt
pub left_told : (w u : World) (k : ℕ) → u.begun ≡ w.begun → u.server.sides ≡ w.server.sides → u.connections ≡ changed without_peer w.connections k → u.own ≡ None → AreTold w → AreTold u
left_told w u k begun sides connections none t = grind (arith, changed_told)

-- bytes reach the server
pub reached_told : (w : World) (k n : ℕ) (s : ServerConnection) (l : Connection) (reached : RequestHeld) (live : side_of w.server k ≡ Some s) (at : connection_of w k ≡ Some l)
    (grows : IsPushed s.reached (take n l.toward) reached) → AreTold w → AreTold (moved w (reaches k n s l reached live at grows))
reached_told w k n s l reached live at grows t =
    changed_told w u k (λ x. record x { toward = drop n x.toward }) refl refl (turned_beside w u k (Some p) refl) (λ j other mine. (mine, refl))
    (λ x here h. (
    let moves = reached_move s reached x.toward n (λ bytes unread. subst (λ (z : Connection). Unread reached (bytes ++ take n z.toward)) (same_Some l x (sym at ∙ here)) (grows.1 bytes unread)) in
    let told = connection_moves w u k (Some s) (Some p) x (record x { toward = drop n x.toward }) refl refl refl moves refl refl (subst (λ o. IsConnectionTold w k o x) live h) in
    subst (λ o. IsConnectionTold u k o (record x { toward = drop n x.toward })) (sym (turned_here w u k s (Some p) live refl)) told)) t
  where
    p : ServerConnection
    p = side reached s.session

    u : World
    u = moved w (reaches k n s l reached live at grows)

-- the server carries a request out
pub served_told : OneReading → DroppedWrites → (w : World) (v : Turn w) → AreTold w → AreTold (moved w (serves v))
served_told g h w v t =
    changed_told w (moved w (serves v)) v.k (answered v.request v.reply) refl refl (turned_beside w (moved w (serves v)) v.k (Some s) refl) (λ j other mine. (mine, refl))
    (λ l at told. subst (λ o. IsConnectionTold (moved w (serves v)) v.k o (answered v.request v.reply l)) (sym (turned_here w (moved w (serves v)) v.k v.s (Some s) v.live refl)) record {
      sent = λ d dump. (
          let m = mapped (noted v.request v.reply) l.dump d dump in
          subst (IsConnectionSent w.begun (Some s) (answered v.request v.reply l)) (sym m.2)
          (serve_sent w v g h l m.0 (subst (λ o. IsConnectionSent w.begun o l m.0) v.live (told.sent m.0 m.1))));
      own = λ d c dump mine there. (
          let m = mapped (noted v.request v.reply) l.dump d dump in
          subst (IsConnectionToldAt c.at.stage w.begun (Some s) (answered v.request v.reply l) c) (sym m.2)
          (serve_told w v g h c.at.stage l c m.0 t.good (subst (λ o. IsConnectionToldAt c.at.stage w.begun o l c m.0) v.live (told.own m.0 c m.1 mine there))));
    }) t
  where
    s : ServerConnection
    s = side v.reached v.session
