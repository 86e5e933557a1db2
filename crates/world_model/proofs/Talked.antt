-- What a client's session carried out is a beginning of what its client sent, after every list of events.
use Rattle.world_model.proofs.Basics.{◌≡◌, ◌≢◌, ◌⊎◌, ℕ, ◌<◌, ◌≤◌, ◌==◌, Bool, true, false, List, [], ◌∷◌, ◌++◌, length, map, Option, Some, None, Result, Ok, Err, append-nil, refl, sym, ap, subst, ◌∙◌, inl, inr, arith, option_map, eqb_tells, same_Some}
use Rattle.world_model.proofs.Terms.{PlainRequest, ParsesAs, Unread, WireFault, ServerConnection, Trouble, request_of, checkpoint_of, Step, ToSend, World, Connection, AttemptState, Begun, WorldClient, numbered, PlainEvent, Send, Serve, changed, side_of, without_peer, without_server, noted_sent, PlainDriveSpec, AreGoodDrives, first_world, Happens, Sends, Finds, Runs, none, one_more, sent_connection, IsWorldKept, IsAttempt, IsItsTurn, IsConnectionToldAt, ServerTurn, IsNextSent, Talks, IsBeginning, Sent, CarriedOut, one_if_here, sent_here, carried_here}
use Rattle.world_model.specs.Talk as talk
use Rattle.world_model.proofs.Ground.{side_there, no_number, map_at, changed_is, pushed_is, numbered_within, before_length, done_few, OneReading, DroppedWrites, noted_same, mapped, Turn, turned, turn_of, carries_turn, connections_more, begun_more, happened}
use Rattle.world_model.proofs.LabelledSingle.{served_dump, served_step, carried_more}
use Rattle.world_model.proofs.RequestMeets.{next_request}
use Rattle.world_model.proofs.Staying.{Laws, first_kept, kept_after}

-- an attempt has one next request
one_next : (w : World) (d : AttemptState) (request other : PlainRequest) → IsNextSent w d request → IsNextSent w d other → request ≡ other
one_next w d request other n m = grind (arith, before_length)

-- each attempt on connection k was there so, or is new
Dumped : ℕ → List Connection → List Connection → Type 0
Dumped k xs ys =
    (l : Connection) (d : AttemptState) → numbered ys k ≡ Some l → l.dump ≡ Some d
    → ((x : Connection) × (numbered xs k ≡ Some x) × (x.dump ≡ Some d)) ⊎ ((length xs < k) × (d.sent ≡ d.carried))

same_dumped : (k : ℕ) (xs : List Connection) → Dumped k xs xs
unfolding Dumped
same_dumped k xs l d at is = inl (l, at, is)

changed_dumped : (k : ℕ) (xs ys : List Connection) (f : Connection → Connection) (j : ℕ) → ((x : Connection) → (f x).dump ≡ x.dump) → Dumped k xs ys → Dumped k xs (changed f ys j)
unfolding Dumped
changed_dumped k xs ys f j keeps t l d at is = grind (arith, changed_is)

other_dumped : (k : ℕ) (xs : List Connection) (f : Connection → Connection) (j : ℕ) → j ≢ k → Dumped k xs (changed f xs j)
unfolding Dumped
other_dumped k xs f j differs l d at is = grind (arith, changed_is, turned)

mapped_dumped : (k : ℕ) (xs : List Connection) (f : Connection → Connection) → ((x : Connection) → (f x).dump ≡ x.dump) → Dumped k xs (map f xs)
unfolding Dumped
mapped_dumped k xs f keeps l d at is = grind (arith, map_at)

joined_dumped : (k : ℕ) (xs : List Connection) (new : Connection) → ((d : AttemptState) → new.dump ≡ Some d → d.sent ≡ d.carried) → Dumped k xs (xs ++ new ∷ [])
unfolding Dumped
joined_dumped k xs new bare l d at is = grind (arith, pushed_is)

-- by the world after it
dumped_as : (k : ℕ) (w u v : World) → u ≡ v → Dumped k w.connections v.connections → Dumped k w.connections u.connections
dumped_as k w u v is t = subst (λ (x : World). Dumped k w.connections x.connections) (sym is) t

-- Of a connection that is not there nothing was sent or carried out, and of a client's what was carried out is a beginning.
record IsTalked (w : World) (k : ℕ) (sent carried : List PlainRequest) : Type 0 where
  absent : length w.connections < k → (sent ≡ []) × (carried ≡ [])
  told : IsBeginning w k sent carried

-- runs and connections stay
record GoesOn (w u : World) : Type 0 where
  begun : (n : ℕ) (b : Begun) → numbered w.begun n ≡ Some b → numbered u.begun n ≡ Some b
  connections : length w.connections ≤ length u.connections

goes_on : (w : World) (event : PlainEvent) (u : World) → Happens w event u → GoesOn w u
goes_on w event u happens = let m = happened w event u happens in subst (GoesOn w) (sym m.1) record { begun = begun_more w m.0; connections = connections_more w m.0 }

next_on : (w u : World) (d : AttemptState) (request : PlainRequest) → GoesOn w u → IsNextSent w d request → IsNextSent u d request
next_on w u d request on n = grind arith

-- no request of it
still_talked : (w u : World) (k : ℕ) (sent carried more done : List PlainRequest) → GoesOn w u → Dumped k w.connections u.connections → more ≡ [] → done ≡ [] → IsTalked w k sent carried
    → IsTalked u k (sent ++ more) (carried ++ done)
unfolding Dumped
still_talked w u k sent carried more done on dumped nothing idle t =
    subst (λ s. IsTalked u k s (carried ++ done)) (sym (ap (λ m. sent ++ m) nothing ∙ append-nil sent))
    (subst (IsTalked u k sent) (sym (ap (λ m. carried ++ m) idle ∙ append-nil carried)) record {
      absent = λ past. t.absent (let more = on.connections in omega (arith, more, past));
      told = λ d (l, at, is). elim (dumped l d at is) [
        | inl was ↦ elim (t.told d was) [
          | inl same ↦ inl same
          | inr (request, next, last) ↦ inr (request, next_on w u d request on next, last)
        ]
        | inr (new, same) ↦ inl (same, (t.absent new).1 ∙ sym (t.absent new).0)
      ];
    })

-- the client sends its next request
sent_is_next : (w u : World) (c : WorldClient) (b x : Begun) (o : Option ServerConnection) (l : Connection) (d : AttemptState) (step : Step) → IsWorldKept w → GoesOn w u → IsAttempt w.begun c d step x
    → IsItsTurn x o l c d step → numbered w.begun c.number ≡ Some b
    → IsNextSent u (noted_sent d) (request_of c.at.run b.payload (checkpoint_of c.at.counts).0 (checkpoint_of c.at.counts).1 step)
sent_is_next w u c b x o l d step kept on attempt turn begun =
    let its : x ≡ b = same_Some x b (sym attempt.begun_as ∙ ap (numbered w.begun) attempt.number ∙ begun) in
    let sent = turn.settled.sent in
    let few = done_few x.run o d step (kept.told.good d.run x attempt.begun_as).run turn.done in
    grind arith

asks_talked : (w u : World) (k : ℕ) (c : WorldClient) (b : Begun) (step : Step) (f : Connection → Connection) (sent carried : List PlainRequest) → IsWorldKept w → GoesOn w u → w.own ≡ Some k
    → w.caller ≡ Some c → c.at.stage ≡ ToSend step → numbered w.begun c.number ≡ Some b → u.connections ≡ changed f w.connections k → ((l : Connection) → (f l).dump ≡ option_map noted_sent l.dump)
    → IsTalked w k sent carried
    → IsTalked u k (sent ++ request_of c.at.run b.payload (checkpoint_of c.at.counts).0 (checkpoint_of c.at.counts).1 step ∷ []) carried
asks_talked w u k c b step f sent carried kept on own there stage begun connections notes t = record {
  absent = λ past. absurd ((grind (arith, numbered_within)));
  told = λ d (l, at, is). elim (changed_is f w.connections k k l (ap (λ ls. numbered ls k) (sym connections) ∙ at)) [
    | inr (other, was) ↦ absurd (other refl)
    | inl (same, (x, was, new)) ↦
        let m = mapped noted_sent x.dump d (sym (notes x) ∙ ap (λ (z : Connection). z.dump) (sym new) ∙ is) in
        let a = subst (λ s. IsConnectionToldAt s w.begun (side_of w.server k) x c m.0) stage ((kept.told.each k x was).own m.0 c m.1 own there) in
        let next = sent_is_next w u c b a.0 (side_of w.server k) x m.0 step kept on a.1 a.2 begun in
        elim (t.told m.0 (x, was, m.1)) [
          | inl (equal, all) ↦ inr (request, subst (λ e. IsNextSent u e request) (sym m.2) next, ap (λ s. s ++ request ∷ []) (sym all))
          | inr (r, n, last) ↦ (let one = n.sent in let two = a.2.settled.sent in absurd (omega (arith, one, two)))
        ]
  ];
}
  where
    request : PlainRequest
    request = request_of c.at.run b.payload (checkpoint_of c.at.counts).0 (checkpoint_of c.at.counts).1 step

sends_talked : (failing : Bool) (w u : World) (k j : ℕ) (c : WorldClient) (b : Begun) (step : Step) (sent carried more done : List PlainRequest) → IsWorldKept w → GoesOn w u
    → w.own ≡ Some j → w.caller ≡ Some c → c.at.stage ≡ ToSend step → numbered w.begun c.number ≡ Some b → Sends failing w j c b.payload step u
    → more ≡ sent_here failing (j == k) (request_of c.at.run b.payload (checkpoint_of c.at.counts).0 (checkpoint_of c.at.counts).1 step) → done ≡ [] → IsTalked w k sent carried
    → IsTalked u k (sent ++ more) (carried ++ done)
sends_talked true w u k j c b step sent carried more done kept on own there stage begun (reader, is) some nothing t =
    still_talked w u k sent carried more done on (dumped_as k w u _ is (changed_dumped k w.connections w.connections without_peer j (λ x. refl) (same_dumped k w.connections))) some nothing t
sends_talked false w u k j c b step sent carried more done kept on own there stage begun (reader, fed, is) some nothing t = elim (eqb_tells j k) [
  | inr (unequal, other) ↦
      still_talked w u k sent carried more done on (dumped_as k w u _ is (other_dumped k w.connections _ j other)) (some ∙ ap (λ e. one_if_here e request) unequal) nothing t
  | inl (equal, same) ↦
      subst (λ m. IsTalked u k (sent ++ m) (carried ++ done)) (sym (some ∙ ap (λ e. one_if_here e request) equal))
      (subst (IsTalked u k (sent ++ request ∷ [])) (sym (ap (λ m. carried ++ m) nothing ∙ append-nil carried))
      (asks_talked w u k c b step (sent_connection _) sent carried kept on (own ∙ ap Some same) there stage begun
      (ap (λ (x : World). x.connections) is ∙ ap (changed (sent_connection _) w.connections) same) (λ l. refl) t))
]
  where
    request : PlainRequest
    request = request_of c.at.run b.payload (checkpoint_of c.at.counts).0 (checkpoint_of c.at.counts).1 step

-- the server carries the next request out
serves_talked : OneReading → DroppedWrites → (w : World) (v : Turn w) (sent carried : List PlainRequest) → IsWorldKept w → GoesOn w (turned w v) → IsTalked w v.k sent carried
    → IsTalked (turned w v) v.k sent (carried ++ v.request ∷ [])
serves_talked g h w v sent carried kept on t = record {
  absent = grind (arith, numbered_within, side_there);
  told = λ d (l, at, is). elim (served_dump w v v.k l d at is) [
    | inr (other, was) ↦ absurd (other refl)
    | inl (same, (x, e, was, its, new)) ↦
        let n = next_request g h w v x e kept.told was its in
        let more = carried_more e v.request v.reply (served_step g h w v kept.told x e was its).few in
        let next = n.sent in
        elim (t.told e (x, was, its)) [
          | inl (equal, all) ↦ absurd (omega (arith, equal, next))
          | inr (r, last, all) ↦ inl (
            subst (λ (z : AttemptState). z.sent ≡ z.carried) (sym new) (((noted_same e v.request v.reply).sent) ∙ next ∙ sym more),
            ap (λ q. carried ++ q ∷ []) (one_next w e v.request r n last) ∙ sym all,
          )
        ]
  ];
}

finds_talked : OneReading → DroppedWrites → (w u : World) (k j : ℕ) (trouble : Trouble) (s : ServerConnection) (found : Result (Option PlainRequest) WireFault) (bytes rest : List ℕ)
    (sent carried more done : List PlainRequest) → IsWorldKept w → GoesOn w u → side_of w.server j ≡ Some s → Unread s.reached bytes → ParsesAs bytes found rest
    → Finds w j trouble s found rest u → more ≡ [] → done ≡ carried_here (j == k) found → IsTalked w k sent carried → IsTalked u k (sent ++ more) (carried ++ done)
finds_talked g h w u k j trouble s (Ok None) bytes rest sent carried more done kept on live unread gives finds nothing some t = absurd finds
finds_talked g h w u k j trouble s (Err fault) bytes rest sent carried more done kept on live unread gives is nothing some t =
    still_talked w u k sent carried more done on (dumped_as k w u _ is (changed_dumped k w.connections w.connections without_server j (λ x. refl) (same_dumped k w.connections))) nothing some t
finds_talked g h w u k j trouble s (Ok (Some request)) bytes rest sent carried more done kept on live unread gives finds nothing some t = elim (eqb_tells j k) [
  | inr (unequal, other) ↦
      still_talked w u k sent carried more done on (dumped_as k w u _ c.is (other_dumped k w.connections _ j other)) nothing (some ∙ ap (λ e. one_if_here e request) unequal) t
  | inl (equal, same) ↦
      let next = serves_talked g h w v sent carried kept (subst (GoesOn w) c.is on) (subst (λ i. IsTalked w i sent carried) (sym same) t) in
      subst (λ m. IsTalked u k m (carried ++ done)) (sym (ap (λ m. sent ++ m) nothing ∙ append-nil sent))
      (subst (λ m. IsTalked u k sent (carried ++ m)) (sym (some ∙ ap (λ e. one_if_here e request) equal))
      (subst (λ i. IsTalked u i sent (carried ++ request ∷ [])) same (subst (λ x. IsTalked x j sent (carried ++ request ∷ [])) (sym c.is) next)))
]
  where
    c : ServerTurn w j trouble u
    c = turn_of w j trouble s request bytes rest u live unread gives finds

    v : Turn w
    v = carries_turn w u j trouble c

talked_after : OneReading → DroppedWrites → (w u : World) (event : PlainEvent) (k : ℕ) (sent carried more done : List PlainRequest) → IsWorldKept w → Happens w event u → GoesOn w u
    → Sent k w event more → CarriedOut k w event u done → IsTalked w k sent carried → IsTalked u k (sent ++ more) (carried ++ done)
talked_after g h w u (Send fails) k sent carried more done kept (may, (c, step, j, b, there, stage, own, begun, sends)) on (c', step', j', b', there', stage', own', begun', is) nothing t =
    grind (arith, sends_talked)
talked_after g h w u (Serve j trouble) k sent carried more done kept happens on nothing (s, found, bytes, rest, live, unread, gives, finds, is) t =
    grind (arith, finds_talked)
talked_after g h w u event k sent carried more done kept happens on some nothing t =
    still_talked w u k sent carried more done on ((grind (arith, same_dumped, joined_dumped, changed_dumped, mapped_dumped))) some nothing t

-- after every list of events
talks_kept : Laws → (k : ℕ) (drives : List PlainDriveSpec) (w : World) (events : List PlainEvent) (sent carried : List PlainRequest) → AreGoodDrives drives
    → Talks k (first_world drives) events w sent carried → IsWorldKept w × IsTalked w k sent carried
talks_kept g k drives w events sent carried good talk.none =
    (first_kept drives good, record { absent = λ past. (refl, refl); told = λ d (l, at, is). absurd (no_number k l at) })
talks_kept g k drives w events sent carried good (talk.one_more {before = before} {sent = old} {carried = was} event more done talks happens asks does) =
    let t = talks_kept g k drives before _ old was good talks in (
      kept_after g before w event t.0 happens,
      talked_after g.reading g.dropped before w event k old was more done t.0 happens (goes_on before event w happens) asks does t.1,
    )

pub requests : Laws → (k : ℕ) (drives : List PlainDriveSpec) (w : World) (events : List PlainEvent) (sent carried : List PlainRequest) → AreGoodDrives drives
    → Talks k (first_world drives) events w sent carried → IsBeginning w k sent carried
requests g k drives w events sent carried good talks = (talks_kept g k drives w events sent carried good talks).1.told

-- of every list of events it is told
sent_in : (k : ℕ) (w : World) (event : PlainEvent) (u : World) → Happens w event u → (more : List PlainRequest) × Sent k w event more
sent_in k w (Send fails) u (may, (c, step, j, b, there, stage, own, begun, sends)) = (_, (c, step, j, b, there, stage, own, begun, refl))
sent_in k w event u happens = ([], refl)

carried_in : (k : ℕ) (w : World) (event : PlainEvent) (u : World) → Happens w event u → (done : List PlainRequest) × CarriedOut k w event u done
carried_in k w (Serve j trouble) u (may, (s, found, bytes, rest, live, unread, gives, finds)) =
    (carried_here (j == k) found, (s, found, bytes, rest, live, unread, gives, finds, refl))
carried_in k w event u happens = ([], refl)

pub talks : (k : ℕ) (first w : World) (events : List PlainEvent) → Runs first events w
    → (sent : List PlainRequest) × (carried : List PlainRequest) × Talks k first events w sent carried
talks k first w events none = ([], [], talk.none)
talks k first w events (one_more {before = before} event run happens) =
    let t = talks k first before _ run in
    let asks = sent_in k before event w happens in
    let does = carried_in k before event w happens in
    (t.0 ++ asks.0, t.1 ++ does.0, talk.one_more event asks.0 does.0 t.2 happens asks.1 does.1)
