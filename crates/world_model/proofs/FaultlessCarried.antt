-- On a link without faults, a request that is carried out.
use Rattle.world_model.proofs.Basics.{◌≡◌, ◌≢◌, ℕ, suc, ◌+◌, ◌≤◌, IsTrue, List, [], ◌∷◌, ◌++◌, append_assoc, option_map, Option, Some, None, Result, Ok, Err, refl, sym, ap, subst, ◌∙◌, inl, inr, arith, eqb_tells, same_Some}
use Rattle.world_model.proofs.Terms.{NoTrouble, ServerTurn, PlainRequest, SpellsRequest, request_text, ParsesAs, Unread, reply_text, WireFault, ServerConnection, side, session_view, TroubledServe, wanted_of, standing, Step, Stage, Ready, ToSend, Waiting, World, Connection, AttemptState, Begun, WorldClient, numbered, PlainDriveSpec, connection_of, changed, side_of, sent_on, answered, noted, Finds, carried, IsWorldKept, is_in_attempt, AreUnserved, request_in, IsPending, IsAttempt, IsStepAsked, FitsReplyReader, IsConnectionToldAt, IsFaultlessWorld, IsOwnConnection, IsStepUnanswered, ReelsStandAt, StandsWith, Leads, stock_of, attempt_on}
use Rattle.world_model.proofs.Ground.{served_bin, changed_is, with_here, numbered_there, numbered_within, numbered_first, OneReading, DroppedWrites, one_read, text_not_long, never_dropped, serve_pending, served_leads, noted_same, turned_here, turned_beside}
use Rattle.world_model.proofs.Moves.{turn_of, carries_turn}
use Rattle.world_model.proofs.Held.{side_there}
use Rattle.world_model.proofs.FaultlessSteps.{stock_then, step_leads}

pub changed_here : {X : Type 0} (f : X → X) (xs : List X) (k : ℕ) (x : X) → numbered xs k ≡ Some x → numbered (changed f xs k) k ≡ Some (f x)
changed_here f xs k x at = grind (arith, with_here)

-- Each connection was there; but for one, what is on the way to the server is the same.
abbrev pub ConnectionsFrom : World → World → ℕ → Type 0
ConnectionsFrom w u k =
    (j : ℕ) (y : Connection) → connection_of u j ≡ Some y
    → (x : Connection) × (connection_of w j ≡ Some x) × ((d : AttemptState) → x.dump ≡ Some d → (e : AttemptState) × (y.dump ≡ Some e)) × (j ≢ k → y.toward ≡ x.toward)

pub changed_connections : (w u : World) (k : ℕ) (f : Connection → Connection) → u.connections ≡ changed f w.connections k
    → ((l : Connection) (d : AttemptState) → l.dump ≡ Some d → (e : AttemptState) × ((f l).dump ≡ Some e)) → ConnectionsFrom w u k
changed_connections w u k f connections dumps j y at = elim (changed_is f w.connections k j y (ap (λ ls. numbered ls j) (sym connections) ∙ at)) [
  | inl (same, (x, was, new)) ↦ (
    x,
    ap (numbered w.connections) same ∙ was,
    λ d is. (let e = dumps x d is in (e.0, ap (λ (l : Connection). l.dump) new ∙ e.1)),
    λ other. absurd (other same),
  )
  | inr (other, on) ↦ (y, on, λ d is. (d, is), λ different. refl)
]

-- An event on the client's own connection, which is the client's own still.
pub own_settles : (drive : PlainDriveSpec) (w u : World) (k : ℕ) (f : Connection → Connection) (l : Connection) (d e : AttemptState) (b : Begun) (s y : ServerConnection)
    (c : WorldClient) (stage : Stage) → IsFaultlessWorld drive w → IsOwnConnection w k l d b s → u.connections ≡ changed f w.connections k
    → ((x : Connection) (n : AttemptState) → x.dump ≡ Some n → (m : AttemptState) × ((f x).dump ≡ Some m)) → ((f l).cut ≡ l.cut) × ((f l).dump ≡ Some e) × (e.run ≡ d.run)
    → ((j : ℕ) → j ≢ k → side_of u.server j ≡ side_of w.server j) → side_of u.server k ≡ Some y → (u.own ≡ w.own) × (u.begun ≡ w.begun) × (u.counts ≡ w.counts) × (u.failure ≡ None)
    → u.caller ≡ Some c → c.at.stage ≡ stage → (IsOwnConnection u k (f l) e b y → ReelsStandAt stage drive u c) → IsFaultlessWorld drive u
own_settles drive w u k f l d e b s y c stage sm own connections dumps (whole, dump, run) beside live (owns, begun, counts, failure) caller at stands =
    let mine : IsOwnConnection u k (f l) e b y = grind (arith, changed_here) in
    let here = stands mine in
    grind (arith, changed_connections)

-- a beginning of a request has no fault
request_no_fault : (text bytes way rest : List ℕ) (request : PlainRequest) (fault : WireFault) → SpellsRequest text request → text ≡ bytes ++ way
    → ParsesAs bytes (Err fault) rest → ⊥
request_no_fault text bytes way rest request fault spelled is (f, none, same) =
    let stream : text ≡ (f.seen ++ f.byte ∷ []) ++ (f.later ++ way)
    = is ∙ ap (λ l. l ++ way) f.split ∙ append_assoc f.seen (f.byte ∷ f.later) way ∙ sym (append_assoc f.seen (f.byte ∷ []) (f.later ++ way)) in
    f.hopeless (f.later ++ way, request, subst (λ l. SpellsRequest l request) stream spelled)

-- where nothing is unserved, no request is found and no fault
pub nothing_found : DroppedWrites → (w u : World) (k : ℕ) (s : ServerConnection) (way bytes rest : List ℕ) (found : Result (Option PlainRequest) WireFault)
    → AreUnserved (Some s) way [] → Unread s.reached bytes → ParsesAs bytes found rest → Finds w k NoTrouble s found rest u → ⊥
nothing_found h w u k s way bytes rest found given unread gives finds = grind (arith, one_read)

-- the server's side of a request that was sent finds no fault
pending_no_fault : OneReading → DroppedWrites → (b : Begun) (s : ServerConnection) (way : List ℕ) (d : AttemptState) (step : Step) (bytes rest : List ℕ) (fault : WireFault)
    → IsPending b (Some s) way d step → Unread s.reached bytes → ParsesAs bytes (Err fault) rest → ⊥
pending_no_fault g h b s way d step bytes rest fault p unread gives = elim p.unserved [
  | inr none ↦ grind (arith, one_read)
  | inl (mine, was, is) ↦
      let text = request_text (request_in b d step) in
      let same = one_read h s.reached mine bytes (text_not_long g text mine way (request_in b d step) p.spelled (never_dropped b d step) is) was unread in
      request_no_fault text bytes way rest (request_in b d step) fault p.spelled (is ∙ ap (λ l. l ++ way) same) gives
]

-- the server carries out the request that the client waits for
carried_faultless : OneReading → DroppedWrites → (drive : PlainDriveSpec) (w u : World) (k : ℕ) (turn : ServerTurn w k NoTrouble u) (c : WorldClient) (l : Connection) (d : AttemptState)
    (b : Begun) (step : Step) → IsWorldKept w → IsFaultlessWorld drive w → IsStepUnanswered drive w (attempt_on k b d turn.s.session) l step → w.caller ≡ Some c
    → c.at.stage ≡ Waiting step → IsOwnConnection w k l d b turn.s → IsAttempt w.begun c d step b → IsStepAsked b (Some turn.s) l c d step → IsFaultlessWorld drive u
carried_faultless g h drive w u k turn c l d b step kept sm un caller stage own attempt asked =
    let v = carries_turn w u k NoTrouble turn in
    let s = turn.s in
    let p = asked.pending in
    let all = serve_pending g h w v b l.toward d step p in
    let good = kept.told.good d.run b own.begun in
    let served : TroubledServe NoTrouble w.server.holders k (session_view w.server.library s.session) (request_in b d step) v.reply (session_view v.library v.session) v.holders
    = subst (λ r. TroubledServe NoTrouble w.server.holders k (session_view w.server.library s.session) r v.reply (session_view v.library v.session) v.holders) all.0 v.served in
    let few = (let sent = p.sent in let many = p.few in let limit : d.carried + 1 ≡ d.sent = omega (arith, sent) in subst (λ n. suc n ≤ 18446744073709551616) (sym limit) many) in
    let brief : FitsReplyReader (wanted_of step) v.reply
    = (served_leads (standing b.run [] Ready) b.payload NoTrouble w.server.holders w.server.library v.library s v.reached v.session d v.reply step good.run p.done few p.spelled served.step).0 in
    let leads : Leads drive (stock_then (stock_of w) k v.request v.library v.session v.holders) (attempt_on k b (noted v.request v.reply d) v.session) c.at step v.reply
    = subst (λ r. Leads drive (stock_then (stock_of w) k r v.library v.session v.holders) (attempt_on k b (noted r v.reply d) v.session) c.at step v.reply) (sym all.0)
    (step_leads drive (stock_of w) k c b d s v.reply v.library v.session v.holders w.begun step (kept.lawful c caller) good attempt p.done un.stands served) in
    let bins = served_bin NoTrouble w.server.holders (session_view w.server.library s.session) (request_in b d step) v.reply (session_view v.library v.session) served.step in
    let x : World = carried w k v.request v.reply v.reached v.library v.session v.holders in
    let y : ServerConnection = side v.reached v.session in
    let way : [] ++ sent_on l.cut l.back (reply_text v.reply) ≡ reply_text v.reply = (let whole = own.whole in let none = un.back in grind arith) in
    subst (IsFaultlessWorld drive) (sym turn.is) (own_settles drive w x k (answered v.request v.reply) l d (noted v.request v.reply d) b s y c (Waiting step) sm own refl
    (λ z n is. (noted v.request v.reply n, ap (option_map (noted v.request v.reply)) is)) (refl, ap (option_map (noted v.request v.reply)) own.dump, (noted_same d v.request v.reply).run)
    (turned_beside w x k (Some y) refl) (turned_here w x k s (Some y) own.live refl) (refl, refl, refl, refl) caller stage
    (λ mine. (
      k,
      answered v.request v.reply l,
      noted v.request v.reply d,
      b,
      y,
      mine,
      inr record {
        served = subst (λ o. AreUnserved o l.toward []) (sym mine.live) all.1.unserved;
        fed = [];
        has = asked.fed;
        reply = v.reply;
        text = way;
        brief = brief;
        bin = (bins.0, bins.1 ∙ ap (λ l. l ++ bins.0) (grind arith));
        leads = leads;
      },
    )))

-- what is told of the client's own connection
pub own_told : (w : World) (k : ℕ) (l : Connection) (d : AttemptState) (b : Begun) (s : ServerConnection) (c : WorldClient) (stage : Stage) → IsWorldKept w → IsOwnConnection w k l d b s → w.caller ≡ Some c
    → c.at.stage ≡ stage → IsConnectionToldAt stage w.begun (Some s) l c d
own_told w k l d b s c stage kept own there at = grind (arith, (kept.told.each k l own.there).own d c own.dump own.own there)

-- the server finds something on a connection where the client waits
found_faultless : OneReading → DroppedWrites → (drive : PlainDriveSpec) (w u : World) (k : ℕ) (c : WorldClient) (l : Connection) (d : AttemptState) (b : Begun) (s : ServerConnection) (step : Step)
    (found : Result (Option PlainRequest) WireFault) (bytes rest : List ℕ) → IsWorldKept w → IsFaultlessWorld drive w → w.caller ≡ Some c → c.at.stage ≡ Waiting step → IsOwnConnection w k l d b s
    → IsStepUnanswered drive w (attempt_on k b d s.session) l step → IsConnectionToldAt (Waiting step) w.begun (Some s) l c d → Unread s.reached bytes → ParsesAs bytes found rest
    → Finds w k NoTrouble s found rest u → IsFaultlessWorld drive u
found_faultless g h drive w u k c l d b s step found bytes rest kept sm there stage own un (b', attempt, inr replied) unread gives finds =
    absurd (nothing_found h w u k s l.toward bytes rest found replied.settled.unserved unread gives finds)
found_faultless g h drive w u k c l d b s step (Ok None) bytes rest kept sm there stage own un (b', attempt, inl asked) unread gives finds = absurd finds
found_faultless g h drive w u k c l d b s step (Err fault) bytes rest kept sm there stage own un (b', attempt, inl asked) unread gives finds =
    absurd (pending_no_fault g h b' s l.toward d step bytes rest fault asked.pending unread gives)
found_faultless g h drive w u k c l d b s step (Ok (Some request)) bytes rest kept sm there stage own un (b', attempt, inl asked) unread gives finds =
    let same : b' ≡ b = same_Some b' b (sym attempt.begun_as ∙ own.begun) in
    let turn = turn_of w k NoTrouble s request bytes rest u own.live unread gives finds in
    carried_faultless g h drive w u k turn c l d b step kept sm un there stage own (subst (λ x. IsAttempt w.begun c d step x) same attempt)
    (subst (λ x. IsStepAsked x (Some s) l c d step) same asked)

module _ (drive : PlainDriveSpec) (w : World) (k : ℕ) (s : ServerConnection) (l : Connection) where
  -- A connection has no unserved bytes, unless it is the client's own and its request was not carried out yet.
  pub data Unserved : Type 0 where
    none_left : AreUnserved (Some s) l.toward [] → Unserved
    one_left : (c : WorldClient) (step : Step) (d : AttemptState) (b : Begun) → w.caller ≡ Some c → c.at.stage ≡ Waiting step → IsOwnConnection w k l d b s
        → IsStepUnanswered drive w (attempt_on k b d s.session) l step → Unserved

  -- on the client's own, by its stage
  unserved_at : (c : WorldClient) (stage : Stage) → IsWorldKept w → side_of w.server k ≡ Some s → connection_of w k ≡ Some l → w.own ≡ Some k
      → w.caller ≡ Some c → c.at.stage ≡ stage → IsTrue (is_in_attempt stage) → ReelsStandAt stage drive w c → Unserved
  unserved_at c (ToSend step) kept live conn mine there at under (j, x, d, b, y, own, stands) =
      let told = own_told w j x d b y c (ToSend step) kept own there at in
      let none = told.2.settled.unserved in
      none_left (grind arith)
  unserved_at c (Waiting step) kept live conn mine there at under (j, x, d, b, y, own, inr done) = grind arith
  unserved_at c (Waiting step) kept live conn mine there at under (j, x, d, b, y, own, inl un) =
      one_left c step d b there at (grind arith) (grind arith)
  unserved_at c stage kept live conn mine there at under stands = absurd cc

  pub unserved_on : IsWorldKept w → IsFaultlessWorld drive w → side_of w.server k ≡ Some s → connection_of w k ≡ Some l → Unserved
  unserved_on kept sm live conn = by_own w.own refl
    where
      another : (w.own ≢ Some k) → Unserved
      another not_own = none_left (subst (λ o. AreUnserved o l.toward []) live (sm.still k l conn not_own))

      by_own : (o : Option ℕ) → w.own ≡ o → Unserved
      by_own None is = another (λ mine. (let clash = sym is ∙ mine in absurd cc))
      by_own (Some j) is = elim (eqb_tells j k) [
        | inl (equal, same) ↦ (
            let client = (kept.owned.own k (is ∙ ap Some same)).1 in
            unserved_at client.0 client.0.at.stage kept live conn (is ∙ ap Some same) client.1 refl client.2 (subst (λ o. StandsWith o drive w) client.1 sm.stands))
        | inr (unequal, other) ↦ another (λ mine. other (same_Some j k (sym is ∙ mine)))
      ]

-- the server carries a request out
pub serve_faultless : OneReading → DroppedWrites → (drive : PlainDriveSpec) (w u : World) (k : ℕ) (s : ServerConnection) (found : Result (Option PlainRequest) WireFault) (bytes rest : List ℕ)
    → IsWorldKept w → IsFaultlessWorld drive w → side_of w.server k ≡ Some s → Unread s.reached bytes → ParsesAs bytes found rest → Finds w k NoTrouble s found rest u → IsFaultlessWorld drive u
serve_faultless g h drive w u k s found bytes rest kept sm live unread gives finds =
    let here = side_there w.server k s live in
    let within = numbered_within w.server.sides k (Some s) here in
    let l = numbered_there w.connections k (numbered_first w.server.sides k (Some s) here) (omega (arith, kept.tidy.paired, within)) in
    elim (unserved_on drive w k s l.0 kept sm live l.1) [
      | none_left none ↦ absurd (nothing_found h w u k s l.0.toward bytes rest found none unread gives finds)
      | one_left c step d b there at own un ↦
          found_faultless g h drive w u k c l.0 d b s step found bytes rest kept sm there at own un (own_told w k l.0 d b s c (Waiting step) kept own there at) unread gives finds
    ]
