-- On a link without faults, bytes that reach the client.
use Rattle.world_model.proofs.Basics.{◌≡◌, ◌≢◌, ℕ, ◌+◌, ◌≤◌, IsTrue, List, [], ◌∷◌, ◌++◌, length, map, take, drop, Option, Some, None, refl, sym, ap, subst, ◌∙◌, inl, inr, arith, append-nil, eqb_tells, map-append, same_Some}
use Rattle.world_model.proofs.Terms.{reply_text, ReplyHeld, kept_reel, slot, ServerConnection, Standing, checkpoint_of, count_to, counted_to, FedAt, HasFedAt, unanswered, Step, Open, Operation, Look, Label, Block, Close, Stage, Ready, ToSend, Waiting, Asking, Finished, Progress, World, Connection, AttemptState, Begun, WorldClient, Count, numbered, PlainDriveSpec, changed, side_of, connection_of, without_peer, counts_of, reel_opened_by, Hears, caller, heard, IsWorldKept, is_in_attempt, AreUnserved, IsAttempt, whole_volume, stock_of, volume_slot, IsMoved, IsOffline, IsOwnConnection, IsStepAnswered, StandsBefore, StandsThen, CountsThen, ReelsStandAt, StandsWith, FailsFaultless, IsFaultlessWorld, attempt_on}
use Rattle.dump_client.specs.declared.stage.Progress.TheVariants as moved
use Rattle.world_model.proofs.Ground.{changed_is, Goings, drop_front, OneReply, next_of, length_push, reel_is}
use Rattle.world_model.proofs.ToldHears.{HearsPiece, waits, whole, hearing, open_attempt, unlike_close}
use Rattle.world_model.proofs.LabelledSingle.{one_reel}
use Rattle.world_model.proofs.FaultlessCarried.{changed_here, own_told, changed_connections}

-- the client heard, and counts no more
none_counted : (w : World) (number k : ℕ) (c : Standing) (new : Standing) → new.counts ≡ c.counts
    → w.counts ++ map (counts_of w number k) (drop (length c.counts) new.counts) ≡ w.counts
none_counted w number k c new same = let none = drop_front c.counts [] in grind (arith, append-nil)

-- what was on the way to the server is so still
over_connections : (w u : World) (k n : ℕ) → u.connections ≡ changed without_peer (changed (λ x. record x { back = drop n x.back }) w.connections k) k
    → (j : ℕ) (y : Connection) → connection_of u j ≡ Some y → (x : Connection) × (connection_of w j ≡ Some x) × (y.dump ≡ x.dump) × (y.toward ≡ x.toward)
over_connections w u k n connections j y at =
    elim (changed_is without_peer (changed (λ x. record x { back = drop n x.back }) w.connections k) k j y (ap (λ ls. numbered ls j) (sym connections) ∙ at)) [
      | inl (same, (z, was, new)) ↦ grind (arith, changed_is)
      | inr (other, on) ↦ grind (arith, changed_is)
    ]

-- the attempt is over
is_over : (drive : PlainDriveSpec) (w u : World) (k n : ℕ) (l : Connection) (d : AttemptState) (b : Begun) (s : ServerConnection) → IsFaultlessWorld drive w → IsOwnConnection w k l d b s
    → AreUnserved (side_of w.server k) l.toward [] → u.server ≡ w.server → u.connections ≡ changed without_peer (changed (λ x. record x { back = drop n x.back }) w.connections k) k → u.begun ≡ w.begun
    → u.counts ≡ w.counts → StandsWith u.caller drive u → FailsFaultless drive u → IsFaultlessWorld drive u
is_over drive w u k n l d b s sm own served server connections begun counts stands failure = grind (arith, eqb_tells, over_connections)

module _ (drive : PlainDriveSpec) (w : World) (k n : ℕ) (c : WorldClient) (l : Connection) (d : AttemptState) (b : Begun) (s : ServerConnection) (at : Standing) (reader : ReplyHeld)
    (sm : IsFaultlessWorld drive w) (own : IsOwnConnection w k l d b s) where
  -- the client goes on
  goes_on : (progress : Progress) (counts : List Count) → (came : heard w k n c at reader progress ≡ heard w k n c at reader moved.Send)
      → w.counts ++ map (counts_of w c.number k) (drop (length c.at.counts) at.counts) ≡ counts
      → map (λ (x : Count). x.reel) counts ≡ take (length counts) drive.reels
      → (IsOwnConnection (heard w k n c at reader moved.Send) k (record l { back = drop n l.back }) d b s → ReelsStandAt at.stage drive (heard w k n c at reader moved.Send) (caller c.number at reader))
      → IsFaultlessWorld drive (heard w k n c at reader progress)
  goes_on progress counts came are reels stands = grind (arith, changed_connections, changed_here)

  -- it goes on to a step that is not its close
  goes_to : (next : Step) → at.stage ≡ ToSend next → at.counts ≡ c.at.counts → StandsBefore next drive (stock_of w) k b d s.session
      → IsFaultlessWorld drive (heard w k n c at reader moved.Send)
  goes_to next stage same stands = let counts = none_counted w c.number k c.at at same in goes_on moved.Send w.counts refl counts sm.reels (grind arith)

  -- it counts its volume, and goes on to its close
  counts_now : (step : Step) → IsWorldKept w → IsAttempt w.begun c d step b → step ≢ Close → at.stage ≡ ToSend Close → at.counts ≡ counted_to c.at.counts (d.first + d.blocks)
      → IsMoved drive (stock_of w) k b d s.session → IsFaultlessWorld drive (heard w k n c at reader moved.Send)
  counts_now step kept attempt other stage counted q =
      let v = count_to (checkpoint_of c.at.counts) (d.first + d.blocks) in
      let x : Count = counts_of w c.number k v in
      let point = open_attempt c.at.counts step other in
      let first : d.first ≡ (checkpoint_of c.at.counts).1 = attempt.first ∙ ap (λ p. p.1) point in
      let one : drop (length c.at.counts) at.counts ≡ v ∷ [] = ap (drop (length c.at.counts)) counted ∙ drop_front c.at.counts (v ∷ []) in
      let all : w.counts ++ map (counts_of w c.number k) (drop (length c.at.counts) at.counts) ≡ w.counts ++ x ∷ []
      = ap (λ cs. w.counts ++ map (counts_of w c.number k) cs) one in
      let reel : reel_opened_by k w.opens ≡ q.name = reel_is k w.opens q.name q.opened (one_reel w.opens k d (kept.single k l d own.there own.dump)) in
      let below = next_of drive.reels (length w.counts) q.name q.others q.next in
      let size = length_push w.counts x in
      let placed : slot q.name (Some (kept_reel (whole_volume b.run b.payload d.volume d.first d.blocks) drive.capacity)) ≡ volume_slot drive.capacity w.begun x
      = grind arith in
      let off : IsOffline drive (record (stock_of w) { counts = w.counts ++ x ∷ [] }) k s.session = grind (arith, map-append) in
      goes_on moved.Send (w.counts ++ x ∷ []) refl all (grind (arith, map-append)) (grind arith)

  -- by what came of it
  by_then : (step : Step) (progress : Progress) (stage : Stage) → IsWorldKept w → IsAttempt w.begun c d step b → AreUnserved (side_of w.server k) l.toward []
      → ((next : Step) → at.stage ≡ ToSend next → step ≢ Close) → b.run ≡ at.run → at.stage ≡ stage
      → StandsThen progress stage drive (stock_of w) k b d s.session → CountsThen stage c.at.counts d at.counts
      → IsFaultlessWorld drive (heard w k n c at reader progress)
  by_then step moved.Send (ToSend Close) kept attempt served early run is stands counts = counts_now step kept attempt (early Close is) is counts stands
  by_then step moved.Send (ToSend Open) kept attempt served early run is stands counts = goes_to Open is counts stands
  by_then step moved.Send (ToSend (Operation op)) kept attempt served early run is stands counts = goes_to (Operation op) is counts stands
  by_then step moved.Send (ToSend Look) kept attempt served early run is stands counts = goes_to Look is counts stands
  by_then step moved.Send (ToSend Label) kept attempt served early run is stands counts = goes_to Label is counts stands
  by_then step moved.Send (ToSend (Block number)) kept attempt served early run is stands counts = goes_to (Block number) is counts stands
  by_then step (moved.Failed fault) Asking kept attempt served early run is (why, bin) counts =
      let same = none_counted w c.number k c.at at counts in
      is_over drive w (heard w k n c at reader (moved.Failed fault)) k n l d b s sm own served refl refl refl same (grind arith) (grind arith)
  by_then step moved.Ended Ready kept attempt served early run is stands counts =
      let same = none_counted w c.number k c.at at counts in
      is_over drive w (heard w k n c at reader moved.Ended) k n l d b s sm own served refl refl refl same (grind arith) (λ volume fault failed. absurd cc)
  by_then step moved.Ended Finished kept attempt served early run is stands counts =
      let same = none_counted w c.number k c.at at counts in
      is_over drive w (heard w k n c at reader moved.Ended) k n l d b s sm own served refl refl refl same (grind arith) (λ volume fault failed. absurd cc)
  by_then step progress stage kept attempt served early run is stands counts = absurd stands

  -- it waits for more
  waits_on : (step : Step) (bytes : List ℕ) → (a : IsStepAnswered drive w (attempt_on k b d s.session) l c step) → c.at.stage ≡ Waiting step → at ≡ c.at
      → reply_text a.reply ≡ bytes ++ drop n l.back → HasFedAt at.stage reader (unanswered at.stage bytes) → IsFaultlessWorld drive (heard w k n c at reader moved.Waiting)
  waits_on step bytes a was same text has =
      let stage : at.stage ≡ Waiting step = ap (λ (x : Standing). x.stage) same ∙ was in
      let counts = none_counted w c.number k c.at at (ap (λ (x : Standing). x.counts) same) in
      goes_on moved.Waiting w.counts refl counts sm.reels (grind arith)

  -- by what it makes of the bytes
  hearing_faultless : (step : Step) (bytes : List ℕ) (progress : Progress) → IsWorldKept w → IsAttempt w.begun c d step b → (a : IsStepAnswered drive w (attempt_on k b d s.session) l c step)
      → c.at.stage ≡ Waiting step → at.run ≡ c.at.run → HearsPiece c.at step a.reply bytes (drop n l.back) progress at
      → HasFedAt at.stage reader (unanswered at.stage bytes) → IsFaultlessWorld drive (heard w k n c at reader progress)
  hearing_faultless step bytes progress kept attempt a was run (waits moves same text) has =
      subst (λ p. IsFaultlessWorld drive (heard w k n c at reader p)) (sym moves) (waits_on step bytes a was same text has)
  hearing_faultless step bytes progress kept attempt a was run (whole spelled none its) has =
      let led = a.leads progress at its in
      by_then step progress at.stage kept attempt a.served (λ next to. unlike_close c.at at step next a.reply progress its to) (attempt.run ∙ sym run) refl led.0 led.1

module _ (g : OneReply) (o : Goings) (drive : PlainDriveSpec) (w : World) (k n : ℕ) (l : Connection) (c : WorldClient) (at : Standing) (reader : ReplyHeld) (fed : List ℕ) (progress : Progress)
    (kept : IsWorldKept w) (sm : IsFaultlessWorld drive w) (there : w.caller ≡ Some c) (mine : w.own ≡ Some k) (conn : connection_of w k ≡ Some l) (first : 1 ≤ n) (within : n ≤ length l.back) where
  -- by the stage at which it hears
  stage_hears : (stage : Stage) → c.at.stage ≡ stage → IsTrue (is_in_attempt stage) → ReelsStandAt stage drive w c → HasFedAt c.at.stage c.reader fed
      → FedAt c.at.stage c.at fed (take n l.back) progress at → HasFedAt at.stage reader (unanswered at.stage (fed ++ take n l.back)) → IsFaultlessWorld drive (heard w k n c at reader progress)
  stage_hears (ToSend step) is under (j, x, d, b, s, own, stands) had feeds has =
      let told = own_told w j x d b s c (ToSend step) kept own there is in
      let back = told.2.back in
      grind arith
  stage_hears (Waiting step) is under (j, x, d, b, s, own, inl un) had feeds has = grind arith
  stage_hears (Waiting step) is under (j, x, d, b, s, own, inr a) had feeds has =
      let same : j ≡ k = same_Some j k (sym own.own ∙ mine) in
      let connections : x ≡ l = same_Some x l (sym own.there ∙ ap (connection_of w) same ∙ conn) in
      let told = own_told w j x d b s c (Waiting step) kept own there is in
      let its : told.0 ≡ b = same_Some told.0 b (sym told.1.begun_as ∙ own.begun) in
      let pieces : FedAt c.at.stage c.at fed (take n x.back) progress at = subst (λ (y : Connection). FedAt c.at.stage c.at fed (take n y.back) progress at) (sym connections) feeds in
      subst (λ m. IsFaultlessWorld drive (heard w m n c at reader progress)) same
      (hearing_faultless drive w j n c x d b s at reader sm own step (fed ++ take n x.back) progress kept (subst (λ y. IsAttempt w.begun c d step y) its told.1) a is
      ((o.0 c.at at fed (take n x.back) progress pieces).1.run)
      (hearing g c.reader c.at at step a.reply a.fed fed x.back n progress a.brief a.text a.has (subst (λ y. HasFedAt y c.reader fed) is had)
      (subst (λ y. FedAt y c.at fed (take n x.back) progress at) is pieces))
      (subst (λ (y : Connection). HasFedAt at.stage reader (unanswered at.stage (fed ++ take n y.back))) (sym connections) has))
  stage_hears stage is under stands had feeds has = absurd cc

-- Bytes reach the side that is not the server's: on this link it is the client.
pub hears_faultless : OneReply → Goings → (dump : Option AttemptState) (drive : PlainDriveSpec) (w u : World) (k n : ℕ) (l : Connection) → IsWorldKept w → IsFaultlessWorld drive w → connection_of w k ≡ Some l
    → IsTrue l.other → l.dump ≡ dump → 1 ≤ n → n ≤ length l.back → Hears dump w k n (take n l.back) u → IsFaultlessWorld drive u
hears_faultless g o None drive w u k n l kept sm at other dump first within hears =
    let clash = sym dump ∙ (sm.clients k l at).1 in absurd cc
hears_faultless g o (Some d) drive w u k n l kept sm at other dump first within (c, fed, new, reader, progress, there, had, feeds, has, is) =
    let mine : w.own ≡ Some k = kept.owned.only k (l, d, at, other, dump) in
    let client = (kept.owned.own k mine).1 in
    let same : client.0 ≡ c = same_Some client.0 c (sym client.1 ∙ there) in
    subst (IsFaultlessWorld drive) (sym is)
    (stage_hears g o drive w k n l c new reader fed progress kept sm there mine at first within c.at.stage refl (subst (λ (x : WorldClient). IsTrue (is_in_attempt x.at.stage)) same client.2)
    (subst (λ x. StandsWith x drive w) there sm.stands) had feeds has)
