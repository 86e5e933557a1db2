-- What is told of each connection, when a run is begun, an attempt starts, or the client sends.
use Rattle.world_model.proofs.Basics.{◌≡◌, length-take, ◌⊎◌, ℕ, suc, ◌+◌, ◌*◌, ◌≤◌, Bool, true, List, [], ◌∷◌, ◌++◌, length, append_assoc, get_or, drop, Option, Some, None, refl, sym, ap, subst, ◌∙◌, inl, inr, arith, same_Some, append-nil}
use Rattle.world_model.proofs.Terms.{SpellsRequest, request_text, held, ReplyHeld, reply_held, ServerConnection, side, Idle, PlainRun, IsRun, cut_blocks, length_cut, size_cut, request_of, standing, checkpoint_of, IsLawful, StageFits, HasFedAt, Step, Open, TapeOp, Ready, ToSend, Waiting, World, Connection, AttemptState, Begun, WorldClient, numbered, side_of, connection_of, new_connection, sent_on, noted_sent, NoRun, caller, fresh, client_connected, sent_connection, next_text, AreTidy, AreBooked, IsOwned, HasDone, AreUnserved, IsPending, IsConnectionSettled, IsConnectionSent, IsAttempt, IsItsTurn, IsStepAsked, IsConnectionToldAt, IsGood, AreTold, request_in}
use Rattle.dump_client.specs.Script.{number_of}
use Rattle.world_model.proofs.Ground.{pushed_is, numbered_more, done_few, fresh_unread, changed_told, joined_told, mapped, Sender}
use Rattle.world_model.proofs.Moves as move
use Rattle.world_model.proofs.SentWire.{raised_one}
use Rattle.world_model.proofs.SentTexts.{request_texts, short_labels}

-- each block of a payload that is cut has at most that many bytes
cut_most : (n size : ℕ) (payload : List ℕ) (i : ℕ) → length (get_or (cut_blocks n size payload) i []) ≤ size
cut_most (suc n) size payload (suc i) = cut_most n size (drop size payload) i
cut_most n size payload i = grind (arith, length-take)

more_sent : (begun more : List Begun) (o : Option ServerConnection) (l : Connection) (d : AttemptState) → IsConnectionSent begun o l d → IsConnectionSent (begun ++ more) o l d
more_sent begun more o l d sent = grind (arith, numbered_more)

-- a run is begun
pub begun_told : (w u : World) (b : Begun) → IsGood b → u.begun ≡ w.begun ++ b ∷ [] → u.connections ≡ w.connections → u.server ≡ w.server → ((k : ℕ) → u.own ≡ Some k → ⊥) → AreTold w → AreTold u
begun_told w u b good begun connections server none t = record {
  good = λ n x at. elim (pushed_is w.begun b n x (ap (λ bs. numbered bs n) (sym begun) ∙ at)) [
    | inl on ↦ t.good n x on
    | inr (last, new) ↦ subst IsGood (sym new) good
  ];
  each = λ k l at. record {
    sent = λ d is. subst (λ h. IsConnectionSent u.begun (side_of h k) l d) (sym server)
        (subst (λ bs. IsConnectionSent bs (side_of w.server k) l d) (sym begun)
        (more_sent w.begun (b ∷ []) (side_of w.server k) l d ((t.each k l (ap (λ ls. numbered ls k) (sym connections) ∙ at)).sent d is)));
    own = λ d c is mine there. absurd (none k mine);
  };
}

pub started_good : (run : PlainRun) (payload : List ℕ) → IsRun run → length payload ≡ run.blocks * run.block_bytes
    → IsGood (record { run = run; payload = cut_blocks run.blocks run.block_bytes payload })
started_good run payload good size = grind (arith, cut_most, length_cut, size_cut)

pub no_run_idle : (w : World) → NoRun w → IsOwned w → (k : ℕ) → w.own ≡ Some k → ⊥
no_run_idle w given o k known = grind arith

-- an attempt starts
pub connected_told : (w : World) (c : WorldClient) → AreTidy w → AreBooked w → IsLawful c.at → w.caller ≡ Some c → c.at.stage ≡ Ready → AreTold w → AreTold (client_connected w c)
connected_told w c tidy booked lawful there ready t =
    joined_told w (client_connected w c) (Some (fresh c)) tidy.paired refl refl refl
    (λ j within mine. (let same : length w.connections + 1 ≡ j = same_Some (length w.connections + 1) j mine in absurd (omega (arith, same, within))))
    record {
      sent = λ d is. subst (IsConnectionSent w.begun (Some (side (held [] 0) Idle)) (new_connection (Some (fresh c)))) (same_Some (fresh c) d is) (inl settled);
      own = λ d x is mine now. (
          let client = same_Some (caller c.number (standing c.at.run c.at.counts (ToSend Open)) (reply_held None [])) x now in
          let told = attempt in
          grind arith);
    } t
  where
    settled : IsConnectionSettled (Some (side (held [] 0) Idle)) [] (fresh c)
    settled = record { sent = refl; unserved = ([], fresh_unread, refl) }

    b : (x : Begun) × (numbered w.begun c.number ≡ Some x) × (x.run ≡ c.at.run)
    b = booked.begun c there

    done : HasDone b.0.run (Some (side (held [] 0) Idle)) (fresh c) Open
    done =
        let left = subst (StageFits c.at.run c.at.counts) ready lawful.stage in
        grind arith

    attempt : IsConnectionToldAt (ToSend Open) w.begun (Some (side (held [] 0) Idle)) (new_connection (Some (fresh c)))
        (caller c.number (standing c.at.run c.at.counts (ToSend Open)) (reply_held None [])) (fresh c)
    attempt = (
      b.0,
      record { begun_as = b.1; run = b.2; number = refl; volume = refl; first = refl },
      record { done = done; settled = settled; back = refl; fed = (record { waits = refl; keeps = refl }, refl) },
    )

-- the number of an operation is one that a request can have
pub small_number : (op : TapeOp) → number_of op ≤ 2147483647
small_number op = grind arith

-- what is sent is unserved, or lost after a cut; a side that is over is cut
sent_unserved : (o : Option ServerConnection) (cut : Bool) (way text : List ℕ) → (o ≡ None → cut ≡ true) → AreUnserved o way []
    → AreUnserved o (sent_on cut way text) text ⊎ AreUnserved o (sent_on cut way text) []
sent_unserved o cut way text here given = grind (arith, append_assoc)

-- the client sends what its turn is
sent_pending : (b : Begun) (o : Option ServerConnection) (l : Connection) (c : WorldClient) (d : AttemptState) (step : Step) (begun : List Begun) → IsGood b → IsLawful c.at
    → (o ≡ None → l.cut ≡ true) → IsAttempt begun c d step b → IsItsTurn b o l c d step
    → IsPending b o (sent_on l.cut l.toward (next_text c b.payload step)) (noted_sent d) step
sent_pending b o l c d step begun good lawful here attempt turn =
    let sent = turn.settled.sent in
    let few = done_few b.run o d step good.run turn.done in
    let one = raised_one d.sent (omega (arith, sent, few)) in
    let request = request_of c.at.run b.payload (checkpoint_of c.at.counts).0 (checkpoint_of c.at.counts).1 step in
    let mine : request ≡ request_in b d step = grind arith in
    record {
      done = (let done = turn.done in grind arith);
      sent = omega (arith, one, sent);
      few = omega (arith, one, sent, few);
      spelled = subst (λ r. SpellsRequest (request_text r) r) mine (subst (λ t. SpellsRequest t request) (append-nil (request_text request))
          (request_texts request (let few = good.blocks in grind (arith, short_labels)) [] (grind arith)));
      unserved = subst (λ r. AreUnserved o (sent_on l.cut l.toward (next_text c b.payload step)) (request_text r) ⊎ AreUnserved o (sent_on l.cut l.toward (next_text c b.payload step)) [])
          mine (sent_unserved o l.cut l.toward (next_text c b.payload step) here turn.settled.unserved);
    }

sends_pending : (w : World) (k : ℕ) (l : Connection) (c : WorldClient) (x : Begun) (d : AttemptState) (step : Step) (reader : ReplyHeld) → AreTidy w → IsLawful c.at → AreTold w
    → w.own ≡ Some k → connection_of w k ≡ Some l → l.dump ≡ Some d → w.caller ≡ Some c → c.at.stage ≡ ToSend step → numbered w.begun c.number ≡ Some x
    → HasFedAt (Waiting step) reader []
    → (b : Begun) × IsAttempt w.begun (caller c.number (standing c.at.run c.at.counts (Waiting step)) reader) (noted_sent d) step b
    × IsStepAsked b (side_of w.server k) (sent_connection (next_text c x.payload step) l) (caller c.number (standing c.at.run c.at.counts (Waiting step)) reader) (noted_sent d) step
sends_pending w k l c x d step reader tidy lawful told own at dump there stage mine fed =
    let (b, attempt, turn) = subst (λ s. IsConnectionToldAt s w.begun (side_of w.server k) l c d) stage ((told.each k l at).own d c dump own there) in
    let same : b ≡ x = same_Some b x (sym attempt.begun_as ∙ ap (numbered w.begun) attempt.number ∙ mine) in
    let pending = sent_pending b (side_of w.server k) l c d step w.begun (told.good d.run b attempt.begun_as) lawful (tidy.each k l at).here attempt turn in (
      b,
      record { begun_as = attempt.begun_as; run = attempt.run; number = attempt.number; volume = attempt.volume; first = attempt.first },
      record {
        pending = subst (λ y. IsPending b (side_of w.server k) (sent_on l.cut l.toward (next_text c y.payload step)) (noted_sent d) step) same pending;
        back = turn.back;
        fed = fed;
      },
    )

-- the client sends
pub asked_told : (w : World) (a : Sender w) → AreTidy w → IsLawful a.c.at → AreTold w → AreTold (move.moved w (move.asks a))
asked_told w a tidy lawful told =
    changed_told w _ a.k (sent_connection text) refl refl (λ j other. refl) (λ j other now. absurd (other (same_Some j a.k (sym now ∙ a.own))))
    (λ l at h. (let p = λ (d : AttemptState) (is : l.dump ≡ Some d). sends_pending w a.k l a.c a.b d a.step a.reader tidy lawful told a.own at is a.there a.stage a.mine a.fed in record {
      sent = λ d is. (
          let m = mapped noted_sent l.dump d is in
          subst (IsConnectionSent w.begun (side_of w.server a.k) (sent_connection text l)) (sym m.2) (inr ((p m.0 m.1).0, a.step, (p m.0 m.1).1.begun_as, (p m.0 m.1).2.pending)));
      own = λ d y is now here. (
          let m = mapped noted_sent l.dump d is in
          subst (λ (z : WorldClient). IsConnectionToldAt z.at.stage w.begun (side_of w.server a.k) (sent_connection text l) z d) (same_Some waits y here)
          (subst (IsConnectionToldAt (Waiting a.step) w.begun (side_of w.server a.k) (sent_connection text l) waits) (sym m.2) ((p m.0 m.1).0, (p m.0 m.1).1, inl (p m.0 m.1).2)));
    })) told
  where
    text : List ℕ
    text = next_text a.c a.b.payload a.step

    waits : WorldClient
    waits = caller a.c.number (standing a.c.at.run a.c.at.counts (Waiting a.step)) a.reader
