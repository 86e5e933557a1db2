-- What a client goes on past after the look.
use Rattle.world_model.proofs.Basics.{length-append, nil_from_length, ◌≡◌, ◌≢◌, ℕ, suc, false, List, [], ◌∷◌, ◌++◌, length, take, Option, None, sym, ap, subst, ◌∙◌, inl, inr, arith, bytes_eq-Decides, take_all}
use Rattle.world_model.proofs.Terms.{PlainReply, reply_text, Data, ReplyHeld, PlainRun, label, VolumeCount, counted_label, wanted_of, Reply, Standing, ReceivesAt, FedAt, HasFedAt, Step, Operation, Look, RewindAgain, ToSend, Waiting, Progress, ServerConnection, Connection, AttemptState, Begun, WorldClient, HasCountOf, GoesTo, FitsReplyReader, IsStepReply, IsStepReplied}
use Rattle.world_model.proofs.SentWire.{OneReply, one_heard}
use Rattle.world_model.proofs.ToldHears.{waits, whole, hearing}

-- a label of a counted volume is found
pub counted_shown : (run : PlainRun) (counts : List VolumeCount) (volume first : ℕ) → HasCountOf counts volume first
    → counted_label run counts (label run volume first) ≢ None
counted_shown run (z ∷ counts) volume first (c, (suc i, within, is), same, its) =
    let rest = counted_shown run counts volume first (c, (i, omega (arith, within), is), same, its) in
    grind arith
counted_shown run counts volume first given = grind (arith, bytes_eq-Decides)

pub look_past : (old new : Standing) (reply : PlainReply) (progress : Progress) → ReceivesAt old Look (Reply reply) false progress new
    → new.stage ≡ ToSend (Operation RewindAgain) → (bytes : List ℕ) × (reply ≡ Data bytes) × (counted_label old.run old.counts bytes ≡ None)
look_past old new reply progress given at = grind arith

pub nothing_past : (old new : Standing) (step next : Step) (reader : ReplyHeld) (progress : Progress) → HasFedAt (Waiting step) reader []
    → old.stage ≡ Waiting step → FedAt (Waiting step) old [] [] progress new → new.stage ≡ ToSend next → ⊥
nothing_past old new step next reader progress had at given goes = grind arith

-- What leads it on is the whole reply, and before the next step all was done.
pub record RepliesPast (run : PlainRun) (o : Option ServerConnection) (l : Connection) (c : WorldClient) (d : AttemptState) (step next : Step) (progress : Progress) (new : Standing) :
    Type 0 where
  pub reply : PlainReply
  pub text : l.back ≡ reply_text reply
  pub brief : FitsReplyReader (wanted_of step) reply
  pub heard : ReceivesAt c.at step (Reply reply) false progress new
  pub goes : GoesTo run o c.at d new next

pub reply_past : OneReply → (b : Begun) (o : Option ServerConnection) (l : Connection) (c : WorldClient) (d : AttemptState) (step next : Step) (progress : Progress) (new : Standing)
    → c.at.stage ≡ Waiting step → (r : IsStepReplied b o l c d step) → IsStepReply b.run o c.at d step (r.fed ++ l.back) → HasFedAt (Waiting step) c.reader []
    → FedAt (Waiting step) c.at [] l.back progress new → new.stage ≡ ToSend next → RepliesPast b.run o l c d step next progress new
reply_past g b o l c d step next progress new at r (inl none) has feeds goes =
    let nothing = nil_from_length l.back (omega (arith, ap length none, length-append r.fed l.back)) in
    absurd (nothing_past c.at new step next c.reader progress has at (subst (λ way. FedAt (Waiting step) c.at [] way progress new) nothing feeds) goes)
reply_past g b o l c d step next progress new at r (inr (reply, is, brief, leads)) has feeds goes =
    let n = length l.back in
    let all : take n l.back ≡ l.back = take_all n l.back (omega arith) in
    let same : [] ≡ r.fed = one_heard c.reader (wanted_of step) [] r.fed (inr tt) has.unread r.has.unread in
    elim (hearing g c.reader c.at new step reply r.fed [] l.back n progress brief is r.has has
    (subst (λ way. FedAt (Waiting step) c.at [] way progress new) (sym all) feeds)) [
      | waits moves put more ↦ absurd (grind arith)
      | whole spelled none heard ↦
          record { reply = reply; text = ap (λ f. f ++ l.back) same ∙ is; brief = brief; heard = heard; goes = leads progress new next heard goes }
    ]
