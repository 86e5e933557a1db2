-- What is told of each connection stays so, whatever happens.
-- Openings and counts of attempts, and what they wrote, whatever happens.
use Rattle.world_model.proofs.Basics.{List, None, refl, sym, ◌∙◌, arith}
use Rattle.world_model.proofs.Terms.{World, PlainDriveSpec, first_world, new_connection, AreTidy, AreBooked, IsClientLawful, IsOwned, AreTold, EachReelOnce, AreHeld, AreLaid, AreOpened, AreLabelled, AreSingle, EachCountHasAttempt}
use Rattle.world_model.proofs.Ground.{no_number, OneReading, DroppedWrites, OneReply, same_told, changed_told, joined_told, strangers, cut_told, ended_told, restarted_told, left_told, reached_told, served_told, Move, begins, connects, asks, fails, reaches, cuts, talks, hears, hears_last, sees, forgets, gives_up, answers, moved}
use Rattle.world_model.proofs.Moves.{serves, ends, restarts, joins}
use Rattle.world_model.proofs.ToldSends.{begun_told, started_good, no_run_idle, connected_told, asked_told}
use Rattle.world_model.proofs.ToldHears.{hears_told}
use Rattle.world_model.proofs.LabelledEvents.{quiet_moved}
use Rattle.world_model.proofs.LabelledSingle.{served_earned, quiet_single, served_single}
use Rattle.world_model.proofs.LabelledOthers.{quiet_labelled}
use Rattle.world_model.proofs.LabelledServed.{served_labelled}
use Rattle.world_model.proofs.CountedAfter.{same_earned, listens_earned}

pub first_told : (drives : List PlainDriveSpec) → AreTold (first_world drives)
first_told drives = record { good = λ n b at. absurd (no_number n b at); each = λ k l at. absurd (no_number k l at) }

pub told_moved : OneReading → DroppedWrites → OneReply → (w : World) (m : Move w) → IsClientLawful w → IsOwned w → AreTidy w → AreBooked w → AreTold w → AreTold (moved w m)
told_moved g h r w (begins run payload reader none good long) lawful owned tidy booked t =
    begun_told w _ _ (started_good run payload good long) refl refl refl (no_run_idle w none owned) t
told_moved g h r w (connects c there ready) lawful owned tidy booked t = connected_told w c tidy booked (lawful c there) there ready t
told_moved g h r w (asks a) lawful owned tidy booked t = asked_told w a tidy (lawful a.c a.there) t
told_moved g h r w (fails k n c reader there stage own) lawful owned tidy booked t = left_told w _ k refl refl refl refl t
told_moved g h r w (reaches k n s l reached live at grows) lawful owned tidy booked t = reached_told w k n s l reached live at grows t
told_moved g h r w (serves v) lawful owned tidy booked t = served_told g h w v t
told_moved g h r w (ends k) lawful owned tidy booked t = ended_told w k t
told_moved g h r w restarts lawful owned tidy booked t = restarted_told w tidy t
told_moved g h r w (cuts k) lawful owned tidy booked t = cut_told w k t
told_moved g h r w (talks k l a at none) lawful owned tidy booked t = grind (arith, changed_told)
told_moved g h r w (hears a on) lawful owned tidy booked t = hears_told r w a on owned t
told_moved g h r w (hears_last a failure over) lawful owned tidy booked t = left_told w _ a.k refl refl refl refl t
told_moved g h r w (sees a failure) lawful owned tidy booked t = left_told w _ a.k refl refl refl refl t
told_moved g h r w (forgets x none) lawful owned tidy booked t = same_told w _ refl refl refl (λ k mine. (let clash = sym none ∙ mine in absurd cc)) t
told_moved g h r w (gives_up x k own) lawful owned tidy booked t = left_told w _ k refl refl refl refl t
told_moved g h r w (answers c answer reader there stage) lawful owned tidy booked t =
    same_told w _ refl refl refl (λ k own. absurd (grind arith)) t
told_moved g h r w joins lawful owned tidy booked t =
    joined_told w _ None tidy.paired refl refl refl (λ j within own. (own, refl)) (strangers _ _ _ (new_connection None) refl) t
told_moved g h r w m lawful owned tidy booked t = same_told w _ refl refl refl (λ k own. (own, refl)) t

pub first_single : (drives : List PlainDriveSpec) → AreSingle (first_world drives)
first_single drives k l d at dump = absurd (no_number k l at)

pub first_labelled : (drives : List PlainDriveSpec) → AreLabelled (first_world drives)
first_labelled drives k l d at dump = absurd (no_number k l at)

pub first_earned : (drives : List PlainDriveSpec) → EachCountHasAttempt (first_world drives)
first_earned drives x among = grind arith

pub single_moved : OneReading → DroppedWrites → (w : World) (m : Move w) → AreHeld w.server → AreTold w → AreOpened w → AreSingle w → AreSingle (moved w m)
single_moved g h w (serves v) held told opened single = served_single g h w v told opened single
single_moved g h w m held told opened single = quiet_single w _ (quiet_moved w m tt held) opened single

-- each count stays that of an attempt
pub earned_moved : OneReading → DroppedWrites → OneReply → (w : World) (m : Move w) → AreHeld w.server → IsOwned w → AreTold w → AreSingle w → EachCountHasAttempt w
    → EachCountHasAttempt (moved w m)
earned_moved g h r w (serves v) held owned told single earned = served_earned g h w v told earned
earned_moved g h r w (hears t on) held owned told single earned = listens_earned r w _ t refl (quiet_moved w (hears t on) tt held) owned told single earned
earned_moved g h r w (hears_last t failure over) held owned told single earned =
    listens_earned r w _ t refl (quiet_moved w (hears_last t failure over) tt held) owned told single earned
earned_moved g h r w m held owned told single earned = same_earned w _ (quiet_moved w m tt held) refl earned

-- what each attempt wrote stands on its reel
pub labelled_moved : OneReading → DroppedWrites → (w : World) (m : Move w) → AreHeld w.server → AreHeld (moved w m).server → AreLaid (moved w m).server
    → EachReelOnce (moved w m).server.library → AreTold w → AreOpened w → AreSingle w → AreLabelled w → AreLabelled (moved w m)
labelled_moved g h w (serves v) held held_after laid_after once_after told opened single labelled =
    served_labelled g h w v held held_after laid_after once_after told opened single labelled
labelled_moved g h w m held held_after laid_after once_after told opened single labelled = quiet_labelled w _ (quiet_moved w m tt held) labelled
