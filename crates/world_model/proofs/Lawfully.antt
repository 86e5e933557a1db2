-- The client stays lawful, whatever happens.
-- How the counts of the history grow at an event.
use Rattle.world_model.proofs.Basics.{◌≡◌, ℕ, List, take, Some, refl, subst, inl, same_Some, arith}
use Rattle.world_model.proofs.Terms.{PlainRun, IsRun, AreVolumes, VolumeCount, IsLawful, StageFits, Standing, standing, FedAt, CutAt, IsOver, stage_after, Answer, Progress, Stage, Ready, ToSend, Waiting, Asking, Open, Block, World, WorldClient, AreBooked, IsClientLawful, PlainEvent, CountsGrow, Happens}
use Rattle.world_model.proofs.Ground.{Move, begins, connects, asks, fails, hears, hears_last, sees, Back, gone, comes, back_caller, forgets, gives_up, answers, moved, Goings, drop_front}

-- what calls of a client leave of one that is lawful
abbrev pub Lawfully : Type 0
Lawfully =
    ((old new : Standing) (bytes piece : List ℕ) (progress : Progress) → IsLawful old → FedAt old.stage old bytes piece progress new → IsLawful new)
    × ((old new : Standing) (progress : Progress) → IsLawful old → CutAt old.stage old progress new → IsLawful new)
    × ((run : PlainRun) (counts : List VolumeCount) (at : Standing) → IsRun run → AreVolumes run 1 0 counts → IsOver run counts at → IsLawful at)

-- the client is this one
is_lawful : (c : WorldClient) → IsLawful c.at → (d : WorldClient) → Some c ≡ Some d → IsLawful d.at
is_lawful c l d at = subst (λ (x : WorldClient). IsLawful x.at) (same_Some c d at) l

-- a client at another stage of its run
at_stage : (s : Standing) (stage : Stage) → IsLawful s → StageFits s.run s.counts stage → IsLawful (standing s.run s.counts stage)
at_stage s stage l fits = record { run = l.run; counts = l.counts; stage = fits }

fits_at : (s : Standing) (stage : Stage) → IsLawful s → s.stage ≡ stage → StageFits s.run s.counts stage
fits_at s stage l is = subst (StageFits s.run s.counts) is l.stage

answer_fits : (s : Standing) (answer : Answer) → StageFits s.run s.counts Asking → StageFits s.run s.counts (stage_after answer)
answer_fits s answer fits = grind arith

-- a client that comes back with what is kept
back_lawful : ((run : PlainRun) (counts : List VolumeCount) (at : Standing) → IsRun run → AreVolumes run 1 0 counts → IsOver run counts at → IsLawful at)
    → (w : World) (x : Back w) → AreBooked w → (c : WorldClient) → back_caller w x ≡ Some c → IsLawful c.at
back_lawful g w (gone none) booked c is = absurd cc
back_lawful g w (comes z b at reader kept begun over) booked c is =
    let q = booked.kept z kept in
    grind arith

pub lawful_moved : Lawfully → (w : World) (m : Move w) → AreBooked w → IsClientLawful w → IsClientLawful (moved w m)
lawful_moved g w (begins run payload reader none good long) booked l = is_lawful _ (record { run = good; counts = tt; stage = inl refl })
lawful_moved g w (connects c there ready) booked l = is_lawful _ (at_stage c.at (ToSend Open) (l c there) (fits_at c.at Ready (l c there) ready))
lawful_moved g w (asks t) booked l = is_lawful _ (at_stage t.c.at (Waiting t.step) (l t.c t.there) (fits_at t.c.at (ToSend t.step) (l t.c t.there) t.stage))
lawful_moved g w (fails k n c reader there stage own) booked l = is_lawful _ (at_stage c.at Asking (l c there) (fits_at c.at (ToSend (Block n)) (l c there) stage).0)
lawful_moved g w (hears t on) booked l = is_lawful _ (g.0 t.c.at t.at t.fed (take t.n t.l.back) t.progress (l t.c t.client) t.feeds)
lawful_moved g w (hears_last t failure over) booked l = is_lawful _ (g.0 t.c.at t.at t.fed (take t.n t.l.back) t.progress (l t.c t.client) t.feeds)
lawful_moved g w (sees t failure) booked l = is_lawful _ (g.1 t.c.at t.at t.progress (l t.c t.client) t.cuts)
lawful_moved g w (answers c answer reader there stage) booked l =
    is_lawful _ (at_stage c.at (stage_after answer) (l c there) (answer_fits c.at answer (fits_at c.at Asking (l c there) stage)))
lawful_moved g w (forgets x none) booked l = back_lawful g.2 w x booked
lawful_moved g w (gives_up x k own) booked l = back_lawful g.2 w x booked
lawful_moved g w m booked l = l

pub counts_grow : Goings → (w u : World) (event : PlainEvent) → Happens w event u → CountsGrow w event u
counts_grow g w u event given = grind (arith, drop_front)
