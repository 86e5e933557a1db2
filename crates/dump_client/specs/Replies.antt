-- The outcome of a list of replies, which are those that a script wants. A count is the record of a
-- volume that was written whole: its number, its first block and its number of blocks. Public
-- contracts cite it.
use Rattle.std.specs.Prelude.{◌≡◌, ◌⊎◌, ℕ, ◌+◌, ◌-◌, ◌<◌, ◌≤◌, List, [], ◌∷◌, ◌++◌, length, map}
use Rattle.rmt_wire.specs.Reply.{PlainReply}
use Rattle.dump_run.specs.Run.{PlainRun}
use Rattle.dump_run.specs.declared.count.VolumeCount.{VolumeCount}
use Rattle.dump_client.specs.Script.{Wish, Grants, IsCount, steps_of}
use Rattle.dump_client.specs.Position.{after_reply}
use Rattle.dump_client.specs.Lawful.{steps_before}
use Rattle.dump_client.specs.declared.step.Step.{Step}
use Rattle.dump_client.specs.declared.step.Step.TheVariants.{Open, Operation, Close}
use Rattle.dump_client.specs.declared.step.TapeOp.TheVariants.{Mark, Unload}
use Rattle.dump_client.specs.declared.outcome.Outcome.{Outcome}
use Rattle.dump_client.specs.declared.outcome.Outcome.TheVariants.{GoesOn, Counted}

-- The outcome of replies, in an attempt that begins with these counts. Each is the reply to the
-- step that those before it led to; after the count, to the close.
abbrev pub led_on : PlainRun → List VolumeCount → ℕ → Outcome → List PlainReply → Outcome
led_on run had first from [] = from
led_on run had first (GoesOn step) (reply ∷ replies) = led_on run had first (after_reply run had first step reply) replies
led_on run had first (Counted next) (reply ∷ replies) = led_on run had first (after_reply run had first Close reply) replies
led_on run had first from (reply ∷ replies) = from

-- the outcome of these replies, of which the first is the reply to `step`
abbrev pub led_by : PlainRun → List VolumeCount → ℕ → Step → List PlainReply → Outcome
led_by run had first step replies = led_on run had first (GoesOn step) replies

-- the replies are those that are wanted, from the first on
abbrev pub AreGranted : PlainRun → List VolumeCount → List Wish → List PlainReply → Type 0
AreGranted run had wishes [] = Unit {0}
AreGranted run had [] (reply ∷ replies) = ⊥
AreGranted run had (wish ∷ wishes) (reply ∷ replies) = Grants run had wish reply × AreGranted run had wishes replies

-- The volume has `count` blocks. This is known from its mark on. At the close, `next` is the first
-- block after the volume.
abbrev pub EndsAt : ℕ → ℕ → Step → ℕ → Type 0
EndsAt first next (Operation (Mark end)) count = end ≡ first + count
EndsAt first next (Operation (Unload end)) count = end ≡ first + count
EndsAt first next Close count = next ≡ first + count
EndsAt first next step count = Unit {0}

-- The replies are the first ones that the script of a volume of `count` blocks wants, one to each
-- step before this one. This step is the script's next.
pub record Granted (run : PlainRun) (had : List VolumeCount) (first next count : ℕ) (step : Step) (replies : List PlainReply) : Type 0 where
  pub counts : IsCount run first count
  pub ends : EndsAt first next step count
  pub granted : AreGranted run had (map (λ s. s.1) (steps_of run first count)) replies
  pub answered : length replies ≡ length (steps_before run first next step)
  pub rest : List Step
  pub goes_on : map (λ s. s.0) (steps_of run first count) ≡ steps_before run first next step ++ step ∷ rest

-- If a volume may begin at this block, and these replies lead from the open to this step, a script
-- wants these replies.
abbrev pub GrantedOnTheWay : PlainRun → List VolumeCount → ℕ → Step → List PlainReply → Type 0
GrantedOnTheWay run had first step replies =
    first ≤ run.blocks → (first < run.blocks) ⊎ (run.blocks ≡ 0) → led_by run had first Open replies ≡ GoesOn step
    → (count : ℕ) × Granted run had first first count step replies

-- If a volume may begin at this block, and these replies lead from the open to the count of the
-- blocks up to `next`, the script of that volume wants these replies.
abbrev pub GrantedAtTheCount : PlainRun → List VolumeCount → ℕ → ℕ → List PlainReply → Type 0
GrantedAtTheCount run had first next replies =
    first ≤ run.blocks → (first < run.blocks) ⊎ (run.blocks ≡ 0) → led_by run had first Open replies ≡ Counted next
    → Granted run had first next (next - first) Close replies
