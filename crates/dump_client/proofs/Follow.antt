-- Each wanted reply leads to the next step of the script, and any other fails the attempt.
use Rattle.dump_client.proofs.Attempt.{◌≡◌, ℕ, zero, suc, ◌+◌, ◌<◌, ◌≤◌, Bool, true, false, if◌then◌else◌, nat_lt, List, [], ◌∷◌, ◌++◌, refl, arith, ◌⊎◌, nat_tests, AnswersTo, data_length, label_bytes, Grants, IsCount, block_steps, refused_step, last_steps, steps_of, wanted_of, RepliesFollow}
use Rattle.dump_client.proofs.Attempt.{after_reply, block_or_mark, IsWantedAt, CanBeHeard, IsFailure, PlainReply, PlainRun, IsRun, VolumeCount, Wish, Number, NoRoom, Step, Open, Operation, Look, Label, Block, Close, Rewind, RewindAgain, Mark, Unload, GoesOn}
use Rattle.dump_client.proofs.Outcomes.{does, full_marks}

module _ (run : PlainRun) (counts : List VolumeCount) (first : ℕ) where
  -- a step that leads to a block, or to the mark
  abbrev LeadsTo : Step → Wish → Step → Type 0
  LeadsTo s w next = (reply : PlainReply) → Grants run counts w reply → after_reply run counts first s reply ≡ GoesOn next

  tail_follows : (next : ℕ) → RepliesFollow run counts first (last_steps next)
  tail_follows next = (does run counts first (Operation (Mark next)), (does run counts first (Operation (Unload next)), does run counts first Close))

  -- after the last block that is written
  last_follows : (n : ℕ) (left : Bool) (s : Step) (w : Wish) → 0 < run.block_bytes → (left ≡ true → first < n)
      → LeadsTo s w (if left then Block n else Operation (Mark n))
      → RepliesFollow run counts first ((s, w) ∷ ((if left then (Block n, NoRoom) ∷ [] else []) ++ last_steps n))
  last_follows n true s w size more h = (h, (full_marks run counts first n size (more refl), tail_follows n))
  last_follows n false s w size more h = (h, tail_follows n)

  -- after a step that leads to block n, where so many blocks are written up to `end`
  blocks_follow : (n count end : ℕ) (s : Step) (w : Wish) → 0 < run.block_bytes → n + count ≡ end → end ≤ run.blocks
      → (nat_lt end run.blocks ≡ true → first < end) → LeadsTo s w (block_or_mark run n)
      → RepliesFollow run counts first ((s, w) ∷ (block_steps run n count ++ (refused_step run end ++ last_steps end)))
  blocks_follow n zero end s w size at within more h = last_follows end (nat_lt end run.blocks) s w size more (λ reply g. grind (arith, h reply g))
  blocks_follow n (suc count) end s w size at within more h = (
    λ reply g. grind (arith, nat_tests, h reply g),
    blocks_follow (suc n) count end (Block n) (Number run.block_bytes) size (omega arith) within more
        (λ reply g. grind (arith, does run counts first (Block n) reply g)),
  )

  pub script_follows : (count : ℕ) → IsRun run → IsCount run first count → RepliesFollow run counts first (steps_of run first count)
  script_follows count good h = assumption (
    does run counts first Open,
    does run counts first (Operation Rewind),
    does run counts first Look,
    does run counts first (Operation RewindAgain),
    blocks_follow first count (first + count) Label (Number label_bytes) (grind (arith, good.block_bytes)) refl h.0 (λ lt. grind (arith, nat_tests)) (does run counts first Label),
  )

pub other_replies : (run : PlainRun) (counts : List VolumeCount) (first : ℕ) (step : Step) (reply : PlainReply)
    → IsWantedAt run counts first step reply ⊎ IsFailure (after_reply run counts first step reply)
other_replies run counts first step reply = grind (arith, nat_tests)

-- a reply that is wanted is of the kind that is waited for
pub can_be_heard : (run : PlainRun) (counts : List VolumeCount) (first : ℕ) (step : Step) (reply : PlainReply) → CanBeHeard run counts first step reply
can_be_heard run counts first step reply = grind arith

pub brief : (step : Step) (reply : PlainReply) → AnswersTo reply (wanted_of step) → data_length reply ≤ label_bytes
brief step reply is = grind arith
