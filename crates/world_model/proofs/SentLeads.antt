-- Where the reply to each request of an attempt leads the client on, all was done before the step that it leads to.
use Rattle.world_model.proofs.Basics.{◌≡◌, ℕ, zero, suc, ◌+◌, ◌^◌, ◌<◌, ◌==◌, Bool, true, false, if◌then◌else◌, nat_lt, List, length, Option, Some, refl, sym, ap, ◌∙◌, arith, nat_tests}
use Rattle.world_model.proofs.Terms.{raised, Write, Op, PlainReply, Done, MTWEOF, ServerConnection, PlainReel, PlainRun, IsRun, after_reply, after_step, after_write, at_end_of_reel, wanted_outcome, Standing, standing, Becomes, steps_before, Step, Open, Operation, Label, Block, Close, Mark, Unload, ToSend, Asking, Progress, VolumeCount, AttemptState, noted, accepted, HasDone, IsSessionBefore, GoesTo, IsOnlineWith}
use Rattle.world_model.proofs.SentWire.{steps_len, one_if, before_length, raised_one}

-- a client that goes on to a step is at no other, and in no other stage
arrives : (run : PlainRun) (counts : List VolumeCount) (new : Standing) (step next : Step) → new ≡ standing run counts (ToSend step) → new.stage ≡ ToSend next
    → step ≡ next
arrives run counts new step next is at = let same : ToSend step ≡ ToSend next = sym (ap (λ (s : Standing). s.stage) is) ∙ at in cc

not_asking : (run : PlainRun) (counts : List VolumeCount) (new : Standing) (next : Step) → new ≡ standing run counts Asking → new.stage ≡ ToSend next → ⊥
not_asking run counts new next is at = let clash : Asking ≡ ToSend next = sym (ap (λ (s : Standing). s.stage) is) ∙ at in cc

-- one request more was carried out
one_further : (carried : ℕ) (run : PlainRun) (first a b : ℕ) (step next : Step) → carried + 1 < 2 ^ 64 → carried ≡ length (steps_before run first a step)
    → steps_len run first b next ≡ steps_len run first a step + 1 → raised carried ≡ length (steps_before run first b next)
one_further carried run first a b step next few was more = grind (arith, before_length)

-- Where the client goes on, by what the reply makes of it.
abbrev pub LeadsBy : Option ServerConnection → Standing → AttemptState → (Progress → Standing → Type 0) → Type 0
LeadsBy o old noted Becoming = (progress : Progress) (new : Standing) (next : Step) → Becoming progress new → new.stage ≡ ToSend next → GoesTo old.run o old noted new next

-- and once it hears this
abbrev pub LeadsFrom : Option ServerConnection → Standing → AttemptState → AttemptState → Step → PlainReply → Type 0
LeadsFrom o old d noted step reply = LeadsBy o old noted (Becomes old (after_reply old.run old.counts d.first step reply) false)

-- the numbers with a request more
abbrev pub on_by_one : AttemptState → AttemptState
on_by_one d = record d { carried = raised d.carried }

pub label_accepted : (d : AttemptState) → d.label ≡ false → accepted d ≡ record d { label = true }
label_accepted d is = ap (λ b. if b then record d { blocks = raised d.blocks } else record d { label = true }) is

pub block_accepted : (d : AttemptState) → d.label ≡ true → accepted d ≡ record d { blocks = raised d.blocks }
block_accepted d is = ap (λ b. if b then record d { blocks = raised d.blocks } else record d { label = true }) is

module _ (old : Standing) (s x : ServerConnection) (d : AttemptState) where
  pub label_leads : (bytes : List ℕ) (reply : PlainReply) → HasDone old.run (Some s) d Label → d.carried + 1 < 2 ^ 64 → ((reel : PlainReel) × IsOnlineWith x.session reel)
      → LeadsFrom (Some x) old d (noted (Write bytes) reply d) Label reply
  label_leads bytes (Done (suc m)) h few stands = λ progress new next becomes at. grind arith
  label_leads bytes reply h few stands = λ progress new next becomes at. absurd (grind (arith, not_asking))

  -- there is no room for a block, after one that was written
  end_tested : (number : ℕ) (t : Bool) → HasDone old.run (Some s) d (Block number) → d.carried + 1 < 2 ^ 64 → ((reel : PlainReel) × IsOnlineWith x.session reel)
      → LeadsBy (Some x) old (on_by_one d) (Becomes old (if t then wanted_outcome (Operation (Mark number)) Open else at_end_of_reel d.first Open) false)
  end_tested number t h few stands progress new next becomes at =
      let less : nat_lt number old.run.blocks ≡ true = (let below = h.blocks.1 in grind arith) in
      let more = one_further d.carried old.run d.first (d.first + d.blocks) (d.first + d.blocks) (Block number) (Operation (Mark number)) few h.carried (omega (arith, ap one_if less)) in
      grind (arith, not_asking)

  block_tested : (number m : ℕ) (b c : Bool) → (suc m == 0) ≡ c → IsRun old.run → HasDone old.run (Some s) d (Block number) → d.carried + 1 < 2 ^ 64
      → ((reel : PlainReel) × IsOnlineWith x.session reel) → LeadsBy (Some x) old (on_by_one (accepted d))
      (Becomes old (if b then after_step old.run d.first (Block number) else if c then at_end_of_reel d.first (Block number) else after_write old.run d.first Label 5 3) false)
  block_tested number m true c test good h few stands progress new next (moved, is) at =
      let within = h.within in
      let block = raised_one d.blocks (omega (arith, within, good.blocks)) in
      let size = before_length old.run d.first (d.first + d.blocks) (Block number) in
      let done : HasDone old.run (Some x) (on_by_one (record d { blocks = raised d.blocks })) (if nat_lt (number + 1) old.run.blocks then Block (number + 1) else Operation (Mark (number + 1)))
      = grind (arith, before_length, raised_one) in
      grind (arith, arrives)
  block_tested number m b c test good h few stands progress new next becomes at = grind (arith, nat_tests, not_asking)

  pub block_leads : (number : ℕ) (bytes : List ℕ) (reply : PlainReply) → IsRun old.run → HasDone old.run (Some s) d (Block number) → d.carried + 1 < 2 ^ 64
      → ((reel : PlainReel) × IsOnlineWith x.session reel) → LeadsFrom (Some x) old d (noted (Write bytes) reply d) (Block number) reply
  block_leads number bytes (Done zero) good h few stands = λ progress new next becomes at.
      let size = good.block_bytes.0 in grind (arith, nat_tests, end_tested number (nat_lt d.first number) h few stands progress new next)
  block_leads number bytes (Done (suc m)) good h few stands = block_tested number m (suc m == old.run.block_bytes) (suc m == 0) refl good h few stands
  block_leads number bytes reply good h few stands = λ progress new next becomes at.
      grind (arith, not_asking, end_tested number (nat_lt d.first number) h few stands progress new next)

  pub mark_leads : (end : ℕ) (reply : PlainReply) → HasDone old.run (Some s) d (Operation (Mark end)) → d.carried + 1 < 2 ^ 64 → ((reel : PlainReel) × IsOnlineWith x.session reel)
      → LeadsFrom (Some x) old d (noted (Op MTWEOF 1) reply d) (Operation (Mark end)) reply
  mark_leads end reply h few stands progress new next becomes at =
      let more = one_further d.carried old.run d.first (d.first + d.blocks) (d.first + d.blocks) (Operation (Mark end)) (Operation (Unload end)) few h.carried (omega arith) in
      grind (arith, not_asking)

  pub unload_leads : (end : ℕ) (reply : PlainReply) → HasDone old.run (Some s) d (Operation (Unload end)) → d.carried + 1 < 2 ^ 64
      → ((n : ℕ) → reply ≡ Done n → IsSessionBefore Close x.session) → LeadsFrom (Some x) old d (on_by_one d) (Operation (Unload end)) reply
  unload_leads end reply h few stands progress new next becomes at =
      let here = h.blocks in
      let same = ap (λ n. one_if (nat_lt n old.run.blocks)) h.blocks in
      let more = one_further d.carried old.run d.first (d.first + d.blocks) (d.first + d.blocks) (Operation (Unload end)) Close few h.carried (omega (arith, same, here)) in
      grind (arith, not_asking)
