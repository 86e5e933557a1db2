-- What a run that is begun, and an attempt that starts, leave of a world.
use Rattle.tape_world.proofs.Layers.{common_steps, ◌≡◌, false, List, [], ◌∷◌, ◌++◌, length, Option, Some, None, ◌+◌, ℕ, arith, Result, Ok, Err, PlainRun, cut_blocks, listed, standing, checkpoint_of, StartedAt, HasFedAt, Open, ToSend, AttemptState, fresh, RealBegun, RealCaller, seen_begun, seen_caller, IsBegunWith, IsSameRun, IsReady, Starts, IsSourced, EventStop, is_err, reply_held, numbered_last}
use Rattle.dump_client.specs.declared.fault.StartFault.{StartFault}
use Rattle.world_host.specs.Attempt.{new_dumping}
use Rattle.tape_world.proofs.Clients.{sourced_same}

pub begun_is : (run : PlainRun) (payload : List ℕ) (b : RealBegun) → IsBegunWith run payload b
    → seen_begun b ≡ record { run = run; payload = cut_blocks run.blocks run.block_bytes payload }
begun_is run payload b is = grind arith

-- the payload of the new client is that of its run
pub begun_sourced : (begun xs : List RealBegun) (b : RealBegun) (c : RealCaller) (run : PlainRun) (payload : List ℕ) → begun ≡ xs ++ b ∷ []
    → c.number ≡ length xs + 1 → IsBegunWith run payload b → c.client.source ≡ listed (cut_blocks run.blocks run.block_bytes payload) false 0
    → IsSourced begun (Some c)
begun_sourced begun xs b c run payload is number parts given d at =
    (b, 0, grind (arith, numbered_last xs b), grind arith)

pub starts : (o : Option RealCaller) (c d : RealCaller) (r : Result Unit StartFault) (dump : AttemptState) → o ≡ Some c → IsReady o → IsSameRun c d
    → StartedAt c.client.at.stage c.client.at c.client.room r d.client.at → is_err r ≡ false
    → ((bytes : List ℕ) → HasFedAt c.client.at.stage c.client.reader bytes → HasFedAt d.client.at.stage d.client.reader bytes)
    → dump ≡ new_dumping c.number (checkpoint_of c.client.at.counts).0 (checkpoint_of c.client.at.counts).1 → Starts o (Ok dump) (Some d)
starts o c d r dump is ready same started fine fed new = grind (arith, common_steps, fed [])

-- a client that started an attempt
pub record IsStarted (o : Option RealCaller) (dump : AttemptState) (new : Option RealCaller) : Type 0 where
  pub before : RealCaller
  pub after : RealCaller
  pub was : o ≡ Some before
  pub is : new ≡ Some after
  pub same : IsSameRun before after
  pub at : after.client.at ≡ standing before.client.at.run before.client.at.counts (ToSend Open)
  pub reader : after.client.reader ≡ reply_held None []
  pub fresh : dump ≡ fresh (seen_caller before)

pub started : (o new : Option RealCaller) (dump : AttemptState) → Starts o (Ok dump) new → IsStarted o dump new
started o new dump starts = grind (arith, common_steps, starts)

-- a client that started no attempt reads the payload of its run as before
pub unstarted_sourced : (begun : List RealBegun) (o new : Option RealCaller) (stop : EventStop) → Starts o (Err stop) new → IsSourced begun o
    → IsSourced begun new
unstarted_sourced begun o new stop starts s = grind (arith, common_steps, sourced_same)
