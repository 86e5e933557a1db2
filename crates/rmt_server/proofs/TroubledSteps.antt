-- A request that is served where it is told how the device call fails is a serve step, and an open or MTOFFL never runs out of memory.
use Rattle.std.proofs.Common.{◌≢◌, ℕ, true, List, Option, Some, None, Result, refl, arith}
use Rattle.std.proofs.lemmas.Bool.Decides.{nat_tests}
use Rattle.rmt_server.proofs.Names.{PlainRequest, Open, PlainReply, Tape, TapeRequest, TapeAnswer, TapeStep, DeviceStep, Trouble, DriveFault, is_set}
use Rattle.rmt_server.proofs.Names.{found_in_open, Access, NoMemory, access_of, refused, PlainReel, SessionView, tape_request, closed, IsExcused}
use Rattle.rmt_server.proofs.Names.{ReelStep, IsOpenExcused, OpensAs, DoneStep, holder_of, IsOpenCause, TroubledReelStep, TroubledOpenStep}
use Rattle.rmt_server.proofs.Names.{TroubledDoneStep, TroubledServeStep, ServeStep}
use Rattle.rmt_server.specs.Laws.{NoMemoryIsWanted}

-- a call of a device that is told how it fails is a step of its tape, as `tape::device_steps` says
abbrev pub DeviceLaw : Type 0
DeviceLaw =
    (capacity : ℕ) (trouble : Trouble) (t : Tape) (request : TapeRequest) (answer : TapeAnswer) (u : Tape)
    → DeviceStep capacity trouble t request answer u → TapeStep capacity t request answer u

-- a reel's device is at fault only where a trouble is set
call_excused : (capacity : ℕ) (trouble : Trouble) (t : Tape) (request : TapeRequest) (answer : TapeAnswer) (u : Tape)
    → DeviceStep capacity trouble t request answer u → IsExcused (is_set trouble) true answer
call_excused capacity trouble t request answer u h = grind arith

-- and the stacks' device too
open_excused : (trouble : Trouble) (n : ℕ) (result : Result (ℕ × PlainReel) DriveFault) → IsOpenCause trouble n result
    → IsOpenExcused (is_set trouble) result
open_excused trouble n result q = grind arith

module _ (trouble : Trouble) (before : SessionView) (reply : PlainReply) (after : SessionView) where
  reel_step : DeviceLaw → (request : PlainRequest) → TroubledReelStep trouble before request reply after
      → ReelStep (is_set trouble) true before request reply after
  reel_step law request (drive, access, reel, answer, t, s, h, e, a) = (
    drive,
    access,
    reel,
    answer,
    t,
    s,
    law reel.capacity trouble reel.tape (tape_request request) answer t h,
    call_excused reel.capacity trouble reel.tape (tape_request request) answer t h,
    e,
    a,
  )

  open_step : (holders : List ℕ) (device : List ℕ) (access : Option Access) → TroubledOpenStep trouble holders before device access reply after
      → (asked : Option ℕ) × (found : ℕ) × OpensAs (is_set trouble) asked found before device access reply after
  open_step holders device None h = (None, 0, h)
  open_step holders device (Some access) (result, asked, h, q, e, s) =
      (asked, found_in_open result, (result, h, refl, open_excused trouble (holder_of holders asked) result q, e, s))

  done_step : DeviceLaw → (request : PlainRequest) → TroubledDoneStep trouble before request reply after
      → DoneStep (is_set trouble) true before request reply after
  done_step law request h = grind (arith, reel_step law request)

  -- an open never answers that memory ran out
  opens_other : (holders : List ℕ) (device : List ℕ) (access : Option Access) → TroubledOpenStep trouble holders before device access reply after
      → reply ≢ refused NoMemory
  opens_other holders device access h = grind (arith, nat_tests)

pub serve_step : (law : DeviceLaw) (trouble : Trouble) (holders : List ℕ) (before : SessionView) (request : PlainRequest) (reply : PlainReply)
    (after : SessionView) → TroubledServeStep trouble holders before request reply after
    → (asked : Option ℕ) × (found : ℕ) × ServeStep (is_set trouble) true asked found before request reply after
serve_step law trouble holders before (Open device mode) reply after h = open_step trouble (closed before) reply after _ device (access_of mode) h
serve_step law trouble holders before request reply after h = (None, 0, grind (arith, done_step trouble before reply after law request))

-- and neither does MTOFFL, nor the check before it
pub none_wanted : NoMemoryIsWanted
none_wanted trouble holders holders' k before after (Open device mode) reply h asked =
    opens_other trouble (closed before) reply after _ device (access_of mode) h.step
none_wanted trouble holders holders' k before after request reply h asked = grind (arith, nat_tests, h.step)
