-- What one request makes of the reels, and of the reel that its session may write on.
use Rattle.world_model.proofs.Basics.{◌≡◌, ℕ, ◌<◌, Bool, true, false, List, length, Option, Some, None, Ok, Err, MatchOption, refl, sym, ap, ◌∙◌, arith}
use Rattle.world_model.proofs.Terms.{PlainRequest, Op, PlainReply, entries_of, Trouble, KeptReel, after_latch, after_offline, waiting_reel, Access, access_of, refused, PlainReel, PlainSession, SessionView, status_of, refusal, closed, closed_library, is_offline, Idle, Offline, Online, drive_in, with_holder, holder_of, TroubledServeStep, TroubledOpenStep, TroubledMoveStep, TroubledOpStep, TroubledDoneStep, written_reel, opened_reel}
use Rattle.rmt_wire.specs.Request.PlainRequest.{Open}

-- the drive that is open with its reel, and for what
abbrev pub use_of : PlainSession → Option (ℕ × Access)
use_of Idle = None
use_of (Offline drive access) = None
use_of (Online drive access reel) = Some (drive, access)

-- What one request makes of the reels, where these held the drives before it, and it opened this reel for writing, if any: all stay as
-- they are; or the reel that was open is laid back; or then the first reel of a free drive is latched; or the open reel is moved to
-- the bin.
pub data Comes (holders : List ℕ) (before after : SessionView) (opened : Option (List ℕ)) : Type 0 where
  stays : after.library ≡ before.library → use_of after.session ≡ use_of before.session → drive_in after.session ≡ drive_in before.session → opened ≡ None
      → Comes holders before after opened
  closes : after.library ≡ closed_library before.library before.session → after.session ≡ Idle → opened ≡ None → Comes holders before after opened
  opens : (drive : ℕ) (access : Access) (reel : PlainReel) (first : KeptReel) → drive < length (closed_library before.library before.session).drives
      → waiting_reel (closed_library before.library before.session) drive ≡ Some first → holder_of (with_holder (drive_in before.session) 0 holders) (Some drive) ≡ 0
      → after.library ≡ after_latch (closed_library before.library before.session) drive → after.session ≡ Online drive access reel
      → opened ≡ written_reel after.library after.session → Comes holders before after opened
  moves : (drive : ℕ) (access : Access) (reel : PlainReel) → before.session ≡ Online drive access reel
      → after.library ≡ after_offline before.library drive (entries_of reel.tape) reel.capacity → after.session ≡ Offline drive access
      → opened ≡ None → Comes holders before after opened

move_comes : (holders : List ℕ) (trouble : Trouble) (before : SessionView) (count : ℕ) (reply : PlainReply) (after : SessionView) (opened : Option (List ℕ)) → opened ≡ None
    → TroubledMoveStep trouble before count reply after → Comes holders before after opened
move_comes holders trouble before count reply after opened none (drive, access, reel, Ok done, online, cause, replies, is) =
    moves drive access reel online (ap (λ (v : SessionView). v.library) is) (ap (λ (v : SessionView). v.session) is) none
move_comes holders trouble before count reply after opened none (drive, access, reel, Err why, online, cause, replies, (excused, stay, is)) =
    stays stay.0 (ap use_of is ∙ sym (ap use_of online)) (ap drive_in is ∙ sym (ap drive_in online)) none

op_comes : (holders : List ℕ) (offline : Bool) (trouble : Trouble) (before : SessionView) (op count : ℕ) (reply : PlainReply) (after : SessionView) (opened : Option (List ℕ)) → opened ≡ None
    → TroubledOpStep offline trouble before op count reply after → Comes holders before after opened
op_comes holders true trouble before op count reply after opened none step = move_comes holders trouble before count reply after opened none step
op_comes holders false trouble before op count reply after opened none step = grind arith

done_comes : (holders : List ℕ) (trouble : Trouble) (before : SessionView) (request : PlainRequest) (reply : PlainReply) (after : SessionView) (opened : Option (List ℕ)) → opened ≡ None
    → TroubledDoneStep trouble before request reply after → Comes holders before after opened
done_comes holders trouble before (Op op count) reply after opened none step = op_comes holders (is_offline op) trouble before op count reply after opened none step
done_comes holders trouble before request reply after opened none step = grind arith

-- a request that is refused, or done
refused_comes : {R : Type 0} (o : Option R) (A : Type 0) (B : R → Type 0) (holders : List ℕ) (before after : SessionView) (opened : Option (List ℕ)) → (A → Comes holders before after opened)
    → ((r : R) → B r → Comes holders before after opened) → MatchOption o A B → Comes holders before after opened
refused_comes None A B holders before after opened none some step = none step
refused_comes (Some r) A B holders before after opened none some step = some r step

same_comes : (holders : List ℕ) (before after : SessionView) (opened : Option (List ℕ)) → opened ≡ None → after ≡ before → Comes holders before after opened
same_comes holders before after opened none is = stays (ap (λ (v : SessionView). v.library) is) (ap (λ (v : SessionView). use_of v.session) is) (ap (λ (v : SessionView). drive_in v.session) is) none

-- what an open makes of them
opens_comes : (trouble : Trouble) (holders : List ℕ) (before : SessionView) (device : List ℕ) (access : Option Access) (reply : PlainReply) (after : SessionView)
    → TroubledOpenStep trouble (with_holder (drive_in before.session) 0 holders) (closed before) device access reply after → Comes holders before after (written_reel after.library after.session)
opens_comes trouble holders before device (Some access) reply after (Ok opened, asked, (found, named, latch), cause, replies, is) =
    opens opened.0 access opened.1 latch.0 named.0 latch.1 (ap (holder_of (with_holder (drive_in before.session) 0 holders)) (sym found) ∙ cause.0) latch.2 is refl
opens_comes trouble holders before device access reply after given = grind arith

-- a request that is no open
other_comes : (holders : List ℕ) (trouble : Trouble) (before : SessionView) (request : PlainRequest) (reply : PlainReply) (after : SessionView) (opened : Option (List ℕ)) → opened ≡ None
    → MatchOption (refusal (status_of before.session) request) (TroubledDoneStep trouble before request reply after) (λ r. (reply ≡ refused r) × (after ≡ before))
    → Comes holders before after opened
other_comes holders trouble before request reply after opened none step =
    refused_comes (refusal (status_of before.session) request) _ _ holders before after opened (done_comes holders trouble before request reply after opened none)
    (λ r it. same_comes holders before after opened none it.1) step

pub step_comes : (trouble : Trouble) (holders : List ℕ) (before : SessionView) (request : PlainRequest) (reply : PlainReply) (after : SessionView)
    → TroubledServeStep trouble holders before request reply after → Comes holders before after (opened_reel request after.library after.session)
step_comes trouble holders before (Open device mode) reply after step = opens_comes trouble holders before device (access_of mode) reply after step
step_comes trouble holders before request reply after step = other_comes holders trouble before request reply after None refl step
