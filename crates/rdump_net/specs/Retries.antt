-- Whether a dump without an operator tries again. Public contracts cite it.
use Rattle.std.specs.Prelude.{◌≡◌, ℕ, zero, suc, Bool, true, false, ◌||◌, nat_eq}
use Rattle.dump_client.specs.declared.fault.AttemptFault.{AttemptFault}
use Rattle.dump_client.specs.declared.fault.AttemptFault.TheVariants as attempts
use Rattle.remote_tape.specs.declared.fault.CallFault.{CallFault}
use Rattle.remote_tape.specs.declared.fault.CallFault.TheVariants as calls
use Rattle.remote_tape.specs.declared.fault.TapeCause.{TapeCause}
use Rattle.remote_tape.specs.declared.fault.TapeCause.TheVariants as causes
use Rattle.rdump_net.specs.declared.retries.Setback.{Setback}
use Rattle.rdump_net.specs.declared.retries.Setback.TheVariants.{Attempt, Protected, Look}
use Rattle.rmt_wire.specs.declared.errno.TheConstants.{ENOENT, EBADF, EACCES, EINVAL}

-- how often a dump tries again after setbacks in a row, and how many of these tries are left
pub record TriesLeft : Type 0 where
  pub times : ℕ
  pub left : ℕ

-- an error of a server that stays: the device is not there, not open or not to be written, or the
-- request is wrong
abbrev pub is_lasting : ℕ → Bool
is_lasting number = nat_eq number ENOENT || (nat_eq number EBADF || (nat_eq number EACCES || nat_eq number EINVAL))

-- the fault of an attempt stays, however long one waits
abbrev pub is_hopeless_attempt : AttemptFault → Bool
is_hopeless_attempt (attempts.Refused number) = is_lasting number
is_hopeless_attempt attempts.Botched = true
is_hopeless_attempt attempts.ConnectionEnded = false
is_hopeless_attempt attempts.ShortWrite = true
is_hopeless_attempt attempts.ReelTooSmall = true
is_hopeless_attempt attempts.SourceFault = true
is_hopeless_attempt attempts.OutOfMemory = false
is_hopeless_attempt (attempts.CountedReel volume) = true

-- the cause for which a look at a reel failed stays, however long one waits
abbrev pub is_hopeless_look : TapeCause → Bool
is_hopeless_look (causes.Refused number) = is_lasting number
is_hopeless_look (causes.NoReply calls.Botched) = true
is_hopeless_look (causes.NoReply fault) = false

-- the setback stays, however long one waits
abbrev pub is_hopeless : Setback → Bool
is_hopeless (Attempt fault) = is_hopeless_attempt fault
is_hopeless Protected = true
is_hopeless (Look fault) = is_hopeless_look fault.cause

-- whether there is another try for a setback, by whether it stays and how many tries are left
abbrev pub tries_again : Bool → ℕ → Bool
tries_again true left = false
tries_again false zero = false
tries_again false (suc left) = true

-- the tries left after a setback: one fewer if there is another try
abbrev pub left_after : Bool → ℕ → ℕ
left_after true left = left
left_after false zero = zero
left_after false (suc left) = left
