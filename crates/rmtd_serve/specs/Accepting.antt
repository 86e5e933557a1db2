-- The end of a listener's connections. Public contracts cite it.
use Rattle.std.specs.Prelude.{◌≡◌, ◌⊎◌, ℕ, ℤ, Bool, true, ◌||◌, ◌==◌, unsigned_abs, if◌then◌else◌, Option, Some, None, IsSomeAnd}
use Rattle.rmt_wire.specs.declared.errno.TheConstants.{EBADF, EINVAL}
use Rattle.rmtd_serve.specs.declared.connections.TheConstants.{EFAULT, ENOTSOCK, EOPNOTSUPP}

-- whether this is an error of accept(2) after which a listener can never accept again
abbrev pub is_lasting : ℕ → Bool
is_lasting code = code == EBADF || code == EFAULT || code == EINVAL || code == ENOTSOCK || code == EOPNOTSUPP

-- this is an error of accept(2) after which a listener can never accept again
abbrev pub IsLasting : ℕ → Type 0
IsLasting code = is_lasting code ≡ true

-- the number of the system's error, if a listener can never accept again after it
abbrev pub lasting_of : Option ℤ → Option ℕ
lasting_of None = None
lasting_of (Some code) = if is_lasting (unsigned_abs code) then Some (unsigned_abs code) else None

-- Accepting is over. All connections have come (`left` is 0), or as many accepts have failed as may
-- fail (`tries` is 0), or the listener can never accept again (`broken` is the error).
abbrev pub AreOver : ℕ → ℕ → Option ℕ → Type 0
AreOver left tries broken = (left ≡ 0) ⊎ (tries ≡ 0) ⊎ IsSomeAnd broken IsLasting
