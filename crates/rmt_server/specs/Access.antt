-- The access of an open device. Public contracts depend on it (through Session).
use Rattle.std.specs.Prelude.{ℕ, ◌%◌, ◌==◌, Bool, true, false, if◌then◌else◌, Option, Some, None}
use Rattle.rmt_wire.specs.declared.fcntl.TheConstants.{O_RDONLY, O_WRONLY, O_RDWR, ACCESS_MODES}
use Rattle.rmt_server.specs.declared.access.Access.{Access}
use Rattle.rmt_server.specs.declared.access.Access.TheVariants.{Read, Write, Both}

-- The access of a mode, which depends only on the mode modulo 4: 0 read only, 1 write only, 2 both,
-- 3 none.
abbrev pub access_of : ℕ → Option Access
access_of mode =
    if mode % ACCESS_MODES == O_RDONLY then Some Read else if mode % ACCESS_MODES == O_WRONLY then Some Write
    else if mode % ACCESS_MODES == O_RDWR then Some Both else None

-- whether this access allows reads
abbrev pub reads : Access → Bool
reads Read = true
reads Write = false
reads Both = true

-- whether this access allows writes
abbrev pub writes : Access → Bool
writes Read = false
writes Write = true
writes Both = true
