-- Errors as they are sent, with the numbers and texts of errno. Public contracts depend on them
-- (through Session).
use Rattle.std.specs.Prelude.{ℕ, List, codes}
use Rattle.rmt_wire.specs.Reply.{PlainReply}
use Rattle.rmt_wire.specs.declared.errno.TheConstants.{ENOENT, EIO, ENXIO, EBADF, ENOMEM, EACCES, EBUSY, EINVAL, ENOSPC}
use Rattle.rmt_wire.specs.Reply.PlainReply.{Error}
use Rattle.tape.specs.declared.fault.TapeFault.{TapeFault}
use Rattle.tape.specs.declared.fault.TapeFault.TheVariants as tape
use Rattle.drives.specs.declared.fault.DriveFault.{DriveFault}
use Rattle.drives.specs.declared.fault.DriveFault.TheVariants as drive
use Rattle.rmt_server.specs.declared.refusal.Refusal.{Refusal}
use Rattle.rmt_server.specs.declared.refusal.Refusal.TheVariants.{NoSuchFile, InputOutput, NotConfigured, BadDescriptor, NoMemory, Permission, Busy, Invalid, NoSpace}

-- the errno value that the error reply has
abbrev pub number_of : Refusal → ℕ
number_of NoSuchFile = ENOENT
number_of InputOutput = EIO
number_of NotConfigured = ENXIO
number_of BadDescriptor = EBADF
number_of NoMemory = ENOMEM
number_of Permission = EACCES
number_of Busy = EBUSY
number_of Invalid = EINVAL
number_of NoSpace = ENOSPC

-- the text that the error reply has after the errno value
abbrev pub text_of : Refusal → List ℕ
text_of NoSuchFile = codes "No such file or directory"
text_of InputOutput = codes "Input/output error"
text_of NotConfigured = codes "Device not configured"
text_of BadDescriptor = codes "Bad file descriptor"
text_of NoMemory = codes "Cannot allocate memory"
text_of Permission = codes "Permission denied"
text_of Busy = codes "Device busy"
text_of Invalid = codes "Invalid argument"
text_of NoSpace = codes "No space left on device"

-- the error reply that a refusal is sent as
abbrev pub refused : Refusal → PlainReply
refused r = Error (number_of r) (text_of r)

-- the error that a client gets for a fault of a reel
abbrev pub tape_refusal : TapeFault → Refusal
tape_refusal tape.Device = InputOutput
tape_refusal tape.Full = NoSpace
tape_refusal tape.EndOrMark = InputOutput
tape_refusal tape.BadOperation = Invalid
tape_refusal tape.OutOfMemory = NoMemory

-- the error that a client gets for a fault of a drive
abbrev pub drive_refusal : DriveFault → Refusal
drive_refusal drive.NoSuchDrive = NoSuchFile
drive_refusal (drive.Busy n) = Busy
drive_refusal drive.NoReel = NotConfigured
drive_refusal drive.Device = InputOutput
drive_refusal drive.OutOfMemory = NoMemory
drive_refusal drive.NameTaken = InputOutput
