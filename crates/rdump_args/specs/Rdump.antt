-- The limits of the arguments of `rdump`. Public contracts cite it.
use Rattle.std.specs.Prelude.{◌≡◌, ◌≤◌, ◌<◌, ◌*◌, ℕ, List, [], ◌∷◌, Bool, true, Option, None, Some, IfSome, MatchOption, IsSome, IsNone, ⊤, length, codes}
use Rattle.std.specs.Borrow.{Bor}
use Rattle.std.specs.Duration.{as_nanos}
use Rattle.std.specs.declared.time.Duration.{Duration}
use Rattle.clap.specs.Words.{Text}
use Rattle.dumpdates.specs.Entry.{IsName}
use Rattle.dump_run.specs.Run.{IsDevice}
use Rattle.sockets.specs.Address.{IsAddress}
use Rattle.rmt_wire.specs.declared.argument.TheConstants.{ARGUMENT_LIMIT}
use Rattle.rmt_wire.specs.declared.limits.TheConstants.{NUMBER_LIMIT}
use Rattle.rmt_wire.specs.declared.mtio.TheConstants.{MTNOP}
use Rattle.rdump_args.specs.declared.rdump_line.RdumpLine.{RdumpLine}
use Rattle.rdump_args.specs.declared.rdump_line.RdumpLine.TheVariants.{Dump, Read, Fetch, Cat, List as Ls, Mt, Dates}
use Rattle.rdump_args.specs.declared.cat_line.CatLine.{CatLine}
use Rattle.rdump_args.specs.declared.dump_line.DumpLine.{DumpLine}
use Rattle.rdump_args.specs.declared.read_line.ReadLine.{ReadLine}
use Rattle.rdump_args.specs.declared.retry.TheConstants.{MOST_PAUSE, MOST_RETRIES}
use Rattle.rdump_args.specs.declared.fetch_line.FetchLine.{FetchLine}
use Rattle.rdump_args.specs.declared.list_line.ListLine.{ListLine}
use Rattle.rdump_args.specs.declared.list_line.WantedDumps.{WantedDumps}
use Rattle.rdump_args.specs.declared.list_line.ListedReels.{ListedReels}
use Rattle.rdump_args.specs.declared.list_line.ListedReels.TheVariants.{Paths, Drive}
use Rattle.rdump_args.specs.declared.mt_line.MtLine.{MtLine}

-- a name and a level, if given, are those that an entry can have
abbrev pub IsDatesAsked : Option (Bor Text × ℕ) → Type 0
IsDatesAsked None = ⊤
IsDatesAsked (Some (name, level)) = IsName name.now × (level ≤ 9)

-- a limit of this many seconds; 0 is no limit
abbrev pub IsLimit : ℕ → Option Duration → Type 0
IsLimit seconds limit = MatchOption limit (seconds ≡ 0) (λ time. (0 < seconds) × (as_nanos time ≡ seconds * 1_000_000_000))

-- the payload `-`
abbrev pub IsInput : Text → Type 0
IsInput payload = payload ≡ codes "-"

-- A folder for standard input, or leave to dump none of its bytes, is given only if the payload is
-- standard input. There is never both such a folder and a checkpoint.
abbrev pub IsInputPlace : {X Y : Type 0} → Text → Option X → Option Y → Bool → Type 0
IsInputPlace payload spool checkpoint allow_empty =
    (IsSome spool → IsInput payload) × (allow_empty ≡ true → IsInput payload) × (IsSome spool → IsNone checkpoint)

-- The numbers of a run are at most `ARGUMENT_LIMIT`. The failures in a row that are answered by
-- another attempt, and the pause before it, are within their limits.
abbrev pub IsDumpLine : DumpLine → Type 0
IsDumpLine line =
    (line.level ≤ ARGUMENT_LIMIT) × (line.block ≤ ARGUMENT_LIMIT) × IfSome line.date (λ n. n ≤ ARGUMENT_LIMIT)
    × IsInputPlace line.payload.now line.spool line.checkpoint line.allow_empty
    × IfSome line.retry (λ n. (0 < n) × (n ≤ MOST_RETRIES)) × (as_nanos line.pause ≤ MOST_PAUSE * 1_000_000_000)

-- a device that a request can name
abbrev pub IsReadLine : ReadLine → Type 0
IsReadLine line = IsDevice line.device.now

-- a device that a request can name
abbrev pub IsFetchLine : FetchLine → Type 0
IsFetchLine line = IsDevice line.device.now

-- There is never both a length and a catalog. If the payload has to be whole, there is one of them.
unfoldable pub IsOneGiven : {X : Type 0} → Option ℕ → List X → Bool → Type 0
IsOneGiven (Some length) (catalog ∷ more) is_partial = ⊥
IsOneGiven (Some length) [] is_partial = Unit {0}
IsOneGiven None (catalog ∷ more) is_partial = Unit {0}
IsOneGiven None [] is_partial = is_partial ≡ true

-- There is a path, the level is one that a dump can have, and the numbers are at most
-- `ARGUMENT_LIMIT`. The length of the payload is known from one source at most.
abbrev pub IsCatLine : CatLine → Type 0
IsCatLine line =
    (0 < length line.paths.items) × IfSome line.level (λ n. n ≤ 9) × IfSome line.date (λ n. n ≤ ARGUMENT_LIMIT)
    × IfSome line.length (λ n. n ≤ ARGUMENT_LIMIT) × IsOneGiven line.length line.catalogs.items line.is_partial

-- the reels to list are those at the paths, at least one, or those of a drive
abbrev pub IsListedReels : ListedReels → Type 0
IsListedReels (Paths paths) = 0 < length paths.items
IsListedReels (Drive to device timeout) = IsDevice device.now × IsAddress to.now

-- the level is one that a dump can have, and the date is at most `ARGUMENT_LIMIT`
abbrev pub IsWantedDumps : WantedDumps → Type 0
IsWantedDumps wanted = IfSome wanted.level (λ n. n ≤ 9) × IfSome wanted.date (λ n. n ≤ ARGUMENT_LIMIT)

-- The number of blocks, if given, is one that a dump can have, and there is a dumpdates file. If
-- dumps are named, the level is one that a dump can have.
abbrev pub IsListLine : ListLine → Type 0
IsListLine line =
    IsListedReels line.reels × IfSome line.blocks (λ n. (n ≤ NUMBER_LIMIT) × IsSome line.dumpdates) × IfSome line.wanted IsWantedDumps

-- a device, an operation and a count that a request can name
abbrev pub IsMtLine : MtLine → Type 0
IsMtLine line = IsDevice line.device.now × (line.op ≤ MTNOP) × (line.count ≤ NUMBER_LIMIT)

-- the parsed arguments of one of the commands, within their limits
abbrev pub IsRdumpLine : RdumpLine → Type 0
IsRdumpLine (Dump line) = IsDumpLine line × IsAddress line.to.now
IsRdumpLine (Read line) = IsReadLine line × IsAddress line.to.now
IsRdumpLine (Fetch line) = IsFetchLine line × IsAddress line.to.now
IsRdumpLine (Cat line) = IsCatLine line
IsRdumpLine (Ls line) = IsListLine line
IsRdumpLine (Mt line) = IsMtLine line × IsAddress line.to.now
IsRdumpLine (Dates file asked) = IsDatesAsked asked
