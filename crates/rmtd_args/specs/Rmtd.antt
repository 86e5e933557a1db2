-- The arguments of `rmtd`, as clap parses them. Public contracts cite it.
use Rattle.std.specs.Prelude.{◌≡◌, ◌⊎◌, ℕ, ◌*◌, ◌<◌, ◌&&◌, ◌||◌, Bool, true, false, not, is_some, List, [], Option, Some, None, MatchOption, codes, map, option_map, unwrap_or}
use Rattle.std.specs.Duration.{as_nanos}
use Rattle.std.specs.Option.{option_map_or}
use Rattle.std.specs.Str.{bytes_eq}
use Rattle.std.specs.declared.time.Duration.{Duration}
use Rattle.std.specs.Str.Parse.{digits_value}
use Rattle.clap.specs.Words.{App, Row, Rule, Text, IsAmong, Kinds, all_of, fault_of, first_of, matches_of, new_app, new_rule, with_rule}
use Rattle.clap.specs.declared.builder.action.ArgAction.TheVariants.{Set, SetTrue, Append}
use Rattle.clap.specs.declared.error.kind.ErrorKind.{ErrorKind}
use Rattle.clap.specs.declared.error.kind.ErrorKind.TheVariants.{DisplayHelp, DisplayVersion}
use Rattle.rmt_wire.specs.Argument.{IsNumber}
use Rattle.rmtd_args.specs.Drive.{PlainDrive, KeepsDriveRules, plain_drive, split_of}
use Rattle.rmtd_args.specs.declared.rmtd_line.ServerLine.{ServerLine}

-- the option `--NAME`, which takes no value
abbrev pub flag_rule : Text → Rule
flag_rule name = record (new_rule name) { long = Some name; action = Some SetTrue }

-- the option `--NAME VALUE`
abbrev pub option_rule : Text → Rule
option_rule name = record (new_rule name) { long = Some name; value_names = 1; action = Some Set }

-- each argument that is not an option
abbrev pub arguments_rule : Text → Rule
arguments_rule name = record (new_rule name) { value_names = 1; action = Some Append }

-- a command that knows its version, which clap's own `--version` prints
abbrev pub with_version : App → App
with_version app = record app { top = record app.top { has_version = true } }

-- the command with the options that say where it serves
abbrev pub app_with_ways : App
app_with_ways = with_rule (with_rule (with_version (new_app (codes "rmtd"))) (flag_rule (codes "stdio"))) (option_rule (codes "listen"))

-- the command with the options that say where it serves, and those that limit what it serves
abbrev pub app_with_limits : App
app_with_limits = with_rule (with_rule (with_rule app_with_ways (option_rule (codes "capacity"))) (option_rule (codes "connections"))) (option_rule (codes "idle"))

-- the command `rmtd` with all of its arguments
unfoldable pub app : App
app = with_rule (with_rule app_with_limits (option_rule (codes "bin"))) (arguments_rule (codes "drive"))

-- clap's matches of the arguments
unfoldable pub matches_in : List Text → List Row
matches_in arguments = matches_of app arguments

-- the kinds of error with which clap refuses the arguments
unfoldable pub faults_in : List Text → Kinds
faults_in arguments = fault_of app arguments

-- clap's matches have `--stdio`
abbrev pub has_stdio : List Row → Bool
has_stdio rows = option_map_or (λ t. bytes_eq t (codes "true")) (first_of (codes "stdio") rows) false

-- the value of `--listen` in clap's matches
abbrev pub address_in : List Row → Option Text
address_in rows = first_of (codes "listen") rows

-- the value of `--bin` in clap's matches
abbrev pub bin_in : List Row → Option Text
bin_in rows = first_of (codes "bin") rows

-- the arguments that are not options
abbrev pub arguments_in : List Row → List Text
arguments_in rows = unwrap_or (all_of (codes "drive") rows) []

-- the arguments that are not options, each split at its first `=`
abbrev pub drives_in : List Row → List PlainDrive
drives_in rows = map split_of (arguments_in rows)

-- exactly one of --stdio and --listen is given
abbrev pub is_one_way : Bool → Bool → Bool
is_one_way stdio listens = (stdio && not listens) || (not stdio && listens)

-- the default capacity in bytes
abbrev pub usual_capacity : ℕ
usual_capacity = 1048576

-- the capacity is the number in its text, or the default without a text
abbrev pub ReadsCapacity : Option Text → ℕ → Type 0
ReadsCapacity None capacity = capacity ≡ usual_capacity
ReadsCapacity (Some text) capacity = IsNumber text × (capacity ≡ digits_value 10 text)

-- the limit of connections is the number in its text; without a text there is no limit
abbrev pub IsConnectionLimit : Option Text → Option ℕ → Type 0
IsConnectionLimit None connections = connections ≡ None
IsConnectionLimit (Some text) connections = IsNumber text × (connections ≡ Some (digits_value 10 text))

-- a limit of this many seconds; 0 seconds is no limit
abbrev pub IsLimitOfSeconds : ℕ → Option Duration → Type 0
IsLimitOfSeconds seconds limit = MatchOption limit (seconds ≡ 0) (λ d. (0 < seconds) × (as_nanos d ≡ seconds * 1000000000))

-- the limit for idle connections is the number of seconds in its text; without a text there is no
-- limit
abbrev pub IsIdleLimit : Option Text → Option Duration → Type 0
IsIdleLimit None limit = limit ≡ None
IsIdleLimit (Some text) limit = IsNumber text × IsLimitOfSeconds (digits_value 10 text) limit

-- no limit for idle connections is given with `--stdio`
abbrev pub IsIdleWithListen : Bool → Option Text → Type 0
IsIdleWithListen stdio text = stdio ≡ true → text ≡ None

-- the text, if there is one, is a number
abbrev pub IsNumberIfGiven : Option Text → Type 0
IsNumberIfGiven None = Unit {0}
IsNumberIfGiven (Some text) = IsNumber text

-- clap's matches keep the rules
pub record KeepsRules (rows : List Row) : Type 0 where
  pub one_way : is_one_way (has_stdio rows) (is_some (address_in rows)) ≡ true
  pub capacity : IsNumberIfGiven (first_of (codes "capacity") rows)
  pub connections : IsNumberIfGiven (first_of (codes "connections") rows)
  pub idle : IsNumberIfGiven (first_of (codes "idle") rows)
  pub idle_listens : IsIdleWithListen (has_stdio rows) (first_of (codes "idle") rows)
  pub drives : KeepsDriveRules (bin_in rows) (drives_in rows)

-- the line has the values of these matches, and keeps the rules
pub record IsLineIn (rows : List Row) (line : ServerLine) : Type 0 where
  pub stdio : line.stdio ≡ has_stdio rows
  pub listen : option_map (λ s. s.now) line.listen ≡ address_in rows
  pub capacity : ReadsCapacity (first_of (codes "capacity") rows) line.capacity
  pub connections : IsConnectionLimit (first_of (codes "connections") rows) line.connections
  pub idle : IsIdleLimit (first_of (codes "idle") rows) line.idle
  pub bin : option_map (λ s. s.now) line.bin ≡ bin_in rows
  pub drives : map plain_drive line.drives.items ≡ drives_in rows
  pub one_way : is_one_way (has_stdio rows) (is_some (address_in rows)) ≡ true
  pub idle_listens : IsIdleWithListen (has_stdio rows) (first_of (codes "idle") rows)
  pub drive_rules : KeepsDriveRules (bin_in rows) (drives_in rows)

-- clap accepts the arguments, and the line has the values of its matches
pub record IsLineOf (arguments : List Text) (line : ServerLine) : Type 0 where
  pub says : IsLineIn (matches_in arguments) line
  pub taken : faults_in arguments ≡ []

-- clap refuses the arguments, or their matches break a rule
abbrev pub AreBadArguments : List Text → Type 0
AreBadArguments arguments = faults_in arguments ≡ [] → ¬ (KeepsRules (matches_in arguments))

-- an error of this kind is clap's help or its version
abbrev pub IsShown : ErrorKind → Type 0
IsShown kind = (kind ≡ DisplayHelp) ⊎ (kind ≡ DisplayVersion)

-- the arguments ask for clap's help or its version
abbrev pub AskToBeShown : List Text → Type 0
AskToBeShown arguments = (kind : ErrorKind) × IsShown kind × IsAmong kind (faults_in arguments)
