-- The parts of a world in memory, as plain data. Plain data are the values that contracts use for
-- what the code has in memory. A count is the record of a volume that the client wrote whole to a
-- reel. No public contract needs it.
use Rattle.std.specs.Prelude.{◌≡◌, ℕ, Bool, nat_lt, List, [], map, get_or, option_map, Option, Vec, vec_len, vec_capacity}
use Rattle.std.specs.Global.{Global}
use Rattle.dumpdates.specs.Entry.{DatesEntry}
use Rattle.rmt_server.specs.ServerState.{ServerState}
use Rattle.dump_run.specs.declared.count.VolumeCount.{VolumeCount}
use Rattle.dump_client.specs.declared.fault.AttemptFault.{AttemptFault}
use Rattle.world_model.specs.World.{Connection, Begun, WorldClient, Count, Opening, Writing, Entered, Kept, World}
use Rattle.tape_world.specs.declared.caller.Begun.{Begun as RealBegun}
use Rattle.tape_world.specs.declared.caller.WorldClient.{WorldClient as RealCaller}
use Rattle.tape_world.specs.declared.caller.KeptRun.{KeptRun}
use Rattle.tape_world.specs.declared.history.Count.{Count as RealCount}
use Rattle.tape_world.specs.declared.history.Opening.{Opening as RealOpening}
use Rattle.tape_world.specs.declared.history.Writing.{Writing as RealWriting}
use Rattle.tape_world.specs.declared.history.Entered.{Entered as RealEntered}

-- a run that was begun, as plain data
abbrev pub seen_begun : RealBegun → Begun
seen_begun b = record { run = b.run; payload = b.payload.blocks }

-- the client, as plain data
abbrev pub seen_caller : RealCaller → WorldClient
seen_caller c = record { number = c.number; at = c.client.at; reader = c.client.reader }

-- the name at index `place` of the list, and the empty name past its end
abbrev pub name_at : List (List ℕ) → ℕ → List ℕ
name_at names place = get_or names place []

-- the count `c`, with the name of its reel in place of the name's index in `names`
abbrev pub seen_count : List (List ℕ) → RealCount → Count
seen_count names c =
    record { run = c.run; volume = c.volume; first = c.first; count = c.count; reel = name_at names c.reel; connection = c.connection }

-- the opening `o`, with the name of its reel in place of the name's index in `names`
abbrev pub seen_opening : List (List ℕ) → RealOpening → Opening
seen_opening names o = record { connection = o.connection; reel = name_at names o.reel }

-- the openings, each with the name of its reel in place of the name's index in `names`
abbrev pub seen_openings : List (Vec ℕ Global) → List RealOpening → List Opening
seen_openings names opens = map (seen_opening (map (λ n. n.items) names)) opens

-- the writing `x`, with the name of its reel in place of the name's index in `names`
abbrev pub seen_writing : List (List ℕ) → RealWriting → Writing
seen_writing names x = record { connection = x.connection; reel = name_at names x.reel; after = x.after }

-- the writings, each with the name of its reel in place of the name's index in `names`
abbrev pub seen_writings : List (Vec ℕ Global) → List RealWriting → List Writing
seen_writings names writings = map (seen_writing (map (λ n. n.items) names)) writings

-- for each opening, the list of counts that the client had then
abbrev pub seen_lists : List (Vec VolumeCount Global) → List (List VolumeCount)
seen_lists lists = map (λ l. l.items) lists

-- a run that was entered, as plain data
abbrev pub seen_entered : RealEntered → Entered
seen_entered e = record { run = e.run; listed = e.counts.items }

-- the saved run, as plain data
abbrev pub seen_kept : KeptRun → Kept
seen_kept k = record { run = k.run; listed = k.counts.items }

-- whether there is room for one more member of the list
abbrev pub has_room : {X : Type 0} → Vec X Global → Bool
has_room xs = nat_lt (vec_len xs) (vec_capacity xs)

-- which lists of a history have room for one more member
pub record Rooms : Type 0 where
  pub counts : Bool
  pub opens : Bool
  pub lists : Bool
  pub writings : Bool
  pub entered : Bool

-- a history, as plain data, with the names of all reels
pub record HistoryHeld : Type 0 where
  pub names : List (List ℕ)
  pub counts : List Count
  pub opens : List Opening
  pub lists : List (List VolumeCount)
  pub writings : List Writing
  pub entered : List Entered
  pub rooms : Rooms

-- nothing was added to the history
abbrev pub IsSameHistory : HistoryHeld → HistoryHeld → Type 0
IsSameHistory old new = new ≡ record old { rooms = new.rooms }

-- the world that these parts are, as plain data
abbrev pub world_of : ServerState → List Connection → List RealBegun → Option RealCaller → Option ℕ → Option KeptRun → HistoryHeld → Option (ℕ × AttemptFault)
    → List DatesEntry → World
world_of h connections begun caller own kept history failure dates = record {
  server = h;
  connections = connections;
  begun = map seen_begun begun;
  caller = option_map seen_caller caller;
  own = own;
  counts = history.counts;
  opens = history.opens;
  lists = history.lists;
  writings = history.writings;
  entered = history.entered;
  kept = option_map seen_kept kept;
  failure = failure;
  dates = dates;
}
