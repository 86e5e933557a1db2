-- The report of a world, in lines. A count is the record of a volume that the client wrote whole to
-- a reel. Public contracts rely on this (through Ending).
use Rattle.std.specs.Prelude.{ℕ, List, [], ◌∷◌, ◌++◌, length, codes, decimal, unwrap_or, nat_eq, if◌then◌else◌}
use Rattle.std.specs.List.{flat_map}
use Rattle.std.specs.Str.{bytes_eq}
use Rattle.tape.specs.Tape.{PlainEntry}
use Rattle.tape.specs.List.{bytes_of}
use Rattle.drives.specs.TapeLibrary.{KeptReel, ReelSlot, Drive, names_of}
use Rattle.dumpdates.specs.Text.{written}
use Rattle.world_model.specs.World.{World, Count}
use Rattle.world_model.specs.First.{PlainDriveSpec}
use Rattle.tape_world.specs.Entries.{entries_on}

-- the text of an entry of this length: 0 is a mark, any other length a record
abbrev pub length_text : ℕ → List ℕ
length_text n = if nat_eq n 0 then codes " M" else codes " R" ++ decimal n

-- an entry of a reel, as the line of the reel has it
abbrev pub entry_text : PlainEntry → List ℕ
entry_text entry = length_text (length (bytes_of entry))

-- the entries of the reel with this name; none if there is no such reel
abbrev pub entries_of_reel : World → List ℕ → List PlainEntry
entries_of_reel w name = unwrap_or (entries_on w.server name) []

-- the line of the reel with this name: its entries, in order
abbrev pub reel_line : World → List ℕ → List ℕ
reel_line w name = codes "reel " ++ name ++ flat_map entry_text (entries_of_reel w name) ++ codes "\n"

-- the names, each with a space before it
abbrev pub names_text : List (List ℕ) → List ℕ
names_text names = flat_map (λ name. codes " " ++ name) names

-- the stack of the first drive with this name; empty if there is none
abbrev pub stack_of : List (Drive KeptReel) → List ℕ → List (ReelSlot KeptReel)
stack_of [] name = []
stack_of (drive ∷ all_drives) name = if bytes_eq name drive.name then drive.stack else stack_of all_drives name

-- the line of the drive with this name: the names of the reels on its stack, in order
abbrev pub stack_line : World → List ℕ → List ℕ
stack_line w device = codes "stack " ++ device ++ names_text (names_of (stack_of w.server.library.drives device)) ++ codes "\n"

-- the line of the bin: the names of its reels, in order
abbrev pub bin_line : World → List ℕ
bin_line w = codes "bin" ++ names_text (names_of w.server.library.bin) ++ codes "\n"

-- the line of a count: its run, volume, first block, number of blocks, and reel
abbrev pub count_line : Count → List ℕ
count_line c =
    codes "counted " ++ decimal c.run ++ codes " " ++ decimal c.volume ++ codes " " ++ decimal c.first ++ codes " " ++ decimal c.count
    ++ codes " " ++ c.reel ++ codes "\n"

-- the whole report: each reel in the order of the drives, each stack, the bin, the counts, and
-- dumpdates
abbrev pub report_text : List PlainDriveSpec → World → List ℕ
report_text drives w =
    flat_map (λ d. flat_map (reel_line w) d.reels) drives ++ flat_map (λ d. stack_line w d.name) drives ++ bin_line w
    ++ flat_map count_line w.counts ++ codes "dumpdates\n" ++ written w.dates
