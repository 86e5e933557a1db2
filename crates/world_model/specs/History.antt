-- The history of a world: the counts of a run, and dumpdates after runs were entered. A count is
-- the record of a volume that the client wrote whole to a reel. Public contracts cite it.
use Rattle.std.specs.Prelude.{◌≡◌, ℕ, ◌==◌, Bool, true, false, List, [], ◌∷◌, Contains, Option, Some, None}
use Rattle.dumpdates.specs.Entry.{DatesEntry}
use Rattle.dumpdates.specs.Dates.{entered}
use Rattle.dump_run.specs.declared.count.VolumeCount.{VolumeCount}
use Rattle.world_model.specs.World.{World, Begun, Count, Entered, numbered}
use Rattle.world_model.specs.Steps.{entry_of}

-- a count, as the client lists it
abbrev pub volume_of : Count → VolumeCount
volume_of x = record { volume = x.volume; first = x.first; count = x.count }

-- the counts with `x` before them, if the flag is set
abbrev pub counted_if : Bool → Count → List VolumeCount → List VolumeCount
counted_if true x counts = volume_of x ∷ counts
counted_if false x counts = counts

-- the counts of the run with this number, in order
abbrev pub counts_in : List Count → ℕ → List VolumeCount
counts_in [] run = []
counts_in (x ∷ xs) run = counted_if (x.run == run) x (counts_in xs run)

-- Each of the listed volumes is among the counts of that run.
abbrev pub AreCountedIn : World → ℕ → List VolumeCount → Type 0
AreCountedIn w run listed = (v : VolumeCount) → Contains listed v → Contains (counts_in w.counts run) v

-- the list has a count with that volume and first block
abbrev pub HasCountOf : List VolumeCount → ℕ → ℕ → Type 0
HasCountOf list volume first = (c : VolumeCount) × Contains list c × (c.volume ≡ volume) × (c.first ≡ first)

-- dumpdates after the run was entered, or unchanged if there is no such run
abbrev pub dates_with : List DatesEntry → Option Begun → List DatesEntry
dates_with dates None = dates
dates_with dates (Some b) = entered dates (entry_of b.run)

-- dumpdates after these runs were entered, one after the other
abbrev pub dates_after : List Begun → List DatesEntry → List Entered → List DatesEntry
dates_after begun dates [] = dates
dates_after begun dates (e ∷ es) = dates_after begun (dates_with dates (numbered begun e.run)) es
