-- The state of a dump in a catalog, in words. Public contracts cite it.
use Rattle.std.specs.Prelude.{ℕ, ◌&&◌, List, [], ◌∷◌, ◌++◌, codes, decimal, flat_map, if◌then◌else◌, length, nat_eq, nat_lt}
use Rattle.rdump_list.specs.declared.missing.VolumeRange.{VolumeRange}
use Rattle.rdump_list.specs.declared.catalog_dump.CatalogDump.{CatalogDump}
use Rattle.rdump_list.specs.declared.catalog_dump.CatalogDump.TheVariants.{NotFinished, Finished}

-- a range of volumes: `2 to 3`, or `5` for one of them
abbrev pub range_text : VolumeRange → List ℕ
range_text r = decimal r.first ++ (if nat_lt r.first r.last then codes " to " ++ decimal r.last else [])

-- a range of volumes after another one
abbrev pub next_range_text : VolumeRange → List ℕ
next_range_text r = codes ", " ++ range_text r

-- which volumes of a finished dump are missing, in words: `missing: volume 2`, or
-- `missing: volumes 2 to 3, 5`
abbrev pub missing_text : List VolumeRange → List ℕ
missing_text [] = codes "all volumes"
missing_text (r ∷ more) =
    if nat_eq (length more) 0 && nat_eq r.first r.last then codes "missing: volume " ++ decimal r.first
    else (codes "missing: volumes " ++ (range_text r ++ flat_map next_range_text more))

-- what is there of a dump, in words
abbrev pub found_text : CatalogDump → List ℕ
found_text NotFinished = codes "not finished"
found_text (Finished missing) = missing_text missing.items
