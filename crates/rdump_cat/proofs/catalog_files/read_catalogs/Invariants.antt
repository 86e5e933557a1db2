use Rattle.std.proofs.Common.{◌≡◌, length}
use Rattle.rdump_cat.proofs.catalog_files.read_catalogs.Given as goal

-- there is a catalog for each path so far
abbrev pub invariant-loop-path : goal.invariant-loop-path
invariant-loop-path g l = length l.catalogs.items ≡ l.path-index
