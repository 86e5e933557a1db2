-- The text of a catalog. Public contracts cite it.
use Rattle.std.specs.Prelude.{◌≡◌, ◌≢◌, ℕ, ◌+◌, List, [], ◌++◌, All, length, flat_map}
use Rattle.catalog.specs.Line.{IsLine, line_text}
use Rattle.catalog.specs.declared.fault.CatalogFault.{CatalogFault}
use Rattle.catalog.specs.declared.fault.CatalogFault.TheVariants.{BadLine, OutOfMemory}
use Rattle.catalog.specs.declared.line.CatalogLine.{CatalogLine}

-- the text of all lines
abbrev pub catalog_text : List CatalogLine → List ℕ
catalog_text lines = flat_map line_text lines

-- the bytes are the text of these lines, and each line is within the limits
abbrev pub SpellsCatalog : List ℕ → List CatalogLine → Type 0
SpellsCatalog bytes lines = All IsLine lines × (bytes ≡ catalog_text lines)

-- The bytes are the text of `n - 1` good lines and then a rest. The rest is not empty, and does not
-- begin with the text of a good line.
pub record HasBadLine (bytes : List ℕ) (n : ℕ) : Type 0 where
  pub before : List CatalogLine
  pub rest : List ℕ
  pub good : All IsLine before
  pub split : bytes ≡ catalog_text before ++ rest
  pub filled : rest ≢ []
  pub bad : (l : CatalogLine) (more : List ℕ) → IsLine l → rest ≢ line_text l ++ more
  pub number : n ≡ length before + 1

-- why reading the bytes as a catalog fails; an allocation can fail whatever the bytes are
abbrev pub HasCatalogFault : List ℕ → CatalogFault → Type 0
HasCatalogFault bytes (BadLine n) = HasBadLine bytes n
HasCatalogFault bytes OutOfMemory = Unit {0}
