-- The form of an address. Public contracts cite it.
use Rattle.std.specs.Prelude.{◌≡◌, ◌≤◌, ◌⊎◌, ◌==◌, ℕ, ◌<◌, ◌^◌, List, ◌++◌, ◌∷◌, Option, None, MatchOption, codes, length, get_or, position}
use Rattle.std.specs.Str.Parse.{digits_value}
use Rattle.rmt_wire.specs.Argument.{IsNumber}

-- A number of 16 bits, written in digits only.
abbrev pub IsPort : List ℕ → Type 0
IsPort text = IsNumber text × (digits_value 10 text < 2 ^ 16)

-- A text in brackets.
abbrev pub IsBracketed : List ℕ → Type 0
IsBracketed text = (inner : List ℕ) × (text ≡ codes "[" ++ (inner ++ codes "]"))

-- A text with at least one byte and no colon.
abbrev pub HasNoColon : List ℕ → Type 0
HasNoColon text = (position (λ b. b == 58) text ≡ None) × (0 < length text)

-- A host has no colon, or it is in brackets, as an IPv6 address is.
abbrev pub IsHost : List ℕ → Type 0
IsHost text = HasNoColon text ⊎ IsBracketed text

-- An address is a host, a colon and a port. A port has no colon, so that colon is the last one.
abbrev pub HasPort : List ℕ → Type 0
HasPort address = (host : List ℕ) × (port : List ℕ) × (address ≡ host ++ (codes ":" ++ port)) × IsHost host × IsPort port

-- No byte is a colon.
abbrev pub LacksColon : List ℕ → Type 0
LacksColon text = (i : ℕ) → i < length text → get_or text i 0 ≡ 58 → ⊥

-- The parts before and after the last colon of a text, or `None` if it has no colon.
abbrev pub IsSplitAtColon : List ℕ → Option (List ℕ × List ℕ) → Type 0
IsSplitAtColon text parts = MatchOption parts (LacksColon text) (λ both. (text ≡ both.0 ++ 58 ∷ both.1) × LacksColon both.1)

-- `unix:` and this path, which begins with a slash
abbrev pub IsPathOf : List ℕ → List ℕ → Type 0
IsPathOf text path = (text ≡ codes "unix:" ++ path) × ((rest : List ℕ) × (path ≡ codes "/" ++ rest))

-- `unix:` and a path that begins with a slash
abbrev pub IsPath : List ℕ → Type 0
IsPath text = (path : List ℕ) × IsPathOf text path

-- A host and a port, or the path of a Unix socket. A path has at most 107 bytes (unix(7)).
abbrev pub IsAddress : List ℕ → Type 0
IsAddress text = HasPort text ⊎ ((path : List ℕ) × IsPathOf text path × (length path ≤ 107))
