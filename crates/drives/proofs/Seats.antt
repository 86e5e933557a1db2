-- What a seat that made no step holds.
use Rattle.std.proofs.Common.{arith, ◌≡◌, ℕ, false, replicate, slice_index_or, None}
use Rattle.drives.proofs.Names.{length-replicate, get_or-replicate, get_or_past, DRIVE_LIMIT, has, newcomer, HoldsJust}

none_marked : (d : ℕ) → slice_index_or (replicate DRIVE_LIMIT false) d false ≡ false
none_marked d =
    grind (arith, get_or-replicate DRIVE_LIMIT d false false, get_or_past (replicate DRIVE_LIMIT false) d false, length-replicate DRIVE_LIMIT false)

-- a seat that made no step holds none
pub HoldsJust_newcomer : (number : ℕ) → HoldsJust (newcomer number) None
HoldsJust_newcomer number d = (λ t. (let n : has (newcomer number) d ≡ false = none_marked d in absurd cc), λ n. cc)
