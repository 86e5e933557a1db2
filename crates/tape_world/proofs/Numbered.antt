-- Connections in memory, at their indexes from 0, and as they are seen, by their numbers from 1.
use Rattle.tape_world.proofs.Layers.{common_steps, sym, ◌≡◌, ℕ, ◌-◌, List, map, Some, ap, ◌∙◌, arith, slice_get, slice_index_or, length-map, set-set, slice_get-map, Connection, numbered, changed, without_peer, plain_connection, put_connection, put_same, slice_set, get_or_from_slice_get, set-get_or}
use Rattle.world_host.specs.declared.connection.Connection.{Connection as RealConnection}
use Rattle.tape_world.specs.Connections.{IsThere}
use Rattle.world_model.proofs.Numbers.{set_here}

-- a change of the connection `y` at an index is one of the connection with its number
pub put_there : (f : Connection → Connection) (items : List RealConnection) (list : List Connection) (k : ℕ) (x y : RealConnection)
    → map plain_connection items ≡ list
    → IsThere list k → y ≡ slice_index_or items (k - 1) y → plain_connection x ≡ f (plain_connection y)
    → map plain_connection (slice_set items (k - 1) x) ≡ changed f list k
put_there f items list k x y view there at is = grind (arith, common_steps, put_connection, length-map)

-- without a change of the connection all are as before
pub put_back : (items : List RealConnection) (list : List Connection) (k : ℕ) (x y : RealConnection) → map plain_connection items ≡ list
    → y ≡ slice_index_or items (k - 1) y → plain_connection x ≡ plain_connection y → map plain_connection (slice_set items (k - 1) x) ≡ list
put_back items list k x y view at is = put_same items k x y (is ∙ ap plain_connection at) ∙ view

-- what was changed before the peer left makes no difference
pub left_after : (f : Connection → Connection) (xs : List Connection) (k : ℕ) → ((x : Connection) → without_peer (f x) ≡ without_peer x)
    → changed without_peer (changed f xs k) k ≡ changed without_peer xs k
left_after f xs k same = grind (arith, common_steps, set_here, set-set)

set_own : (xs : List Connection) (m : ℕ) (x : Connection) → slice_get xs m ≡ Some x → slice_set xs m x ≡ xs
set_own xs m x at = ap (slice_set xs m) (sym (get_or_from_slice_get xs m x x at)) ∙ set-get_or xs m x

-- no change leaves the connections as they are
pub same_connections : (xs : List Connection) (k : ℕ) → changed (λ l. l) xs k ≡ xs
same_connections xs k = grind (arith, set_own)

-- what is seen of the member with a number
pub numbered_seen : {X Y : Type 0} (see : X → Y) (xs : List X) (n : ℕ) (x : X) → numbered xs n ≡ Some x → numbered (map see xs) n ≡ Some (see x)
numbered_seen see xs n x at = grind (arith, common_steps, slice_get-map)
