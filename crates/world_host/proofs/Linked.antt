-- Connections by their numbers, in memory and as they are seen.
use Rattle.std.proofs.Common.{◌≡◌, ℕ, zero, suc, ◌+◌, ◌-◌, ◌<◌, ◌≤◌, List, [], ◌∷◌, length, map, option_map, Option, Some, refl, sym, ap, ◌∙◌, arith, ◌++◌, None}
use Rattle.std.specs.Prelude.{slice_get, slice_set, slice_index_or, take, drop}
use Rattle.std.proofs.lemmas.List.{map-set, set-get_or, length-map, length-set, take_all, drop_all, append-nil}
use Rattle.std.proofs.Math.ListN.{get_or-map}
use Rattle.std.proofs.lemmas.Option.{slice_get-map, slice_get-get_or, same_Some}
use Rattle.world_model.specs.World.{Connection, numbered, with_numbered, World}
use Rattle.world_model.specs.Changes.{changed, changed_from, without_server, connection_of}
use Rattle.world_host.specs.declared.connection.Connection.{Connection as RealConnection}
use Rattle.world_host.specs.Connection.{plain_connection}

before : (i : ℕ) → i ≡ suc i - 1
before i = omega arith

-- a number from 1 on is a place
pub numbered_at : {X : Type 0} (xs : List X) (k : ℕ) → 1 ≤ k → numbered xs k ≡ slice_get xs (k - 1)
numbered_at xs zero first = absurd (omega (arith, first))
numbered_at xs (suc i) first = ap (slice_get xs) (before i)

with_at : {X : Type 0} (xs : List X) (k : ℕ) (x : X) → 1 ≤ k → with_numbered xs k x ≡ slice_set xs (k - 1) x
with_at xs zero x first = absurd (omega (arith, first))
with_at xs (suc i) x first = ap (λ j. slice_set xs j x) (before i)

-- the connection of that number is found at its place
pub found : (connections : List RealConnection) (k place : ℕ) (r : Option RealConnection) → 1 ≤ k → place ≡ k - 1 → r ≡ slice_get connections place
    → option_map plain_connection r ≡ numbered (map plain_connection connections) k
found connections k place r first is same =
    ap (option_map plain_connection) (same ∙ ap (slice_get connections) is) ∙ sym (slice_get-map plain_connection connections (k - 1)) ∙ sym (numbered_at (map plain_connection connections) k first)

-- the connection of that number is changed
pub put_connection : (f : Connection → Connection) (connections : List RealConnection) (k : ℕ) (x d : RealConnection) → 1 ≤ k → k ≤ length connections
    → plain_connection x ≡ f (plain_connection (slice_index_or connections (k - 1) d)) → map plain_connection (slice_set connections (k - 1) x) ≡ changed f (map plain_connection connections) k
put_connection f connections k x d first last is =
    let got : numbered (map plain_connection connections) k ≡ Some (plain_connection (slice_index_or connections (k - 1) d))
    = numbered_at (map plain_connection connections) k first ∙ slice_get-map plain_connection connections (k - 1)
    ∙ ap (option_map plain_connection) (slice_get-get_or connections (k - 1) d (omega (arith, first, last))) in
    map-set plain_connection connections (k - 1) x ∙ ap (slice_set (map plain_connection connections) (k - 1)) is
    ∙ sym (with_at (map plain_connection connections) k (f (plain_connection (slice_index_or connections (k - 1) d))) first)
    ∙ sym (ap (changed_from f (map plain_connection connections) k) got)

-- one that is seen as before is no change
pub put_same : (connections : List RealConnection) (k : ℕ) (x d : RealConnection) → plain_connection x ≡ plain_connection (slice_index_or connections (k - 1) d)
    → map plain_connection (slice_set connections (k - 1) x) ≡ map plain_connection connections
put_same connections k x d is =
    map-set plain_connection connections (k - 1) x ∙ ap (slice_set (map plain_connection connections) (k - 1)) is ∙ sym (map-set plain_connection connections (k - 1) (slice_index_or connections (k - 1) d))
    ∙ ap (map plain_connection) (set-get_or connections (k - 1) d)

-- the first so many connections, of which the server's side is over
abbrev pub ended_front : ℕ → List Connection → List Connection
ended_front zero xs = xs
ended_front (suc n) [] = []
ended_front (suc n) (x ∷ xs) = without_server x ∷ ended_front n xs

front_step : (i : ℕ) (xs : List Connection) (d : Connection) → i < length xs
    → slice_set (ended_front i xs) i (without_server (slice_index_or (ended_front i xs) i d)) ≡ ended_front (suc i) xs
front_step i [] d within = absurd (omega (arith, within))
front_step zero (x ∷ xs) d within = refl
front_step (suc i) (x ∷ xs) d within = ap (λ l. without_server x ∷ l) (front_step i xs d (omega (arith, within)))

front_all : (n : ℕ) (xs : List Connection) → length xs ≤ n → ended_front n xs ≡ map without_server xs
front_all zero [] within = refl
front_all zero (x ∷ xs) within = absurd (omega (arith, within))
front_all (suc n) [] within = refl
front_all (suc n) (x ∷ xs) within = ap (λ l. without_server x ∷ l) (front_all n xs (omega (arith, within)))

-- the server's side of the next connection is over
pub front_put : (connections first : List RealConnection) (i : ℕ) (x d : RealConnection) → map plain_connection connections ≡ ended_front i (map plain_connection first) → i < length first
    → plain_connection x ≡ without_server (plain_connection (slice_index_or connections i d)) → map plain_connection (slice_set connections i x) ≡ ended_front (i + 1) (map plain_connection first)
front_put connections first i x d so within is =
    let more : suc i ≡ i + 1 = omega arith in
    let here : plain_connection (slice_index_or connections i d) ≡ slice_index_or (ended_front i (map plain_connection first)) i (plain_connection d)
    = sym (get_or-map plain_connection connections i d) ∙ ap (λ l. slice_index_or l i (plain_connection d)) so in
    map-set plain_connection connections i x ∙ ap (λ l. slice_set l i (plain_connection x)) so ∙ ap (slice_set (ended_front i (map plain_connection first)) i) (is ∙ ap without_server here)
    ∙ front_step i (map plain_connection first) (plain_connection d) (omega (arith, within, length-map first plain_connection)) ∙ ap (λ n. ended_front n (map plain_connection first)) more

pub front_end : (connections first : List RealConnection) (i : ℕ) → map plain_connection connections ≡ ended_front i (map plain_connection first) → length first ≤ i
    → map plain_connection connections ≡ map without_server (map plain_connection first)
front_end connections first i so within = so ∙ front_all i (map plain_connection first) (omega (arith, within, length-map first plain_connection))

-- ---- connections in a vector

length_from : (f : Connection → Connection) (xs : List Connection) (j : ℕ) (o : Option Connection) → length (changed_from f xs j o) ≡ length xs
length_from f xs j None = refl
length_from f xs zero (Some x) = refl
length_from f xs (suc i) (Some x) = length-set xs i (f x)

pub length_changed : (f : Connection → Connection) (xs : List Connection) (j : ℕ) → length (changed f xs j) ≡ length xs
length_changed f xs j = length_from f xs j (numbered xs j)

-- a vector's items after others of their number were written over them
items_after : (n : ℕ) (items ws : List RealConnection) → n ≡ length items → length ws ≡ length items → take n (ws ++ drop (length ws) items) ≡ ws
items_after n items ws len same =
    ap (λ l. take n (ws ++ l)) (drop_all (length ws) items (omega (arith, same))) ∙ ap (take n) (append-nil ws) ∙ take_all n ws (omega (arith, len, same))

-- what is seen of the connections in a vector, of which one was changed
pub connections_after : (f : Connection → Connection) (n : ℕ) (items xs ws : List RealConnection) (k : ℕ) → n ≡ length items → xs ≡ items → map plain_connection ws ≡ changed f (map plain_connection xs) k
    → map plain_connection (take n (ws ++ drop (length ws) items)) ≡ changed f (map plain_connection items) k
connections_after f n items xs ws k len value is =
    let here : map plain_connection ws ≡ changed f (map plain_connection items) k = is ∙ ap (λ l. changed f (map plain_connection l) k) value in
    let same : length ws ≡ length items
    = sym (length-map ws plain_connection) ∙ ap length here ∙ length_changed f (map plain_connection items) k ∙ length-map items plain_connection in
    ap (map plain_connection) (items_after n items ws len same) ∙ here

pub connections_over : (n : ℕ) (items xs ws : List RealConnection) → n ≡ length items → xs ≡ items → map plain_connection ws ≡ map without_server (map plain_connection xs)
    → map plain_connection (take n (ws ++ drop (length ws) items)) ≡ map without_server (map plain_connection items)
connections_over n items xs ws len value is =
    let here : map plain_connection ws ≡ map without_server (map plain_connection items) = is ∙ ap (λ l. map without_server (map plain_connection l)) value in
    let same : length ws ≡ length items
    = sym (length-map ws plain_connection) ∙ ap length here ∙ length-map (map plain_connection items) without_server ∙ length-map items plain_connection in
    ap (map plain_connection) (items_after n items ws len same) ∙ here

pub connections_same : (n : ℕ) (items xs ws : List RealConnection) → n ≡ length items → xs ≡ items → map plain_connection ws ≡ map plain_connection xs
    → map plain_connection (take n (ws ++ drop (length ws) items)) ≡ map plain_connection items
connections_same n items xs ws len value is =
    let here : map plain_connection ws ≡ map plain_connection items = is ∙ ap (map plain_connection) value in
    let same : length ws ≡ length items = sym (length-map ws plain_connection) ∙ ap length here ∙ length-map items plain_connection in
    ap (map plain_connection) (items_after n items ws len same) ∙ here

-- the connection of that number, which was found
pub connection_is : (w : World) (items xs : List RealConnection) (k : ℕ) (r : Option RealConnection) (l : RealConnection) → w.connections ≡ map plain_connection items → xs ≡ items
    → option_map plain_connection r ≡ numbered (map plain_connection xs) k → r ≡ Some l → connection_of w k ≡ Some (plain_connection l)
connection_is w items xs k r l connections value is some =
    ap (λ ls. numbered ls k) (connections ∙ ap (map plain_connection) (sym value)) ∙ sym is ∙ ap (option_map plain_connection) some

-- there is one connection of a number
pub same_connection : (w : World) (k : ℕ) (x y : Connection) → connection_of w k ≡ Some x → connection_of w k ≡ Some y → x ≡ y
same_connection w k x y one other = same_Some x y (sym one ∙ other)

pub no_connection : (w : World) (k : ℕ) (x : Connection) → connection_of w k ≡ None → connection_of w k ≡ Some x → ⊥
no_connection w k x none some = cc
