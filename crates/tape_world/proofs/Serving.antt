-- What a turn of the server's side makes of a connection.
use Rattle.tape_world.proofs.Layers.{common_steps, ◌≡◌, ℕ, suc, Bool, not, List, [], ◌∷◌, ◌++◌, map, Option, Some, refl, ap, ◌∙◌, arith, Vec, Global, Contains, position_or_len, option_to_list, map-append, bytes_eq, bytes_eq-Decides, Trouble, ServerConnection, Turn, Hosted, hosted, side_at, TurnsSide, ServesAt, with_back, Connection, without_server, name_at, noted_turn, TurnServes, option_map, cond, ◌+◌}
use Rattle.world_host.specs.Servers.{ended}
use Rattle.world_host.specs.declared.turn.Turn.TheVariants as turns

-- ---- the connection after a turn

serves_side : (trouble : Trouble) (old new : Hosted) (k : ℕ) (turn : Turn) (l x : Connection) (back : List ℕ) (s : ServerConnection)
    → side_at old.server.sides k ≡ Some s
    → TurnsSide (hosted (ended old.server k) old.ready) trouble l.cut (with_back old l.back) k s turn (with_back new back)
    → x ≡ noted_turn turn (record l { back = back })
    → TurnServes trouble old k turn new (λ f. x ≡ f l)
serves_side trouble old new k turns.Nothing l x back s live (none, same, is) so = grind (arith, common_steps)
serves_side trouble old new k (turns.Carried c) l x back s live (request, reply, carries, ready, told, is) so = grind (arith, common_steps)
serves_side trouble old new k (turns.Broken fault) l x back s live (gives, after, is) so =
    (s, live, gives, after, so ∙ ap (λ b. without_server (record l { back = b })) is)

pub serves_connection : (trouble : Trouble) (old new : Hosted) (k : ℕ) (turn : Turn) (l x : Connection) (back : List ℕ)
    → ServesAt trouble l.cut old k l.back turn new back
    → x ≡ noted_turn turn (record l { back = back }) → TurnServes trouble old k turn new (λ f. x ≡ f l)
serves_connection trouble old new k turn l x back t so = grind (arith, common_steps, serves_side trouble old new k turn l x back)

-- the same, of all connections
pub serves_as : (trouble : Trouble) (old new : Hosted) (k : ℕ) (turn : Turn) (p q : (Connection → Connection) → Type 0)
    → ((f : Connection → Connection) → p f → q f)
    → TurnServes trouble old k turn new p → TurnServes trouble old k turn new q
serves_as trouble old new k turn p q on f = grind (arith, common_steps)

-- ---- the place of a name

next : (p : ℕ) → 1 + p ≡ suc p
next p = omega arith

place_step : (x name : List ℕ) (names : List (List ℕ)) (p : ℕ) (b : Bool) → bytes_eq name x ≡ b → (Contains names name → name_at names p ≡ name)
    → Contains (x ∷ names) name
    → name_at (x ∷ names) (cond (not b) (1 + p) 0) ≡ name
place_step x name names p b is rest known = grind (arith, common_steps, bytes_eq-Decides, next)

pub place_found : (names : List (Vec ℕ Global)) (name : List ℕ) → Contains (map (λ n. n.items) names) name
    → name_at (map (λ n. n.items) names) (position_or_len (λ n. bytes_eq name n.items) names) ≡ name
place_found [] name (k, within, at) = absurd (omega (arith, within))
place_found (x ∷ xs) name known =
    place_step x.items name (map (λ n. n.items) xs) (position_or_len (λ n. bytes_eq name n.items) xs) (bytes_eq name x.items) refl (place_found xs name) known

-- One more opening or writing, by the index of the reel's name: it is seen with the name.
pub noted_more : {R P : Type 0} (names : List (Vec ℕ Global)) (see : R → P) (make : List ℕ → P) (at : ℕ → R) (xs new : List R) (place : ℕ) (name : List ℕ)
    (o : Option (List ℕ))
    → ((i : ℕ) → see (at i) ≡ make (name_at (map (λ n. n.items) names) i)) → o ≡ Some name → Contains (map (λ n. n.items) names) name
    → place ≡ position_or_len (λ n. bytes_eq name n.items) names → new ≡ xs ++ at place ∷ [] → map see new ≡ map see xs ++ option_to_list (option_map make o)
noted_more names see make at xs new place name o sees some known found is = grind (arith, common_steps, Vec, Global, place_found, map-append)
