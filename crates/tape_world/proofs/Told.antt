-- What a world tells is what it holds.
use Rattle.tape_world.proofs.Layers.{common_steps, ◌≡◌, ℕ, min, false, List, length, Option, Some, arith, IsTrue, unwrap_or, HasRoom, World, Connection, ToServer, ToClient, side_of, connection_of, Possible, IsReadable, IsGreatest, ServerConnection, IsOnWay, side_at, subst, sym}
use Rattle.tape_world.proofs.Server.{side_found}

-- how many bytes can reach the server
can_arrive : (w : World) (k : ℕ) (l : Connection) (r : Option ℕ) (room most : ℕ) (way : List ℕ) → IsReadable w → connection_of w k ≡ Some l
    → HasRoom (side_of w.server k) r
    → room ≡ unwrap_or r 0 → way ≡ l.toward → most ≡ min (length way) room → IsGreatest (λ n. Possible w (ToServer k n)) most
can_arrive w k l r room most way readable at has roomy same is = grind (arith, common_steps)

-- how many can reach the other side, while that is live
pub can_come : (w : World) (k : ℕ) (l : Connection) (way : List ℕ) → connection_of w k ≡ Some l → IsTrue l.other → way ≡ l.back
    → IsGreatest (λ n. Possible w (ToClient k n)) (length way)
can_come w k l way at other same = grind (arith, common_steps)

-- once that is over nothing reaches it
pub cannot_come : (w : World) (k : ℕ) (l : Connection) → connection_of w k ≡ Some l → l.other ≡ false → IsGreatest (λ n. Possible w (ToClient k n)) 0
cannot_come w k l at other = grind (arith, common_steps)

-- all that is told of a connection
pub way_told : (w v : World) (k : ℕ) (l : Connection) (r : Option ℕ) (room most back : ℕ) (way : List ℕ) → w ≡ v → IsReadable v → connection_of w k ≡ Some l
    → HasRoom (side_at w.server.sides k) r → room ≡ unwrap_or r 0 → way ≡ l.toward → most ≡ min (length way) room
    → IsGreatest (λ n. Possible w (ToClient k n)) back → IsOnWay v k (Some (most, back))
way_told w v k l r room most back way same readable at has is toward least comes =
    let roomy = subst (λ (o : Option ServerConnection). HasRoom o r) (side_found w.server k) has in
    subst (λ (x : World). IsOnWay x k (Some (most, back))) same
    (l, at, can_arrive w k l r room most way (subst IsReadable (sym same) readable) at roomy is toward least, comes)
