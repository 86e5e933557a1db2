-- A payload that is cut into blocks.
use Rattle.dump_run.proofs.Words.{◌≡◌, ℕ, zero, suc, ◌+◌, ◌*◌, ◌<◌, ◌≤◌, List, [], length, take, drop, refl, ◌∙◌, ap, arith, get_or, drop-drop, length-take-le, length-drop}
use Rattle.std.proofs.Math.Nat.{mul-le-mul_right}
use Rattle.dump_run.specs.Blocks.{HasBlock, cut_blocks}

pub length_cut : (n size : ℕ) (payload : List ℕ) → length (cut_blocks n size payload) ≡ n
length_cut zero size payload = refl
length_cut (suc n) size payload = ap suc (length_cut n size (drop size payload))

-- block i begins after i blocks
pub block_at : (n size : ℕ) (payload : List ℕ) (i : ℕ) → i < n → get_or (cut_blocks n size payload) i [] ≡ take size (drop (i * size) payload)
block_at zero size payload i h = absurd (omega arith)
block_at (suc n) size payload zero h = grind arith
block_at (suc n) size payload (suc i) h = grind (arith, block_at n size (drop size payload) i, drop-drop (i * size) size payload)

-- and ends within the payload
pub block_within : (n size : ℕ) (payload : List ℕ) (i : ℕ) → length payload ≡ n * size → i < n → i * size + size ≤ length payload
block_within n size payload i all h = let whole : suc i * size ≤ n * size = mul-le-mul_right size h in omega arith

pub has_block : (n size : ℕ) (payload : List ℕ) (i : ℕ) → length payload ≡ n * size → i < n → HasBlock (cut_blocks n size payload) i size
has_block n size payload i all h = (
  omega (arith, length_cut n size payload),
  ap length (block_at n size payload i h)
      ∙ length-take-le size (drop (i * size) payload) (omega (arith, block_within n size payload i all h, length-drop (i * size) payload)),
)

pub size_cut : (n size : ℕ) (payload : List ℕ) → length payload ≡ n * size → (i : ℕ) → i < n → length (get_or (cut_blocks n size payload) i []) ≡ size
size_cut n size payload all i h = (has_block n size payload i all h).1
