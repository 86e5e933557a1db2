-- The sides of a hall, where one is another, or over, or new.
use Rattle.world_model.proofs.Basics.{◌≡◌, ◌≢◌, ◌⊎◌, ℕ, zero, suc, [], ◌∷◌, Option, Some, ap, ◌∙◌, option_and_then, eqb_tells, arith}
use Rattle.world_model.proofs.Terms.{held, ServerState, ServerConnection, side, Idle, numbered, with_numbered, side_of, with_side, ended_from, ended, all_ended}
use Rattle.world_model.proofs.Numbers.{with_here, with_other, pushed_is, numbered_more}

-- the live side of that number, as a member
pub side_there : (h : ServerState) (k : ℕ) (s : ServerConnection) → side_of h k ≡ Some s → numbered h.sides k ≡ Some (Some s)
side_there h k s is = grind arith

-- the live side of one connection is another, or over
pub record Sits (h : ServerState) (k : ℕ) (s : ServerConnection) (o : Option ServerConnection) (u : ServerState) : Type 0 where
  pub was : side_of h k ≡ Some s
  pub sides : u.sides ≡ with_numbered h.sides k o

pub sits_here : (h : ServerState) (k : ℕ) (s : ServerConnection) (o : Option ServerConnection) (u : ServerState) → Sits h k s o u → side_of u k ≡ o
sits_here h k s o u t =
    ap (λ ss. option_and_then (λ x. x) (numbered ss k)) t.sides ∙ ap (option_and_then (λ x. x)) (with_here h.sides k (Some s) o (side_there h k s t.was))

pub sits_other : (h : ServerState) (k j : ℕ) (s : ServerConnection) (o : Option ServerConnection) (u : ServerState) → Sits h k s o u → j ≢ k → side_of u j ≡ side_of h j
sits_other h k j s o u t other =
    ap (λ ss. option_and_then (λ x. x) (numbered ss j)) t.sides ∙ ap (option_and_then (λ x. x)) (with_other h.sides k j o other)

-- a live side then: it is that one, or another's, which was there
pub sits_is : (h : ServerState) (k : ℕ) (s : ServerConnection) (o : Option ServerConnection) (u : ServerState) → Sits h k s o u → (j : ℕ) (x : ServerConnection) → side_of u j ≡ Some x
    → ((j ≡ k) × (o ≡ Some x)) ⊎ ((j ≢ k) × (side_of h j ≡ Some x))
sits_is h k s o u t j x at = grind (arith, eqb_tells j k, sits_here h k s o u t, sits_other h k j s o u t)

-- a side more has nothing open
pub joined_is : (h : ServerState) (k : ℕ) (s : ServerConnection) → side_of (with_side h) k ≡ Some s → (side_of h k ≡ Some s) ⊎ (side (held [] 0) Idle ≡ s)
joined_is h k s at = grind (arith, pushed_is h.sides (Some (side (held [] 0) Idle)) k (Some s) (side_there (with_side h) k s at))

pub joined_was : (h : ServerState) (k : ℕ) (s : ServerConnection) → side_of h k ≡ Some s → side_of (with_side h) k ≡ Some s
joined_was h k s at = ap (option_and_then (λ x. x)) (numbered_more h.sides (Some (side (held [] 0) Idle) ∷ []) k (Some s) (side_there h k s at))

-- what stays so of a hall of which a side is over stays so once one is, or all
abbrev pub KeepsOver : (ServerState → Type 0) → Type 0
KeepsOver P = (h : ServerState) (k : ℕ) (s : ServerConnection) → side_of h k ≡ Some s → P h → P (ended_from h k (Some s))

pub ended_by : (P : ServerState → Type 0) → KeepsOver P → (h : ServerState) (k : ℕ) → P h → P (ended h k)
ended_by P over h k p = grind (arith, over h k)

pub all_ended_by : (P : ServerState → Type 0) → KeepsOver P → (h : ServerState) (n : ℕ) → P h → P (all_ended h n)
all_ended_by P over h zero p = p
all_ended_by P over h (suc n) p = ended_by P over (all_ended h n) (suc n) (all_ended_by P over h n p)
