-- While no foreign session opened the reel of a count since, no session but the count's own wrote on it.
-- A counted reel is not reopened if nobody opened it since, or only the client's own later attempts did.
use Rattle.world_model.proofs.Basics.{◌≡◌, ℕ, ◌+◌, ◌≤◌, length, take, Some, Contains, sym, ap, ◌∙◌, inl, inr, arith, eqb_tells, same_Some, List, subst}
use Rattle.world_model.proofs.Terms.{World, AttemptState, Count, Writing, opening, HasDump, IsNotReopened, IsUnopenedSince, AreWritersLast, AreTold, AreLateWriters, AreStopped, IsAtStep, Step, Stage, Connection, Begun, WorldClient, side_of, IsAlone, IsConnectionToldAt, OwnOpens, IsWorldKept}
use Rattle.world_model.proofs.Numbers.{less_or_more, numbered_within, numbered_there, numbered_first}
use Rattle.world_model.proofs.Opened.{front_in, in_front, last_alone}

-- no more was carried out than was sent, and at most one request fewer
pub few_carried : (w : World) (k : ℕ) (d : AttemptState) → AreTold w → HasDump w k d → (d.carried ≤ d.sent) × (d.sent ≤ d.carried + 1)
few_carried w k d told has = elim ((told.each k has.0 has.1).sent d has.2) [
  | inl settled ↦ (let same = settled.sent in (omega (arith, same), omega (arith, same)))
  | inr (b, step, begun, pending) ↦ (let one = pending.sent in (omega (arith, one), omega (arith, one)))
]

-- A writer that opened the reel later is one of the same run, which was stopped before it could write.
pub not_reopened_alone : (w : World) (x : Count) → AreTold w → AreWritersLast w → AreLateWriters w → AreStopped w → Contains w.counts x → (not_reopened : IsNotReopened w x)
    → (y : Writing) → Contains w.writings y → y.reel ≡ x.reel → not_reopened.0 ≤ y.after → y.connection ≡ x.connection
not_reopened_alone w x told writers late stopped counted (i, at, own_open) y among its since = by_place (writers y among)
  where
    by_place : (y.after ≤ length w.opens) × IsUnopenedSince (take y.after w.opens) y.connection y.reel → y.connection ≡ x.connection
    by_place (within, (m, there, later)) =
        let front = in_front w.opens y.after i (opening x.connection x.reel) within since at in
        let whole = front_in w.opens y.after m (opening y.connection y.reel) there in
        elim (eqb_tells m i) [
          | inl (equal, same) ↦ grind (arith, same_Some)
          | inr (unequal, other) ↦ absurd (elim (less_or_more m i other) [
            | inl less ↦ later i (opening x.connection x.reel) less front (sym its)
            | inr more ↦ (
                let f = own_open m (opening y.connection y.reel) more whole its in
                let few = stopped x y.connection f.0 counted (i, at, own_open) (i, m, at, more, whole ∙ ap (λ r. Some (opening y.connection r)) its) f.1 in
                omega (arith, few, late y f.0 among f.1, (few_carried w y.connection f.0 told f.1).0))
          ])
        ]

pub unopened : (w : World) (x : Count) → IsUnopenedSince w.opens x.connection x.reel → IsNotReopened w x
unopened w x (i, at, none) = (i, at, λ m o later is same. absurd (none m o later is same))

pub unwritten : (w : World) (k : ℕ) (reel : List ℕ) → IsWorldKept w → IsUnopenedSince w.opens k reel → IsAlone w k reel
unwritten w k reel kept = last_alone w k reel kept.writers

-- the own connection is of the client's run
own_number : (begun : List Begun) (w : World) (k : ℕ) (l : Connection) (c : WorldClient) (d : AttemptState) (stage : Stage)
    → IsConnectionToldAt stage begun (side_of w.server k) l c d → (step : Step) → IsAtStep stage step → d.run ≡ c.number
own_number begun w k l c d stage given step at = grind arith

pub own_opens : (w : World) → IsWorldKept w → OwnOpens w
own_opens w kept k i c step o x v own is at other there its run among volume first =
    let ((l, d, linked, live, dump), rest) = kept.owned.own k own in
    let number = own_number w.begun w k l c d c.at.stage ((kept.told.each k l linked).own d c dump own is) step at in
    let within = numbered_within w.opens i o there in
    let (list, listed) = numbered_there w.lists i (numbered_first w.opens i o there) (subst (λ n. i ≤ n) (sym kept.not_reopened.paired) within) in
    grind arith
