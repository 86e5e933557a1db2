-- Each step at the table keeps the rule.
use Rattle.std.proofs.Common.{get_or-set_same}
use Rattle.std.proofs.lemmas.Bool.Decides.{nat_tests}
use mathlib.Core.Option.{none}
use prog.Atomic.{either}
use Rattle.atomic_table.specs.Table.{step, keeps, Allows, Splits, Joins, Enters}
use Rattle.atomic_table.proofs.Lists.{set_again, set_else}
use Rattle.hold_table.specs.Keeping.{TakesAt, GivesAt, LooksAt, ComparesAt, EntersAt}
use Rattle.hold_table.proofs.Names.{◌≡◌, ◌≢◌, ℕ, ◌-◌, ◌<◌, ◌≤◌, Bool, true, false, cond, eqb, List, [], ◌∷◌, ◌++◌, length, replicate, get_or, set, length-set, set-get_or}
use Rattle.hold_table.proofs.Names.{sym, refl, ap, ◌∙◌, subst, subst₂, arith, some, get_elem?, State, DRIVE_LIMIT, SEAT_LIMIT, Take, Give, Look, StepKind, has, last_step, newcomer, moved, taken, given, looked, Seated, seated}
use Rattle.hold_table.proofs.Names.{SeatGroup, AtomicSeat, first_of, second_of, others_of, IsLed, IsFound, group_views, settled, following, stepped, IsTableKept, IsInGroup, AreGrouped, KeepsRule, FindsAs, IsRuledStep}
use Rattle.hold_table.proofs.Keeps.{finds_as, in_words, found_holder, Leaves, placed, look_leaves, take_leaves, give_leaves, deals_one, opens_one}
use Rattle.hold_table.proofs.Spread.{spread_moved, spread_more, spread_joined, spread_entered, spread_split, spread_first}
use Rattle.hold_table.proofs.Ended.{group_tells}

-- the table as the kit has it
abbrev St : Type 0
St = State (Unit {0}) SeatGroup

abbrev Rule : ℕ → St → Type 0
Rule drives s = KeepsRule drives s.words s.views

-- a table that is kept keeps the rule, for seats that lie in these groups
rules_kept : {drives : ℕ} {words : List ℕ} {seats : List Seated} {c : List SeatGroup} → IsTableKept drives words seats → AreGrouped seats c → KeepsRule drives words c
rules_kept {seats = seats} kept spread = record { seats = seats; kept = kept; rule = in_words kept; spread = spread }

-- a seat in one group with another, its first witness
pub pair_of : (m a b : AtomicSeat) → m ≡ (first_of a.0 ∷ first_of b.0 ∷ others_of a.0, a.1) → IsLed a → m ≡ (first_of a.0 ∷ first_of b.0 ∷ others_of a.0, [])
pair_of m a b e led = e ∙ ap (λ (n : AtomicSeat). (first_of a.0 ∷ first_of b.0 ∷ others_of a.0, n.1)) led

module _ (drives : ℕ) (s : St) (rs : Rule drives s) (id : ℕ) (me : AtomicSeat) (led : IsLed me) (at : get_elem? s.views id ≡ some me.0) where
  lies : get_elem? s.views id ≡ some (first_of me.0 ∷ others_of me.0)
  lies = at ∙ ap (λ (m : AtomicSeat). some m.0) led

  mine : get_elem? rs.seats ((first_of me.0).view.number - 1) ≡ some (first_of me.0)
  mine = rs.spread.known id 0 (first_of me.0) (first_of me.0 ∷ others_of me.0, lies, refl)

  -- what the word of a drive says of the group
  tells : (d : ℕ) → IsFound (get_or s.words d 0) d (group_views (first_of me.0 ∷ others_of me.0))
  tells = group_tells drives id (first_of me.0 ∷ others_of me.0) s rs lies

  -- The seat steps. The rule is kept, and the step is known to be one under the rule.
  one_step : (kind : StepKind) (d found m : ℕ) (held' : List Bool) → d < drives → get_or s.words d 0 ≡ found → Leaves rs.seats (first_of me.0) d found m held'
      → KeepsRule drives (set s.words d m) (set s.views id (stepped (first_of me.0) (moved (first_of me.0).view held' (last_step kind d found)) ∷ others_of me.0))
      × IsRuledStep d (first_of me.0).view (first_of me.0).made found m (moved (first_of me.0).view held' (last_step kind d found))
  one_step kind d found m held' small finds leaves =
      let x : Seated = first_of me.0 in let p : ℕ = x.view.number - 1 in let w : Seated = stepped x (moved x.view held' (last_step kind d found)) in
      let size = rs.kept.size in let inside : d < length s.words = omega arith in
      let kept : IsTableKept drives (set s.words d m) (set rs.seats p w) = placed rs.kept p x mine kind d found m held' inside finds leaves in (
        rules_kept kept (spread_moved rs.spread rs.rule id x w (others_of me.0) refl lies),
        record {
          words = s.words;
          seats = rs.seats;
          place = p;
          spare = x.spare;
          inside = inside;
          before = rs.rule;
          at = mine;
          finds = finds;
          after = in_words kept;
        },
      )

pub takes : (drives slots id : ℕ) (me : AtomicSeat) (d n : ℕ) → d < drives → IsLed me → (first_of me.0).view.number ≡ n
    → Allows (Rule drives) slots id me d (λ f. either (eqb f 0) n f) (TakesAt (step slots d 0 n none) me)
takes drives slots id me d n small led is s rs _ at _ =
    let x : Seated = first_of me.0 in let r = rs.kept in let f : ℕ = get_or s.words d 0 in let w : Seated = stepped x (taken x.view d f) in
    let own = mine drives s rs id me led at in let number = (r.numbered (x.view.number - 1) x own).number in
    let few = r.few in let known = r.known d in let wide = (r.numbered (x.view.number - 1) x own).marks in let most = r.small in
    let made = one_step drives s rs id me led at Take d f (cond (eqb f 0) x.view.number f) (cond (eqb f 0) (set x.view.held d true) x.view.held) small refl
    (take_leaves r (x.view.number - 1) x own d f refl) in (
      w ∷ others_of me.0,
      keeps,
      tt,
      subst (λ (m : ℕ). KeepsRule drives (set s.words d (cond (eqb f 0) m f)) (set s.views id (w ∷ others_of me.0))) is made.0,
      (
        (ap (λ (m : AtomicSeat). (w ∷ others_of me.0, m.1)) led, refl, refl),
        omega arith,
        λ free. grind (arith, nat_tests, r.held (x.view.number - 1) x d own, get_or-set_same x.view.held d true false),
        made.1,
        tells drives s rs id me led at d,
      ),
    )

pub gives : (drives slots id : ℕ) (me : AtomicSeat) (d : ℕ) → d < drives → IsLed me → has (first_of me.0).view d ≡ true
    → Allows (Rule drives) slots id me d (λ _. 0) (λ _. GivesAt (step slots d 0 0 none) me 0)
gives drives slots id me d small led holds s rs _ at _ =
    let x : Seated = first_of me.0 in let own = mine drives s rs id me led at in let w : Seated = stepped x (given x.view d) in
    let made = one_step drives s rs id me led at Give d x.view.number 0 (set x.view.held d false) small
    ((finds_as rs.kept (x.view.number - 1) x d own).1 holds) (give_leaves rs.kept (x.view.number - 1) x own d) in
    (w ∷ others_of me.0, keeps, tt, made.0, ((ap (λ (m : AtomicSeat). (w ∷ others_of me.0, m.1)) led, refl, refl), made.1))

pub looks : (drives slots id : ℕ) (me : AtomicSeat) (d : ℕ) → d < drives → IsLed me
    → Allows (Rule drives) slots id me d (λ f. f) (LooksAt (step slots d 0 0 none) me)
looks drives slots id me d small led s rs _ at _ =
    let x : Seated = first_of me.0 in let own = mine drives s rs id me led at in let f : ℕ = get_or s.words d 0 in
    let w : Seated = stepped x (looked x.view d f) in let few = rs.kept.few in let known = rs.kept.known d in
    let made = one_step drives s rs id me led at Look d f f x.view.held small refl (look_leaves rs.kept (x.view.number - 1) x own d) in
    (w ∷ others_of me.0, keeps, tt, made.0, ((ap (λ (m : AtomicSeat). (w ∷ others_of me.0, m.1)) led, refl, refl), omega arith, sym (rs.kept.held (x.view.number - 1) x d own), made.1, tells drives s rs id me led at d))

pub deals : (drives id : ℕ) (c : SeatGroup) (x : Seated) → c ≡ x ∷ [] → 0 < x.spare → Splits (Rule drives) id c (settled (first_of c) ∷ []) (following (first_of c) ∷ [])
deals drives id c x alone more = subst (λ (g : SeatGroup). Splits (Rule drives) id g (settled (first_of g) ∷ []) (following (first_of g) ∷ [])) (sym alone) (λ s rs at.
    let own = rs.spread.known id 0 x (x ∷ [], at, refl) in let n = rs.kept.numbered (x.view.number - 1) x own in let number = n.number in let last = n.newest more in
    let size : length (set rs.seats (x.view.number - 1) (settled x)) ≡ length rs.seats = length-set rs.seats (x.view.number - 1) (settled x) in
    rules_kept (deals_one rs.kept (x.view.number - 1) x own more) (spread_more (spread_moved rs.spread rs.rule id x (settled x) [] refl at) (following x) (omega arith)))

-- the table is as it should be at the start
pub opens : (drives : ℕ) (words : List ℕ) → drives ≤ DRIVE_LIMIT → words ≡ replicate drives 0
    → KeepsRule drives words ((seated (newcomer 1) 0 (SEAT_LIMIT - 1) ∷ []) ∷ [])
opens drives words small is = rules_kept (opens_one drives words small is) (spread_first (seated (newcomer 1) 0 (SEAT_LIMIT - 1)) refl)

-- a group of no seat is made
pub enters : (drives slots d : ℕ) → Enters (Rule drives) slots d (λ n c. EntersAt (step slots d 0 0 none) ([], []) n (c, []))
enters drives slots d s rs _ _ = ([], rules_kept rs.kept (spread_entered rs.spread), refl)

-- the first seat of another group `w` is added to a group, after the seats of `l`
pub joins_at : (drives id other : ℕ) (l m w : SeatGroup) → w ≡ first_of w ∷ others_of w → Joins (Rule drives) id (l ++ m) other w (l ++ first_of w ∷ m) []
joins_at drives id other l m w led s rs at apart bt = rules_kept rs.kept
    (spread_joined rs.spread id other l m (others_of w) (first_of w) apart at (sym (set_else s.views id other (l ++ first_of w ∷ m) apart) ∙ bt ∙ ap some led))

-- it becomes the first witness of a seat
pub invites : (drives id other : ℕ) (c w : SeatGroup) → c ≡ first_of c ∷ others_of c → w ≡ first_of w ∷ others_of w
    → Joins (Rule drives) id c other w (first_of c ∷ first_of w ∷ others_of c) []
invites drives id other c w host guest = subst (λ (g : SeatGroup). Joins (Rule drives) id g other w (first_of c ∷ first_of w ∷ others_of c) []) (sym host)
    (joins_at drives id other (first_of c ∷ []) (others_of c) w guest)

-- the first witness of a seat goes out again
pub dismisses : (drives id : ℕ) (c : SeatGroup) (x y : Seated) (gs : SeatGroup) → c ≡ x ∷ y ∷ gs
    → Splits (Rule drives) id c (first_of c ∷ others_of (others_of c)) (second_of c ∷ [])
dismisses drives id c x y gs pair = subst (λ (g : SeatGroup). Splits (Rule drives) id g (first_of g ∷ others_of (others_of g)) (second_of g ∷ [])) (sym pair)
    (λ s rs at. rules_kept rs.kept (spread_split rs.spread id x y gs at))

-- two seats that lie at two places are apart, and the word is that of who holds the drive
pub compares : (drives slots id : ℕ) (me : AtomicSeat) (x y : Seated) (gs : SeatGroup) (d : ℕ) → me ≡ (x ∷ y ∷ gs, [])
    → Allows (Rule drives) slots id me d (λ f. f) (ComparesAt (step slots d 0 0 none) me)
compares drives slots id me x y gs d pair = subst (λ (m : AtomicSeat). Allows (Rule drives) slots id m d (λ f. f) (ComparesAt (step slots d 0 0 none) m)) (sym pair)
    (λ s rs _ at _.
    let one : IsInGroup s.views id 0 x = (x ∷ y ∷ gs, at, refl) in let two : IsInGroup s.views id 1 y = (x ∷ y ∷ gs, at, refl) in
    let a = rs.spread.known id 0 x one in let b = rs.spread.known id 1 y two in let few = rs.kept.few in let known = rs.kept.known d in
    let differ : x.view.number ≢ y.view.number = λ e. let same = (rs.spread.once id 0 x id 1 y one two e).1 in absurd (omega arith) in
    let hers : (e : ℕ) → FindsAs (get_or s.words e 0) e x = λ e. finds_as rs.kept (x.view.number - 1) x e a in
    let his : (e : ℕ) → FindsAs (get_or s.words e 0) e y = λ e. finds_as rs.kept (y.view.number - 1) y e b in (
      x ∷ y ∷ gs,
      keeps,
      tt,
      subst₂ (KeepsRule drives) (sym (set-get_or s.words d 0)) (sym (set_again s.views id (x ∷ y ∷ gs) at)) rs,
      (
        refl,
        omega arith,
        hers d,
        his d,
        (
          differ,
          λ e one two. differ (sym ((hers e).1 one) ∙ (his e).1 two),
          found_holder rs.kept (x.view.number - 1) x (y.view.number - 1) y a b,
          found_holder rs.kept (y.view.number - 1) y (x.view.number - 1) x b a,
        ),
      ),
    ))
