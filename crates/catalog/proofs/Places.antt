-- The places of lines: sorted, searched, and walked from the last one.
use Rattle.std.proofs.Common.{◌≡◌, ◌↔◌, Option, Some, None, IsSome, ℕ, ◌+◌, ◌*◌, ◌-◌, ◌^◌, ◌<◌, ◌≤◌, ◌⊎◌, inl, inr, ⊎_elim, List, [], ◌∷◌, All, ◌++◌, zero-add, take, drop, length-take, length-take-le, length-drop, get_or-take, get_or-drop, get_or, length, refl, sym, ap, subst, ◌∙◌, arith}
use Rattle.std.specs.List.Sorted.{IsNonDecreasingBy, IsPermutation}
use Rattle.std.proofs.lemmas.Bool.{true≢false}
use Rattle.std.proofs.lemmas.List.{get_or_append_left, get_or_default, get_or_push, length_push, take_all}
use Rattle.std.proofs.lemmas.List.Sorted.{All-permutation, Contains-permutation}
use Rattle.dump_run.specs.DumpId.{PlainId}
use Rattle.catalog.specs.Line.{line_id}
use Rattle.catalog.specs.Places.{AreInOrder, ArePlaces, HasLinesOf, IsFirstAbove, IsFirstFrom, key_of, place}
use Rattle.dump_run.specs.Label.{PlainLabel, id_of}
use Rattle.catalog.specs.Run.{Begins, FindsLast, HasNone, IsLast, IsPastBegun, IsUpTo}
use Rattle.catalog.specs.Verdict.{HasSum, IsSumOf}
use Rattle.catalog.specs.declared.line.CatalogLine.TheVariants.{Begun, Volume, Finished}
use Rattle.catalog.specs.declared.line.CatalogLine.{CatalogLine}
use Rattle.catalog.specs.declared.place.Place.{Place}

order : (m n : ℕ) → (m < n) ⊎ (n ≤ m)
order m n = grind arith

-- what the places are sorted by
abbrev pub packed : Place → ℕ
packed p = p.key * 18446744073709551616 + p.at

pub sorted_by : (lines : List CatalogLine) (unsorted sorted : List Place) → AreInOrder lines unsorted (length lines) → IsPermutation unsorted sorted
    → IsNonDecreasingBy packed sorted → ArePlaces lines sorted
sorted_by lines unsorted sorted in_order moved up =
    let small = All-permutation (λ p. p.at < 2 ^ 64) unsorted sorted moved in_order.0 in (
      λ i j d le lt. omega (arith, up i j d le lt, small i d (omega (arith, le, lt)), small j d lt),
      λ i j d le lt same. omega (arith, up i j d le lt, same),
      λ at l lt.
          (let p = place (key_of (line_id (get_or lines at l))) at in
          Contains-permutation unsorted sorted p moved (at, omega (arith, lt, in_order.1), in_order.2 at l p lt)),
    )

pub one_more : (lines : List CatalogLine) (places more : List Place) (n key : ℕ) → AreInOrder lines places n → n < 2 ^ 64
    → ((l : CatalogLine) → key ≡ key_of (line_id (get_or lines n l))) → more ≡ places ++ place key n ∷ [] → AreInOrder lines more (n + 1)
one_more lines places more n key in_order small is pushed = subst (λ m. AreInOrder lines m (n + 1)) (sym pushed) (
  λ k d lt. ⊎_elim
      (λ early. subst (λ p. p.at < 2 ^ 64) (sym (get_or_append_left places (place key n ∷ []) d k (omega (arith, early, in_order.1)))) (in_order.0 k d (omega (arith, early, in_order.1))))
      (λ late.
      (let long = length_push places (place key n) in
      subst (λ p. p.at < 2 ^ 64) (sym (get_or_push places (place key n) d k (omega (arith, late, lt, long, in_order.1)))) small))
      (order k n),
  length_push places (place key n) ∙ ap (λ m. m + 1) in_order.1,
  λ k l d lt. ⊎_elim
      (λ early. get_or_append_left places (place key n ∷ []) d k (omega (arith, early, in_order.1)) ∙ in_order.2 k l d early)
      (λ late.
      (let same : k ≡ n = omega (arith, late, lt) in
      get_or_push places (place key n) d k (omega (arith, same, in_order.1)) ∙ ap (λ x. place x n) (is l)
      ∙ ap (λ m. place (key_of (line_id (get_or lines m l))) m) (sym same)))
      (order k n),
)

-- the places of the key of a dump
pub found : (lines : List CatalogLine) (places from : List Place) (id : PlainId) (number at to : ℕ) → from ≡ take (length places - at) (drop at places)
    → number ≡ key_of id → IsFirstFrom places number at → IsFirstAbove from number to → ArePlaces lines places → HasLinesOf lines 0 (take to from) id
found lines places from id number at to back is_key first above are =
    let rest : from ≡ drop at places = back ∙ take_all (length places - at) (drop at places) (omega (arith, length-drop at places)) in
    let long : length from ≡ length places - at = ap length rest ∙ length-drop at places in
    let short : length (take to from) ≡ to = length-take-le to from above.0 in
    let read : (i : ℕ) (d : Place) → i < to → get_or (take to from) i d ≡ get_or places (at + i) d =
    λ i d lt. get_or-take to from i d lt ∙ ap (λ f. get_or f i d) rest ∙ get_or-drop at places i d in
    let key : (i : ℕ) (d : Place) → i < to → (get_or places (at + i) d).key ≡ number =
    λ i d lt. (let below = above.1 i d lt in let same = ap (λ p. p.key) (ap (λ f. get_or f i d) rest ∙ get_or-drop at places i d) in
    omega (arith, below, same, first.2 (at + i) d (omega arith) (omega (arith, lt, above.0, long, first.0)))) in (
      λ i j d le lt.
          omega
          (arith, ap (λ p. p.at) (read i d (omega (arith, le, lt, short))), ap (λ p. p.at) (read j d (omega (arith, lt, short))), are.1 (at + i) (at + j) d (omega (arith, le)) (omega (arith, lt, short, above.0, long, first.0)) (key i d (omega (arith, le, lt, short)) ∙ sym (key j d (omega (arith, lt, short))))),
      λ k l lt is none.
          (let p = place (key_of (line_id (get_or lines k l))) k in
          let has = are.2 k l lt in
          let same : (get_or places has.0 p).key ≡ number = ap (λ q. q.key) has.2 ∙ ap key_of is ∙ sym is_key in
          ⊎_elim
          (λ early. omega (arith, same, first.1 has.0 p early))
          (λ late.
          (let i = has.0 - at in
          let on : at + i ≡ has.0 = omega (arith, late) in
          ⊎_elim
          (λ inside. none i p (omega (arith, inside, short)) (ap (λ q. q.at) (read i p inside ∙ ap (λ m. get_or places m p) on ∙ has.2) ∙ sym (zero-add k)))
          (λ outside.
          (let there = ap (λ q. q.key) (ap (λ f. get_or f i p) rest ∙ get_or-drop at places i p ∙ ap (λ m. get_or places m p) on) in
          omega (arith, same, there, above.2 i p outside (omega (arith, long, late, has.1)))))
          (order i to)))
          (order has.0 at)),
    )

-- no place from this one on is that of a line of this kind
abbrev pub NoneFrom : (CatalogLine → Type 0) → List CatalogLine → ℕ → List Place → ℕ → Type 0
NoneFrom Kind lines base places left =
    (j k : ℕ) (d : Place) (l : CatalogLine) → left ≤ j → j < length places → (get_or places j d).at ≡ base + k → k < length lines → Kind (get_or lines k l) → ⊥

pub last_by : (Kind : CatalogLine → Type 0) (lines : List CatalogLine) (base : ℕ) (places : List Place) (id : PlainId) (left at : ℕ) (e : Place) → ((l : CatalogLine) → Kind l → line_id l ≡ id)
    → HasLinesOf lines base places id → left < length places → (get_or places left e).at ≡ base + at → at < length lines
    → (x : CatalogLine) → x ≡ get_or lines at x → Kind x → NoneFrom Kind lines base places (left + 1) → IsLast Kind lines at
last_by Kind lines base places id left at e of has inside is within x there_is kind none = record {
  within = within;
  is = λ l. subst Kind (there_is ∙ get_or_default lines at x l within) kind;
  last = λ k l after short is_so. has.1 k l short (of (get_or lines k l) is_so) (λ j d jn there.
      ⊎_elim
      (λ later. none j k d l (omega (arith, later)) jn there short is_so)
      (λ early. omega (arith, early, has.0 j left d (omega (arith, early)) inside, there, ap (λ p. p.at) (get_or_default places left d e inside), is, after))
      (order left j));
}

pub none_by : (Kind : CatalogLine → Type 0) (lines : List CatalogLine) (base : ℕ) (places : List Place) (id : PlainId) → ((l : CatalogLine) → Kind l → line_id l ≡ id)
    → HasLinesOf lines base places id → NoneFrom Kind lines base places 0 → HasNone Kind lines
none_by Kind lines base places id of has none k l short is_so =
    has.1 k l short (of (get_or lines k l) is_so) (λ j d jn there. none j k d l (omega arith) jn there short is_so)

-- one place more
pub none_more : (Kind : CatalogLine → Type 0) (lines : List CatalogLine) (base : ℕ) (places : List Place) (left : ℕ) (e : Place) → NoneFrom Kind lines base places (left + 1)
    → ((k : ℕ) (l : CatalogLine) → (get_or places left e).at ≡ base + k → k < length lines → Kind (get_or lines k l) → ⊥)
    → NoneFrom Kind lines base places left
none_more Kind lines base places left e none here j k d l from jn there short is_so =
    ⊎_elim
    (λ later. none j k d l (omega (arith, later)) jn there short is_so)
    (λ early.
    (let same : j ≡ left = omega (arith, early, from) in
    let at : (get_or places left e).at ≡ base + k = ap (λ p. p.at) (ap (λ i. get_or places i e) (sym same) ∙ get_or_default places j e d jn) ∙ there in
    here k l at short is_so))
    (order left j)

-- the lines before one, and those after it
pub has_before : (lines : List CatalogLine) (places : List Place) (id : PlainId) (at : ℕ) → HasLinesOf lines 0 places id → HasLinesOf (take at lines) 0 places id
has_before lines places id at has = (
  has.0,
  λ k l short is none. let long = length-take at lines in has.1 k l (omega (arith, long, short)) (sym (ap line_id (get_or-take at lines k l (omega (arith, long, short)))) ∙ is) none,
)

pub has_after : (lines : List CatalogLine) (places : List Place) (id : PlainId) (at : ℕ) → HasLinesOf lines 0 places id
    → HasLinesOf (take (length lines - at) (drop at lines)) at places id
has_after lines places id at has =
    subst
    (λ after. HasLinesOf after at places id)
    (sym (take_all (length lines - at) (drop at lines) (omega (arith, length-drop at lines)))) (
      has.0,
      λ k l short is none. (let long = length-drop at lines in
          has.1 (at + k) l (omega (arith, long, short)) (sym (ap line_id (get_or-drop at lines k l)) ∙ is) (λ j d jn there. none j d jn (omega (arith, there)))),
    )

-- a line of these kinds is of the dump
pub begins_id : (id : PlainId) (l : CatalogLine) → Begins id l → line_id l ≡ id
begins_id id (Begun b) is = is
begins_id id (Volume v) is = absurd is
begins_id id (Finished f) is = absurd is

pub up_to_id : (id : PlainId) (number : ℕ) (l : CatalogLine) → IsUpTo id number l → line_id l ≡ id
up_to_id id number (Begun b) is = absurd is
up_to_id id number (Volume v) is = is.0
up_to_id id number (Finished f) is = absurd is

pub past_begun_id : (id : PlainId) (l : CatalogLine) → IsPastBegun id l → line_id l ≡ id
past_begun_id id (Begun b) is = absurd is
past_begun_id id (Volume v) is = is
past_begun_id id (Finished f) is = is

pub sum_id : (label : PlainLabel) (sum : List ℕ) (l : CatalogLine) → IsSumOf label sum l → line_id l ≡ id_of label
sum_id label sum (Begun b) is = absurd is
sum_id label sum (Volume v) is = ap id_of is.0
sum_id label sum (Finished f) is = absurd is

-- a line with this label and this sum, and none
pub has_one : (lines : List CatalogLine) (label : PlainLabel) (sum : List ℕ) (at : ℕ) (d : CatalogLine) → IsLast (IsSumOf label sum) lines at → HasSum lines label sum
has_one lines label sum at d last =
    let x = get_or lines at d in (at, x, last.within, get_or_default lines at x d last.within, last.is d)

pub has_no : (lines : List CatalogLine) (label : PlainLabel) (sum : List ℕ) → HasNone (IsSumOf label sum) lines → HasSum lines label sum → ⊥
has_no lines label sum none has = none has.0 has.1 has.2 (subst (IsSumOf label sum) (sym has.3) has.4)

pub sum_by : (lines : List CatalogLine) (label : PlainLabel) (sum : List ℕ) (found : Option ℕ) → FindsLast (IsSumOf label sum) lines found
    → IsSome found ↔ HasSum lines label sum
sum_by [] label sum None none = (λ some. absurd (true≢false (sym some)), λ has. absurd (has_no [] label sum none has))
sum_by (x ∷ lines) label sum None none = (λ some. absurd (true≢false (sym some)), λ has. absurd (has_no (x ∷ lines) label sum none has))
sum_by [] label sum (Some at) last = absurd (omega (arith, last.within))
sum_by (x ∷ lines) label sum (Some at) last = (λ some. has_one (x ∷ lines) label sum at x last, λ has. refl)

-- the places of a dump, for its id as another value has it
pub same_lines : (lines others : List CatalogLine) (base : ℕ) (places : List Place) (id same : PlainId) → lines ≡ others → id ≡ same → HasLinesOf lines base places id
    → HasLinesOf others base places same
same_lines lines others base places id same l i has = subst (λ ls. HasLinesOf ls base places same) l (subst (λ d. HasLinesOf lines base places d) i has)
