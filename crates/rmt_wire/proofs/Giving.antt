-- A reader of requests returns exactly the request that the bytes begin with. So a stream is read in one way.
use Rattle.rmt_wire.proofs.Words.{Err, List, None, Ok, Option, Result, Some, [], ap, arith, inl, inr, length, length-append, refl, subst, suc, sym, zero, ℕ, ⊎_elim, ◌++◌, ◌<◌, ◌∙◌, ◌∷◌, ◌≡◌, ◌≤◌, ◌⊎◌, line_feed, IsLine, Parsed, PlainRequest, SpellsRequest, HasFault, ParsesAs, Spelled, Parts, EndsInNumber, EndsInFullLine, IsCause, IsRequestPrefix, front_of, head_of, taken_of, WireFault, READER_LIMIT}
use Rattle.rmt_wire.proofs.Grammars.{Hopeless, Gives, answer_to, rest_behind, shorter, first_same, gives_of, faulty_always, room_of, one_gift}
use Rattle.rmt_wire.proofs.Texts.{ended_len, open_len}
use Rattle.rmt_wire.proofs.Requests.{request_grammar, request_seen, request_view}

-- a fault of requests is one of their grammar
pub fault_of : (bytes : List ℕ) (fault : WireFault) → HasFault bytes fault → Hopeless request_grammar bytes fault
fault_of bytes fault f = search

-- what is given of the grammar is given of requests
parses : (bytes : List ℕ) (answer : Parsed PlainRequest) (rest : List ℕ) → Gives request_grammar bytes answer rest → ParsesAs bytes answer rest
parses bytes (Err fault) rest g = search
parses bytes other rest g = g

-- and the other way round
pub parsed : (bytes : List ℕ) (answer : Parsed PlainRequest) (rest : List ℕ) → ParsesAs bytes answer rest → Gives request_grammar bytes answer rest
parsed bytes (Err fault) rest g = (fault_of bytes fault g.0, g.1, g.2)
parsed bytes other rest g = g

-- what the bytes begin with is what a reader is to give
pub gives : (bytes : List ℕ) (seen : Parsed (PlainRequest × ℕ)) → front_of bytes ≡ seen → ParsesAs bytes (answer_to seen) (rest_behind seen bytes)
gives bytes seen e = parses bytes (answer_to seen) (rest_behind seen bytes) (gives_of request_grammar request_seen bytes seen (request_view bytes) e)

-- where a beginning is all that there is, there is room for more
pub room : (bytes : List ℕ) → front_of bytes ≡ Ok None → taken_of bytes < READER_LIMIT
room bytes e = room_of request_grammar bytes (request_view bytes) e

-- a fault is seen whatever follows
pub always_faulty : (bytes : List ℕ) (fault : WireFault) (more : List ℕ) → front_of bytes ≡ Err fault → front_of (bytes ++ more) ≡ Err fault
always_faulty bytes fault more e = faulty_always request_grammar bytes fault more (request_view bytes) e

-- a spelling has a letter at least
spelled_some : (text : List ℕ) (request : PlainRequest) → SpellsRequest text request → 0 < length text
unfolding front_of head_of
spelled_some [] request s = let h : ◌≡◌ {A = Parsed (PlainRequest × ℕ)} (Ok None) (Ok (Some (request, 0))) = request_seen [] [] request s in absurd (cc)
spelled_some (b ∷ text) request s = omega arith

-- what is given is let go
pub given_shrinks : (bytes rest : List ℕ) (request : PlainRequest) → ParsesAs bytes (Ok (Some request)) rest → length rest < length bytes
given_shrinks bytes rest request g = omega (arith, spelled_some g.0 request g.1, ap (length {A = ℕ}) g.2, length-append g.0 rest)

pub one_parts : (bytes rest other : List ℕ) (requests others : List PlainRequest) → Parts bytes requests rest → Parts bytes others other
    → (requests ≡ others) × (rest ≡ other)
one_parts bytes rest other [] [] p q = (refl, sym p.0 ∙ q.0)
one_parts bytes rest other [] (r ∷ others) p q = absurd (p.1 q.0.0 q.0.1 r (sym p.0 ∙ q.0.3) q.0.2)
one_parts bytes rest other (r ∷ items) [] p q = absurd (q.1 p.0.0 p.0.1 r (sym q.0 ∙ p.0.3) p.0.2)
one_parts bytes rest other (r ∷ items) (r' ∷ others) p q =
    let first = first_same request_grammar request_seen bytes p.0.0 p.0.1 q.0.0 q.0.1 r r' p.0.3 p.0.2 q.0.3 q.0.2 in
    let later = one_parts p.0.1 rest other items others (p.0.4, p.1) (subst (λ b. Spelled b others other) (sym first.1) q.0.4, q.1) in
    ((cc (first.0, later.0)), later.1)

-- no number after a device line ends in a full line
device_apart : (device digits : List ℕ) → IsLine device → length digits ≤ 10 → EndsInFullLine (79 ∷ (device ++ line_feed ∷ digits)) → ⊥
device_apart device digits d few l =
    let mine = ended_len device digits d.1 in
    let other = open_len l.0 l.2 in
    let end = λ (v : List ℕ) (i : IsLine v). ended_len v l.0 i.1 in
    grind (arith, mine, other, end, length-append {A = ℕ})

-- no beginning ends in a number and in a full line
apart : (seen : List ℕ) → EndsInNumber seen → EndsInFullLine seen → ⊥
apart seen n l =
    ⊎_elim (λ e. grind arith) (⊎_elim (λ e. grind arith) (⊎_elim (λ e. grind arith) (⊎_elim (λ w. grind arith)
    (λ w. device_apart w.0 n.0 w.1 n.2 (rw w.2 at l))))) n.3

cause_same : (seen : List ℕ) (byte : ℕ) (f g : WireFault) → IsCause seen byte f → IsCause seen byte g → f ≡ g
cause_same seen byte f g p q = grind (arith, apart seen)

pub one_answer : (bytes rest other : List ℕ) (answer another : Result (Option PlainRequest) WireFault) → ParsesAs bytes answer rest
    → ParsesAs bytes another other → (answer ≡ another) × (rest ≡ other)
one_answer bytes rest other answer another p q =
    one_gift request_grammar request_seen cause_same bytes rest other answer another (parsed bytes answer rest p) (parsed bytes another other q)

-- the bytes fall into requests and a rest, which is a beginning of one or has a fault
abbrev pub HasParts : List ℕ → Type 0
HasParts bytes = (requests : List PlainRequest) × (rest : List ℕ) × Parts bytes requests rest ×
    (IsRequestPrefix rest ⊎ ((fault : WireFault) × HasFault rest fault))

-- what is given first stands in front of the parts of what follows it, which is shorter
given_first : (bytes : List ℕ) (answer : Result (Option PlainRequest) WireFault) (rest : List ℕ)
    → ((later : List ℕ) → length later < length bytes → HasParts later)
    → ParsesAs bytes answer rest → HasParts bytes
given_first bytes (Ok None) rest shorter g = ([], bytes, (refl, g.1), inl g.0)
given_first bytes (Err fault) rest shorter g = ([], bytes, (refl, g.1), inr (fault, g.0))
given_first bytes (Ok (Some request)) rest shorter g =
    let later = shorter rest (given_shrinks bytes rest request g) in
    (request ∷ later.0, later.1, ((g.0, rest, g.1, g.2, later.2.0), later.2.1), later.3)

parts_below : (most : ℕ) (bytes : List ℕ) → length bytes < most → HasParts bytes
parts_below zero bytes short = absurd (omega arith)
parts_below (suc most) bytes short =
    given_first bytes (answer_to (front_of bytes)) (rest_behind (front_of bytes) bytes) (λ later less. parts_below most later (omega arith))
    (gives bytes (front_of bytes) refl)

pub some_parts : (bytes : List ℕ) → HasParts bytes
some_parts bytes = parts_below (suc (length bytes)) bytes (omega arith)
