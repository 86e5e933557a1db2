-- Reading a stream up to its next request.
use Rattle.rmt_wire.proofs.Words.{Bool, Err, List, None, Ok, Option, Result, Some, [], append_assoc, arith, false, is_some, length, not, refl, subst, sym, ℕ, ◌++◌, ◌+◌, ◌∷◌, ◌≡◌, ◌≤◌, Consumes-kept, Consumes-trans, Consumes, flat_map, PlainRequest, IsRequestPrefix, HasNoSpelling, RequestHeld, Unread, IsNext, plain_front_result, IsGiven, plain_next_result, IsFilled, IsNotFilled, Answers, IsReadNext, CountsNext, EndsAs, IsGivenWhole, GivesNext, IsSpelledIfSome, FallsIfSome, HasAnswered, GoesOn, most_left, plain_read_next_result, WireFault, READER_LIMIT, Request, StreamFault, Broken}
use Rattle.rmt_wire.proofs.Grammars.{none_past_fault}
use Rattle.rmt_wire.proofs.Requests.{request_grammar}
use Rattle.rmt_wire.proofs.Giving.{fault_of, gives}
use Rattle.rmt_wire.proofs.Given.{answered, answer_begun}

-- bytes with a fault are no beginning of a request
pub no_wait : (old new : RequestHeld) (fault : WireFault) (bytes : List ℕ) → IsNext old (Err fault) new → Unread old bytes → IsRequestPrefix bytes → ⊥
no_wait old new fault bytes n u o =
    let f = fault_of bytes fault (n.continues bytes u).2.0 in
    none_past_fault request_grammar bytes fault f f.later bytes f.split o

-- nor are those with a request
pub no_wait_unless_none : (old new : RequestHeld) (found : Option (Request × ℕ)) (b : Bool) (bytes : List ℕ) → IsNext old (plain_front_result (Ok found)) new
    → is_some found ≡ not b → b ≡ false
    → Unread old bytes → HasNoSpelling bytes → ⊥
no_wait_unless_none old new None b bytes n e f u h = absurd (cc)
no_wait_unless_none old new (Some found) b bytes n e f u h = let g = n.continues bytes u in h g.2.0 g.0 _ g.2.2 g.2.1

-- by what is given of all that was pushed, a conversation goes on
module _ (left left' : Option (List ℕ)) (came : List ℕ) (consumed : Consumes left left' came) where
  answers_on : {answer : PlainRequest → List ℕ} {first : Option (List ℕ)} {G G' : List ℕ → List PlainRequest → Type 0} {W W' : List ℕ → Type 0}
      (a : Answers answer first left G W)
      (requests : List PlainRequest) → G' (a.read ++ came) requests → W' (flat_map answer requests) → Answers answer first left' G' W'
  answers_on a requests given written =
      record { read = a.read ++ came; requests = requests; consumed = Consumes-trans _ _ _ a.read came a.consumed consumed; given = given; written = written }

  goes_on : (old new : RequestHeld) (result : Result (Option PlainRequest) StreamFault)
      → ((pushed : List ℕ) (requests : List PlainRequest) → IsGiven old pushed requests → GivesNext result left' new (pushed ++ came) requests)
      → (answer : PlainRequest → List ℕ) (first output output' : Option (List ℕ)) → HasAnswered answer first left old output output'
      → GoesOn result answer first left' new output output'
  goes_on old new (Ok (Some request)) gives answer first output output' a = (
    λ output'' w. answers_on a (a.requests ++ request ∷ []) (gives a.read a.requests a.given)
        (answered answer output output' output'' a.requests request a.written w),
    λ output'' w. answers_on a (a.requests ++ request ∷ []) (gives a.read a.requests a.given)
        (answer_begun answer output output' output'' a.requests request a.written w),
  )
  goes_on old new other gives answer first output output' a = answers_on a a.requests (gives a.read a.requests a.given) a.written

  -- what is unread then
  still_unread : (new : RequestHeld) (pushed : List ℕ) (requests : List PlainRequest) (result : Result (Option PlainRequest) StreamFault)
      → GivesNext result left' new pushed requests → (rest : List ℕ) × Unread new rest
  still_unread new pushed requests (Ok (Some request)) g = (g.0, g.1)
  still_unread new pushed requests (Ok None) g = (g.0, g.1)
  still_unread new pushed requests (Err fault) g = (g.0, g.1)

  is_read_next : (reads reads' : ℕ) (old new : RequestHeld) (result : Result (Option PlainRequest) StreamFault) → ((bytes : List ℕ) × Unread old bytes)
      → ((pushed : List ℕ) (requests : List PlainRequest) → IsGiven old pushed requests → GivesNext result left' new (pushed ++ came) requests)
      → IsSpelledIfSome result
      → FallsIfSome result (most_left reads old) (most_left reads' new) → IsReadNext left left' reads reads' old result new
  is_read_next reads reads' old new result unread gives spelled falls = record {
    came = came;
    consumed = consumed;
    gives_on = gives;
    answers = goes_on old new result gives;
    unread = still_unread new (unread.0 ++ came) [] result (gives unread.0 [] (unread.0, unread.1, refl));
    spelled = spelled;
    falls = falls;
  }

-- these bytes came of the stream, and what was given before stays given
pub record HasCome (left left' : Option (List ℕ)) (reads reads' : ℕ) (old new : RequestHeld) : Type 0 where
  pub came : List ℕ
  pub consumed : Consumes left left' came
  pub given : (pushed : List ℕ) (requests : List PlainRequest) → IsGiven old pushed requests → IsGiven new (pushed ++ came) requests
  pub falls : most_left reads' new ≤ most_left reads old

pub still_come : {left left' : Option (List ℕ)} {reads reads' : ℕ} {old now new : RequestHeld} → HasCome left left' reads reads' old now → new ≡ now
    → HasCome left left' reads reads' old new
still_come {left} {left'} {reads} {reads'} {old} h same = subst (HasCome left left' reads reads' old) (sym same) h

module _ {left mid : Option (List ℕ)} {reads reads' : ℕ} {old now : RequestHeld} (first : (bytes : List ℕ) × Unread old bytes)
    (h : HasCome left mid reads reads' old now) where
  pub unread_now : (rest : List ℕ) × Unread now rest
  unread_now = let g = h.given first.0 [] (first.0, first.1, refl) in (g.0, g.1)

  pub more_came : {left' : Option (List ℕ)} {reads'' count : ℕ} {new : RequestHeld} → IsFilled mid left' now new count → reads'' + 1 ≡ reads'
      → length new.kept ≤ READER_LIMIT
      → HasCome left left' reads reads'' old new
  more_came {new = new} f fewer most = record {
    came = h.came ++ f.came;
    consumed = Consumes-trans _ _ _ h.came f.came h.consumed f.consumed;
    given = λ pushed requests g.
        subst (λ b. IsGiven new b requests) (append_assoc pushed h.came f.came) (f.given (pushed ++ h.came) requests (h.given pushed requests g));
    falls = (let before = h.falls in omega arith);
  }

  -- nothing more came, and the bytes unread then end the stream so
  module _ (left' : Option (List ℕ)) (reads'' : ℕ) (new : RequestHeld) (n : IsNotFilled mid left' now new) where
    given_whole : (end : Result Unit StreamFault) → ((rest : List ℕ) → Unread now rest → EndsAs end left' rest)
        → (pushed : List ℕ) (requests : List PlainRequest) → IsGiven old pushed requests
        → IsGivenWhole end left' new (pushed ++ h.came) requests
    given_whole end ends pushed requests given =
        let g = h.given pushed requests given in
        (g.0, subst (λ held. Unread held g.0) (sym n.1) g.1, g.2, ends g.0 g.1)

    pub ended : ((rest : List ℕ) → Unread now rest → EndsAs (Ok tt) left' rest) → IsReadNext left left' reads reads'' old (Ok None) new
    ended ends = is_read_next _ _ h.came (Consumes-kept _ _ _ h.came h.consumed n.0) _ _ _ _ _ first (given_whole (Ok tt) ends) tt tt

    pub failed : (fault : StreamFault) → ((rest : List ℕ) → Unread now rest → EndsAs (Err fault) left' rest)
        → IsReadNext left left' reads reads'' old (Err fault) new
    failed fault ends = is_read_next _ _ h.came (Consumes-kept _ _ _ h.came h.consumed n.0) _ _ _ _ _ first (given_whole (Err fault) ends) tt tt

  pub next_given : (given : Option Request) (new : RequestHeld) → ((rest : List ℕ) → Unread now rest → ¬ (IsRequestPrefix rest × HasNoSpelling rest))
      → IsNext now (plain_next_result (Ok given)) new
      → IsReadNext left mid reads reads' old (plain_read_next_result (Ok given)) new
  next_given None new enough n =
      let rest = unread_now in
      let open_rest = n.continues rest.0 rest.1 in
      absurd (enough rest.0 rest.1 (open_rest.2.0, open_rest.2.1))
  next_given (Some request) new enough n =
      let rest = unread_now in
      let given = n.continues rest.0 rest.1 in
      let shrinks = n.shrinks in
      let before = h.falls in
      is_read_next _ _ h.came h.consumed _ _ _ _ _ first (λ pushed requests g. n.gives_on (pushed ++ h.came) requests (h.given pushed requests g))
      (given.2.0, given.2.1) (omega arith)

  pub next_broken : (fault : WireFault) (new : RequestHeld) → IsNext now (plain_next_result (Err fault)) new
      → IsReadNext left mid reads reads' old (Err (Broken fault)) new
  next_broken fault new n = is_read_next _ _ h.came h.consumed _ _ _ _ _ first
      (λ pushed requests g.
      let w = n.gives_on (pushed ++ h.came) requests (h.given pushed requests g) in
      (w.0, w.1, w.2, (w.3, w.4)))
      tt tt

-- what is no failed read counts no failure
pub counts_none : (given : Option Request) (failures failures' : ℕ) → failures' ≡ failures → CountsNext (plain_read_next_result (Ok given)) failures failures'
counts_none given failures failures' same = grind arith
