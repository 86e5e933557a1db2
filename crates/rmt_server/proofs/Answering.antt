-- Requests answered one after another.
use Rattle.std.proofs.Common.{◌≡◌, ℕ, List, [], ◌∷◌, ◌++◌, take, Option, Some, None, Result, Ok, Err, refl, sym, subst, ◌∙◌, arith, append_assoc}
use Rattle.std.proofs.Common.{append-nil, Bool, IsTrue}
use Rattle.std.proofs.lemmas.List.{map-append}
use Rattle.std.proofs.lemmas.Grind.{flat_map-append}
use Rattle.std.proofs.KnownBytes.{Appends-nil, Appends-trans, Consumes-trans}
use Rattle.std.specs.Io.KnownBytes.{Appends, Consumes}
use Rattle.rmt_wire.proofs.Given.{spelled_more, spelled_then}
use Rattle.rmt_wire.specs.RequestReader.{dropped_line}
use Rattle.rmt_server.proofs.Names.{PlainRequest, SpellsRequest, Close, PlainReply, reply_text, ReplyHasSpelling, plain_request, RequestHeld, Unread}
use Rattle.rmt_server.proofs.Names.{IsNext, plain_next_result, Kinds, State, HasView, IsSayable, IsCarriedOut, MayFail, MayShare, SessionView}
use Rattle.rmt_server.proofs.Names.{ServeRun, no_steps, one_step, Exchange, requests_of, replies_text, IsAnswered, IsCutOff, Advances, AnswersAs}
use Rattle.rmt_server.proofs.Names.{CarryRun, IsSettled, none, one_more}
use Rattle.rmt_wire.specs.RequestParts.{Spelled}
use Rattle.rmt_wire.specs.RequestFill.{IsFilled}
use Rattle.rmt_wire.specs.Counted.{Counting, HasRisen}
use Rattle.std.specs.Result.{IsErr, IsErrAnd}
use Rattle.rmt_wire.specs.declared.reply.writer.OutputFault.{OutputFault}
use Rattle.rmt_wire.specs.declared.request.Request.{Request}
use Rattle.rmt_wire.specs.declared.fault.WireFault.{WireFault}
use Rattle.rmt_server.proofs.Sound.{may_share, may_find}
use Rattle.rmt_server.specs.declared.stream.Served.{Served}
use Rattle.rmt_server.specs.declared.stream.ServeFault.{ServeFault}
use Rattle.rmt_server.specs.declared.stream.ServeFault.TheVariants.{Output}

-- nothing yet
pub answered_none : (known : Option (List ℕ)) (bytes : List ℕ) → IsAnswered known known bytes [] bytes
answered_none known bytes = record { spelled = refl; written = Appends-nil known }

-- all replies but the last were written, and the reader holds the rest
pub record IsOwed (known now : Option (List ℕ)) (bytes : List ℕ) (last : Exchange) (wire : RequestHeld) (done : List Exchange) (rest : List ℕ)
    : Type 0 where
  pub spelled : Spelled bytes (requests_of done) rest
  pub before : List Exchange
  pub split : done ≡ before ++ last ∷ []
  pub written : Appends known now (replies_text before)
  pub unread : Unread wire rest

module _ {known now after : Option (List ℕ)} {bytes rest : List ℕ} {done : List Exchange} {last : Exchange} {wire : RequestHeld}
    (o : IsOwed known now bytes last wire done rest) where
  -- the last reply was written too
  pub all_written : Appends now after (reply_text last.1) → IsAnswered known after bytes done rest
  all_written w = record {
    spelled = o.spelled;
    written = rw (o.split, flat_map-append, append-nil) (Appends-trans known now after (replies_text o.before) (reply_text last.1) o.written w);
  }

  -- or a beginning of it
  pub cut_in_last : (n : ℕ) → Appends now after (take n (reply_text last.1)) → IsCutOff known after bytes done rest
  cut_in_last n w = record {
    spelled = o.spelled;
    before = o.before;
    last = last;
    split = o.split;
    count = n;
    written = Appends-trans known now after (replies_text o.before) (take n (reply_text last.1)) o.written w;
  }

-- what was answered first, and then more
module _ {W : Type 0} (contents : W → Option (List ℕ)) (output output' output'' : Counting W) (read rest piece : List ℕ) (done : List Exchange)
    (a : IsAnswered (contents output.inner) (contents output'.inner) read done rest) (later : List ℕ) (more : List Exchange) where
  both_spelled : Spelled (rest ++ piece) (requests_of more) later → Spelled (read ++ piece) (requests_of (done ++ more)) later
  both_spelled s =
      rw map-append (spelled_then (read ++ piece) (rest ++ piece) later (requests_of done) (requests_of more)
      (spelled_more read rest piece (requests_of done) a.spelled) s)

  both_written : (text : List ℕ) → Appends (contents output'.inner) (contents output''.inner) text
      → Appends (contents output.inner) (contents output''.inner) (replies_text done ++ text)
  both_written text w = Appends-trans _ _ _ (replies_text done) text a.written w

  pub answers_then : (result : Result (Option WireFault) OutputFault) (wire : RequestHeld) → output'.failures ≡ output.failures
      → AnswersAs contents result output' output'' wire (rest ++ piece) more later
      → AnswersAs contents result output output'' wire (read ++ piece) (done ++ more) later
  answers_then (Ok None) wire steady q =
      (record { spelled = both_spelled q.0.spelled; written = rw flat_map-append (both_written _ q.0.written) }, q.1)
  answers_then (Ok (Some fault)) wire steady q =
      (record { spelled = both_spelled q.0.spelled; written = rw flat_map-append (both_written _ q.0.written) }, q.1)
  answers_then (Err failed) wire steady q = (
    record {
      spelled = both_spelled q.0.spelled;
      before = done ++ q.0.before;
      last = q.0.last;
      split = rw q.0.split (sym (append_assoc done q.0.before (q.0.last ∷ [])));
      count = q.0.count;
      written = rw (flat_map-append, append_assoc) (both_written _ q.0.written);
    },
    rw (← steady) q.1,
  )

-- the count of an operation that is spelled can be said in a reply
sayable : (text : List ℕ) (request : PlainRequest) → SpellsRequest text request → IsSayable request
sayable text request s = grind arith

module _ {H S Seat R : Type 0} {k : Kinds H Seat S R} {old : State H S Seat R} where
  -- from nothing done
  pub advances_none : {P : List Exchange → List ℕ → Type 0} (bytes : List ℕ) → P [] bytes → Advances k old old P
  advances_none bytes p = record { done = []; rest = bytes; run = none; outcome = p }

  -- the same with another outcome
  pub advances_as : {new : State H S Seat R} {P Q : List Exchange → List ℕ → Type 0}
      → Advances k old new P → ((done : List Exchange) (rest : List ℕ) → P done rest → Q done rest) → Advances k old new Q
  advances_as a f = record { done = a.done; rest = a.rest; run = a.run; outcome = f a.done a.rest a.outcome }

-- one run after another
run_then : {H S Seat R : Type 0} {k : Kinds H Seat S R} {old between new : State H S Seat R} {done more : List Exchange}
    → CarryRun k old done between → CarryRun k between more new → CarryRun k old (done ++ more) new
run_then {done = done} a none = rw append-nil a
run_then {done = done} a (one_more {done = more} request reply b step spelling) =
    rw (← append_assoc done more ((request, reply) ∷ [])) (one_more request reply (run_then a b) step spelling)

-- A reader gave a request, after requests in these bytes were answered.
module _ {wire wire' : RequestHeld} {result : Result (Option Request) WireFault} {request : Request}
    (n : IsNext wire (plain_next_result result) wire') (is : result ≡ Ok (Some request)) {H S Seat R : Type 0} {k : Kinds H Seat S R}
    {old between : State H S Seat R} {known now : Option (List ℕ)} {bytes : List ℕ}
    (a : Advances k old between (λ done rest. IsAnswered known now bytes done rest × Unread wire rest)) where
  taken : (later : List ℕ) × Unread wire' later × (text : List ℕ) × SpellsRequest text (plain_request request) × (a.rest ≡ text ++ later)
  taken = let w = (subst (λ r. IsNext wire (plain_next_result r) wire') is n).continues a.rest a.outcome.1 in (w.0, w.1, w.2.0, w.2.1, w.2.2)

  pub next_sayable : IsSayable (plain_request request)
  next_sayable = sayable taken.2 (plain_request request) taken.3

  -- it was carried out, and its reply is still to be written
  pub advances_one : {new : State H S Seat R} {reply : PlainReply} → IsCarriedOut k between (plain_request request) reply new
      → (IsSayable (plain_request request) → ReplyHasSpelling reply)
      → Advances k old new (IsOwed known now bytes (plain_request request, reply) wire')
  advances_one {reply = reply} step spelling = record {
    done = a.done ++ (plain_request request, reply) ∷ [];
    rest = taken.0;
    run = one_more (plain_request request) reply a.run step (spelling next_sayable);
    outcome = record {
      spelled = rw map-append (spelled_then bytes a.rest taken.0 (requests_of a.done) (plain_request request ∷ []) a.outcome.0.spelled
          (taken.2, taken.0, taken.3, taken.4, refl));
      before = a.done;
      split = refl;
      written = a.outcome.0.written;
      unread = taken.1;
    };
  }

-- a reader that answered with no request holds none
pub next_none : {old new : RequestHeld} {result : Result (Option Request) WireFault} → IsNext old (plain_next_result result) new → result ≡ Ok None
    → (bytes : List ℕ) → Unread old bytes → IsSettled new bytes
next_none {old} {new} n e bytes u =
    let m = subst (λ a. IsNext old (plain_next_result a) new) e n in
    let w = m.continues bytes u in
    let held : Unread new bytes = subst (Unread new) w.2.2 w.1 in
    record { unread = held; begins = w.2.0; none = w.2.1; room = m.room bytes held }

-- bytes were read, and requests in them carried out, with this result for what the reader holds
pub record Progress {H S Seat R W : Type 0} (k : Kinds H Seat S R) (left left' : Option (List ℕ)) (contents : W → Option (List ℕ))
    (output output' : Counting W) (old new : State H S Seat R) (wire : RequestHeld) (result : Result (Option WireFault) OutputFault) : Type 0 where
  pub read : List ℕ
  pub consumed : Consumes left left' read
  pub steps : Advances k old new (AnswersAs contents result output output' wire read)

-- more bytes came
pub progress_then : {H S Seat R W : Type 0} {k : Kinds H Seat S R} {left left' left'' : Option (List ℕ)} {contents : W → Option (List ℕ)}
    {output output' : Counting W} {old between new : State H S Seat R} {wire wire' : RequestHeld} {count : ℕ}
    (result : Result (Option WireFault) OutputFault) (output'' : Counting W) (wire'' : RequestHeld)
    → Progress k left left' contents output output' old between wire (Ok None) → IsFilled left' left'' wire wire' count
    → output'.failures ≡ output.failures
    → ((bytes : List ℕ) → Unread wire' bytes → Advances k between new (AnswersAs contents result output' output'' wire'' bytes))
    → Progress k left left'' contents output output'' old new wire'' result
progress_then {contents = contents} {output = output} {output' = output'} result output'' wire'' p more steady answers =
    let a = p.steps in let b = answers (a.rest ++ more.came) (more.unread a.rest a.outcome.1.unread) in record {
      read = p.read ++ more.came;
      consumed = Consumes-trans _ _ _ p.read more.came p.consumed more.consumed;
      steps = record {
        done = a.done ++ b.done;
        rest = b.rest;
        run = run_then a.run b.run;
        outcome = answers_then contents output output' output'' p.read a.rest more.came a.done a.outcome.0 b.rest b.done result wire'' steady
            b.outcome;
      };
    }

-- where the output failed
pub output_failed : (result : Result Served ServeFault) → IsErrAnd result (λ e. e ≡ Output) → result ≡ Err Output
output_failed result e = grind arith

-- where a reply could not be written
pub is_cut : {W : Type 0} (contents : W → Option (List ℕ)) (result : Result (Option WireFault) OutputFault) (output output' : Counting W)
    (wire : RequestHeld) (bytes : List ℕ) (done : List Exchange) (rest : List ℕ)
    → IsErr result → IsCutOff (contents output.inner) (contents output'.inner) bytes done rest → HasRisen output.failures output'.failures
    → AnswersAs contents result output output' wire bytes done rest
is_cut contents result output output' wire bytes done rest e c r = grind arith

-- Where stacks and reel tell, a run of requests carried out is a run of serve steps
pub run_steps : {H S Seat R : Type 0} {k : Kinds H Seat S R} {old last : State H S Seat R} {done : List Exchange}
    → CarryRun k old done last → (fails shared : Bool) → MayFail k old fails → MayShare k old shared → (start : SessionView) → HasView k old start
    → (finish : SessionView) × ServeRun fails shared k.reels.GROWS start done finish × HasView k last finish
    × MayShare k last shared × MayFail k last fails
run_steps none fails shared may share start tells = (start, no_steps, tells, share, may)
run_steps (one_more {between = between} request reply run carried spelling) fails shared may share start tells =
    let so_far = run_steps run fails shared may share start tells in
    let step = carried.step so_far.0 so_far.2 in
    let excused : IsTrue step.troubled → IsTrue fails = λ t. so_far.4 (step.able t) in
    let run = one_step request reply step.troubled step.asked step.found so_far.1 excused (may_find so_far.3 step) step.step in
    (step.after, run, step.tells, may_share so_far.3 carried, λ f. so_far.4 (carried.quiet f))

-- a run keeps the seat's number, and uses up no number of a seat
pub run_seats : {H S Seat R : Type 0} {k : Kinds H Seat S R} {old last : State H S Seat R} {done : List Exchange} → CarryRun k old done last
    → ((k.holds.shows last.seat).number ≡ (k.holds.shows old.seat).number) × (k.holds.seated last.drives.holds ≡ k.holds.seated old.drives.holds)
run_seats none = (refl, refl)
run_seats (one_more request reply run carried spelling) =
    let so_far = run_seats run in (carried.kept.number ∙ so_far.0, carried.same_seats ∙ so_far.1)

-- a reader that holds nothing is at the beginning of a request, for example of a close, which is "C" and a line feed
pub settled_empty : (wire : RequestHeld) → Unread wire [] → IsSettled wire []
unfolding dropped_line
settled_empty wire u = record {
  unread = u;
  begins = (67 ∷ 10 ∷ [], Close, ([], (omega arith, tt), refl));
  none = λ text rest request e s. grind arith;
  room = omega arith;
}
