-- From a run of a reel on a medium to a call of a reel.
use Rattle.tape.proofs.Words.{◌≡◌, ◌≢◌, ◌↔◌, IsTrue, Bool, true, ℕ, ◌<◌, ◌≤◌, List, [], ◌++◌, false, Result, Ok, Err, IsErr, IfErr, IfOk, inl, inr, refl, arith, ◌-◌, MatchResult, Tape, TapeRequest, TapeAnswer, TapeStep, SpaceStep, stands_at, marks_met, records_met, passed_for_marks, passed_for_records, tape, entries_of, offset_of, done_answer, Rewind, Done, Fault, IsTapeCall, CanAnswer, CanSpace, MediumKind, IsFile, FileTape, EndsInEntries, file_reel_kind, image_added, entries_written, AreMediumCalls, AreReelCalls, IsWalked, PutsEntries, ahead, place_after, files_request, records_request, Walked, Way, Forward, Back, TapeFault, Device, EndOrMark, OutOfMemory}
use Rattle.tape.proofs.MediumRuns.{run_as, run_none, Looks}
use Rattle.tape.proofs.Devices.{HasFirst}
use Rattle.tape.proofs.Writing.{offset_at}

-- a call of a reel on a medium
abbrev pub FileCall : {M : Type 0} → MediumKind M → FileTape M → FileTape M → TapeRequest → TapeAnswer → Type 0
FileCall m old new request answer = IsTapeCall (file_reel_kind m) old new request answer

-- calls of the medium, by what they do to the tape
pub reel_run : {M : Type 0} {m : MediumKind M} {makes : List ℕ → List ℕ → Type 0} {does : Tape → Tape → Type 0} {added : ℕ} {F fails : Type 0}
    {old new : FileTape M} → AreMediumCalls m makes added F old.medium new.medium → (F → fails) → (fails → F) → new.capacity ≡ old.capacity
    → ((x y : List ℕ) (t : Tape) → IsFile x old.offset t → makes x y → (u : Tape) × IsFile y new.offset u × does t u)
    → AreReelCalls m does added fails old new
reel_run run to from same tells = record {
  step = λ t h.
      let s = run.step h.0 h.1 in
      let p = tells h.0 s.0 t h.2 s.2 in
      (p.0, (s.0, s.1, p.1), p.2);
  calls = run_as run to from (omega arith) (λ x y held s. tt);
  same_capacity = same;
}

pub file_call : {M : Type 0} {m : MediumKind M} {does : Tape → Tape → Type 0} {added : ℕ} {fails : Type 0} (old new : FileTape M) (request : TapeRequest) (answer : TapeAnswer)
    → AreReelCalls m does added fails old new → (answer ≡ Fault Device → fails) → (fails → answer ≡ Fault Device) → CanAnswer request answer
    → (answer ≡ Fault OutOfMemory → ⊥) → added ≤ image_added request
    → ((bytes : List ℕ) (t u : Tape) → IsFile bytes old.offset t → does t u → TapeStep old.capacity t request answer u)
    → (answer ≡ Done → 0 < image_added request → EndsInEntries m (entries_written request) old new) → FileCall m old new request answer
file_call old new request answer r to from can memory fits step ends = record {
  step = λ t h. let s = r.step t h in (s.0, s.1, step h.0 t s.0 h.2 s.2);
  can = can;
  device = λ is. r.calls.failed (to is);
  failed = elim r.calls.same [ inl e ↦ inl e | inr f ↦ inr (from f) ];
  able = λ _. tt;
  quiet = λ _. tt;
  memory = λ is. absurd (memory is);
  counted = r.calls.counted;
  same_capacity = r.same_capacity;
  made = record {
    cause = λ is. elim (r.calls.able (to is)) [ inl e ↦ inl e | inr l ↦ inr (omega arith) ];
    quiet = r.calls.quiet;
    room = let k = r.calls.room in omega arith;
    exact = ends;
  };
}

-- a call that makes no call of the medium and moves nothing
pub none_call : {M : Type 0} (m : MediumKind M) (here : FileTape M) (request : TapeRequest) (answer : TapeAnswer) → answer ≢ Fault Device
    → answer ≢ Fault OutOfMemory
    → CanAnswer request answer → (answer ≡ Done → image_added request ≡ 0)
    → ((t : Tape) → offset_of t.before ≡ here.offset → TapeStep here.capacity t request answer t) → FileCall m here here request answer
none_call m here request answer sound fine can none step =
    file_call {added = 0} here here request answer
    (reel_run {makes = Looks (λ x. Unit {0})} {does = λ t u. u ≡ t} (run_none {fails = ⊥} (λ f. f) (λ x held. (refl, tt))) (λ f. f) (λ f. f) refl
    (λ x y t f s. (t, rw s.0 f, refl)))
    sound (λ f. absurd f) can fine (omega arith) (λ file t u f same. rw same (step t (offset_at file here.offset t f)))
    (λ done some. let nothing = none done in absurd (omega arith))

-- a call that puts entries at the place
pub put_call : {M : Type 0} {m : MediumKind M} (old new : FileTape M) (request : TapeRequest) (r : Result Unit TapeFault)
    → IfErr r (λ fault. fault ≡ Device)
    → AreReelCalls m (PutsEntries (entries_written request) r) (image_added request) (IsErr r) old new
    → IfOk r (λ _. EndsInEntries m (entries_written request) old new) → CanAnswer request Done → CanAnswer request (Fault Device)
    → ((t u : Tape) → offset_of t.before ≡ old.offset → u ≡ tape (t.before ++ entries_written request) [] → TapeStep old.capacity t request Done u)
    → ((t u : Tape) → offset_of t.before ≡ old.offset → HasFirst t (entries_written request) u → TapeStep old.capacity t request (Fault Device) u)
    → FileCall m old new request (done_answer r)
put_call old new request (Ok x) device run ends can fails done short =
    file_call old new request Done run (λ is. cc) (λ f. cc) can (λ is. cc) (omega arith)
    (λ file t u f put. done t u (offset_at file old.offset t f) put) (λ is more. ends)
put_call {m = m} old new request (Err fault) device run ends can fails done short =
    rw device
    (file_call old new request (Fault Device) run (λ _. refl) (λ _. refl) fails (λ out. cc) (omega arith)
    (λ file t u f put. short t u (offset_at file old.offset t f) put) (λ is. cc))

-- a room that is not there
pub no_room : {need most : ℕ} {r : Bool} → (IsTrue r ↔ (need ≤ most)) → r ≡ false → most < need
no_room answer is = grind arith

pub rewind_call : {M : Type 0} (m : MediumKind M) (old : FileTape M) → FileCall m old (record old { offset = 0 }) Rewind Done
rewind_call m old =
    file_call old (record old { offset = 0 }) Rewind Done
    (reel_run {makes = Looks (λ x. Unit {0})} {does = λ t u. u ≡ tape [] (entries_of t)} {added = 0}
    (run_none {fails = ⊥} (λ f. f) (λ x held. (refl, tt))) (λ f. f) (λ f. f) refl
    (λ x y t f s. (tape [] (entries_of t), rw s.0 (record { spelled = f.spelled; offset_is = refl }), refl)))
    (λ is. cc) (λ f. absurd f) refl (λ is. cc) (omega arith) (λ file t u f is. is) (λ is more. absurd (omega arith))

-- ---- spacing

-- a request to space by this count, past so many marks or records, to a place so far in this direction
abbrev IsSpacing : TapeRequest → ℕ → Way → (Tape → ℕ) → (Tape → ℕ) → Type 0
IsSpacing request count way met far =
    ((capacity : ℕ) (answer : TapeAnswer) (t u : Tape) → SpaceStep count (met t) (place_after way (far t) t) t answer u
    → TapeStep capacity t request answer u)
    × ((answer : TapeAnswer) → CanSpace count answer → CanAnswer request answer) × (image_added request ≡ 0)

pub spaces_files : (way : Way) (count : ℕ)
    → IsSpacing (files_request way count) count way (λ t. marks_met (ahead way t)) (λ t. passed_for_marks count (ahead way t))
spaces_files Forward count = (λ capacity answer t u s. s, λ answer s. s, refl)
spaces_files Back count = (λ capacity answer t u s. s, λ answer s. s, refl)

pub spaces_records : (way : Way) (count : ℕ)
    → IsSpacing (records_request way count) count way (λ t. records_met (ahead way t)) (λ t. passed_for_records count (ahead way t))
spaces_records Forward count = (λ capacity answer t u s. s, λ answer s. s, refl)
spaces_records Back count = (λ capacity answer t u s. s, λ answer s. s, refl)

spaced_step : (count met place left : ℕ) (t u : Tape) (r : Result Unit TapeFault) → left ≡ count - met → left ≤ count
    → MatchResult r (λ _. left ≡ 0) (λ fault. (fault ≡ EndOrMark) × (0 < left)) → u ≡ stands_at place t
    → SpaceStep count met place t (done_answer r) u
spaced_step count met place left t u r is within answered stands = grind arith

spaced_answer : (count left : ℕ) (r : Result Unit TapeFault) → left ≤ count
    → MatchResult r (λ _. left ≡ 0) (λ fault. (fault ≡ EndOrMark) × (0 < left))
    → CanSpace count (done_answer r) × (done_answer r ≢ Fault Device) × (done_answer r ≢ Fault OutOfMemory)
spaced_answer count left r within answered = grind arith

-- a call that spaces, by the walk that it made
pub spaced : {M : Type 0} {m : MediumKind M} {way : Way} {count : ℕ} {met far : Tape → ℕ} {request : TapeRequest} (old : FileTape M) (b : M)
    (walked : Walked) (r : Result Unit TapeFault) → IsSpacing request count way met far
    → AreMediumCalls m (Looks (λ x. (t : Tape) → IsFile x old.offset t → IsWalked way count (met t) (far t) x t walked.at walked.left))
    0 (false ≡ true) old.medium b
    → walked.left ≤ count → MatchResult r (λ _. walked.left ≡ 0) (λ fault. (fault ≡ EndOrMark) × (0 < walked.left))
    → FileCall m old (record { medium = b; offset = walked.at; capacity = old.capacity }) request (done_answer r)
spaced {way = way} {count} {met} {far} {request} old b walked r spaces run within answered =
    let a = spaced_answer count walked.left r within answered in
    file_call old (record { medium = b; offset = walked.at; capacity = old.capacity }) request (done_answer r)
    (reel_run {does = λ t u. SpaceStep count (met t) (place_after way (far t) t) t (done_answer r) u} run (λ f. cc) (λ f. absurd f) refl
    (λ x y t f s.
    let w = s.1 t f in
    let step = spaced_step count (met t) (place_after way (far t) t) walked.left t w.to r w.left_is within answered w.place in
    (w.to, rw s.0 w.file, step)))
    a.1 (λ f. absurd f) (spaces.1 (done_answer r) a.0) a.2 (omega arith)
    (λ file t u f s. spaces.0 old.capacity (done_answer r) t u s) (λ is more. let none = spaces.2 in absurd (omega arith))
