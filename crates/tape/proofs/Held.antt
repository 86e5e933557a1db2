-- A reel whose medium is memory, as the tape that it is seen as.
use Rattle.tape.proofs.Words.{◌≡◌, ◌≢◌, ◌↔◌, All, take_all, All-get_or, slice_get_within, get_or_from_slice_get, IsTapeEntry, with_front, ℕ, List, [], ◌∷◌, ◌++◌, length, take, Option, Some, None, MatchOption, Result, Ok, Err, MatchResult, inl, inr, refl, sym, ap, subst, ◌∙◌, append-nil, arith, nat_tests, slice_get, Steps, PlainEntry, Tape, TapeRequest, TapeAnswer, TapeStep, tape, entries_of, offset_of, op_request, done_answer, Mark, Done, Fault, IsListCall, IsListView, list_view, entry_at, entry_length, MemoryBytes, IsMemory, memory_kind, SpellsReel, FileTape, HoldsTape, tape_in, entries_in, image_added, ComesToDevice, left_by, left_after, put_by, DeviceStep, IsTroubleLeft, TapeFault, Device, Trouble}
use Rattle.tape.specs.declared.trouble.Trouble.TheVariants.{None as NoTrouble}
use Rattle.tape.proofs.Calls.{can_of}
use Rattle.tape.proofs.Places.{one_tape}
use Rattle.tape.proofs.ReelCalls.{FileCall}
use Rattle.tape.proofs.Spelling.{spells_in, tail_spells, tail_short}
use Rattle.tape.proofs.Writing.{offset_at}

-- ---- what is seen

pub held_is : (r : FileTape MemoryBytes) (t : Tape) → HoldsTape IsMemory r t → t ≡ (list_view r).tape
held_is r t h = one_tape h.0 r.offset t h.2 ∙ ap (tape_in r.offset) h.1.0

pub held_seen : (r : FileTape MemoryBytes) (t : Tape) → HoldsTape IsMemory r t → IsListView r
held_seen r t h = subst (HoldsTape IsMemory r) (held_is r t h) h

-- an entry that is seen is the one that is found in the bytes
pub entry_seen : (r : FileTape MemoryBytes) (medium : MemoryBytes) (file : List ℕ) (i : ℕ) (o : Option PlainEntry) → IsListView r → medium ≡ r.medium
    → file ≡ medium.bytes → slice_get (entries_in file) i ≡ o → entry_at i (list_view r).tape ≡ o
entry_seen r medium file i o h same is found =
    ap (λ es. slice_get es i) (spells_in h.0 (entries_of (list_view r).tape) h.2.spelled ∙ ap entries_in
    (h.1.0 ∙ sym (is ∙ ap (λ (m : MemoryBytes). m.bytes) same))) ∙ found

-- among the entries that a reel can hold, only a mark has no bytes
mark_of : (entry : Option PlainEntry) → ((e : PlainEntry) → entry ≡ Some e → IsTapeEntry e) → (entry_length entry ≡ Some 0) ↔ (entry ≡ Some Mark)
mark_of None lawful = grind arith
mark_of (Some e) lawful = let told = lawful e refl in grind arith

pub mark_told : (entries : List PlainEntry) (i : ℕ) → All IsTapeEntry entries → (entry_length (slice_get entries i) ≡ Some 0) ↔ (slice_get entries i ≡ Some Mark)
mark_told entries i records =
    mark_of (slice_get entries i)
    (λ e is. subst IsTapeEntry (get_or_from_slice_get entries i e e is)
    (All-get_or IsTapeEntry entries i e (slice_get_within entries i e is) records))

-- nothing is copied of no bytes
pub none_copied : (into : List ℕ) → into ≡ with_front [] into
none_copied into = ap (λ l. l ++ into) (sym (take_all (length into) [] (omega arith)))

pub seen_offset : (r : FileTape MemoryBytes) → IsListView r → offset_of (list_view r).tape.before ≡ r.offset
seen_offset r h = offset_at h.0 r.offset (list_view r).tape h.2

-- no bytes are no entries
pub none_held : (r : FileTape MemoryBytes) → IsMemory r.medium [] → r.offset ≡ 0 → HoldsTape IsMemory r (tape [] [])
none_held r told offset = ([], told, record { spelled = tail_spells [] (tail_short [] (omega arith)); offset_is = offset })

-- ---- calls that write nothing

-- a call that adds no bytes is a call of the tape that is seen, and its device is not at fault
pub seen : {old new : FileTape MemoryBytes} {request : TapeRequest} {answer : TapeAnswer} → IsListView old
    → FileCall memory_kind old new request answer
    → image_added request ≡ 0
    → IsListView new × IsListCall (list_view old) (list_view new) request answer × TapeStep old.capacity (list_view old).tape request answer
    (list_view new).tape
seen {old} {new} {request} {answer} held call none =
    let s = call.step (list_view old).tape held in
    let step = subst (λ u. TapeStep old.capacity (list_view old).tape request answer u) (held_is new s.0 s.1) s.2 in
    let sound : answer ≢ Fault Device = λ is. elim (call.made.cause is) [ inl can ↦ can | inr short ↦ absurd (omega arith) ] in
    let listed : IsListCall (list_view old) (list_view new) request answer
    = record {
      step = λ t is. ((list_view new).tape, refl, rw (sym is) step);
      can = can_of old.capacity (list_view old).tape (list_view new).tape request answer step;
      device = λ is. absurd (sound is);
      failed = inl refl;
      able = sound;
      quiet = λ x. x;
      memory = λ _. refl;
      counted = omega arith;
      same_capacity = call.same_capacity;
      made = tt;
    } in
    (held_seen new s.0 s.1, listed, step)

-- no operation but that of marks adds bytes
pub op_adds : (op count : ℕ) → op ≢ 0 → image_added (op_request op count) ≡ 0
op_adds op count other = grind (arith, nat_tests)

-- ---- a write by a device that fails as it is told

put_failed : (trouble : Trouble) (written : List PlainEntry) (t : Tape) → trouble ≢ NoTrouble → put_by trouble written t ≡ tape t.before (left_by trouble t.after written)
put_failed trouble written t set = grind arith

-- the same bytes, and the place before what was put
stood_back : (a b : FileTape MemoryBytes) (t : Tape) (put : List PlainEntry) → HoldsTape IsMemory a t → HoldsTape IsMemory b (tape (t.before ++ put) [])
    → HoldsTape IsMemory (record b { offset = a.offset }) (tape t.before put)
stood_back a b t put h k =
    (k.0, k.1, record { spelled = subst (SpellsReel k.0) (append-nil (t.before ++ put)) k.2.spelled; offset_is = h.2.offset_is })

-- so many of what was written were put, or nothing was
abbrev pub IsLeft : Option ℕ → List PlainEntry → FileTape MemoryBytes → FileTape MemoryBytes → Type 0
IsLeft left written a b = MatchOption left (b ≡ a) (λ n. Steps (HoldsTape IsMemory) a b (λ t u. u ≡ tape (t.before ++ take n written) []))

abbrev pub IsSettled : Result Unit TapeFault → Trouble → ℕ → FileTape MemoryBytes → FileTape MemoryBytes → Type 0
IsSettled result trouble start b c =
    MatchResult result (λ _. (trouble ≡ NoTrouble) × (c ≡ b)) (λ fault. (fault ≡ Device) × (trouble ≢ NoTrouble) × (c ≡ record b { offset = start }))

-- what is left of a write, as the trouble says it
pub settled : (trouble : Trouble) (written : List PlainEntry) (left : Option ℕ) (a b c : FileTape MemoryBytes) (result : Result Unit TapeFault)
    → IsTroubleLeft trouble (length written) left → IsLeft left written a b → IsSettled result trouble a.offset b c
    → Steps (HoldsTape IsMemory) a c (λ t u. u ≡ put_by trouble written t)
settled trouble written None a b c (Ok x) left put (none, is) t h =
    absurd (omega (arith, ap length ((rw none at left) (Mark ∷ written) written refl)))
settled trouble written (Some n) a b c (Ok x) left put (none, is) t h =
    let s = put t h in
    (s.0, rw is s.1, rw none (s.2 ∙ ap (λ l. tape (t.before ++ l) []) (sym ((rw none at left) [] written refl))))
settled trouble written None a b c (Err fault) left put (device, set, is) t h =
    (t, rw (is, put) h, ap (tape t.before) (sym (left t.after written refl)) ∙ sym (put_failed trouble written t set))
settled trouble written (Some n) a b c (Err fault) left put (device, set, is) t h =
    let s = put t h in (
      tape t.before (take n written),
      rw is (stood_back a b t (take n written) h (rw s.2 at s.1)),
      ap (tape t.before) (sym (left t.after written refl)) ∙ sym (put_failed trouble written t set),
    )

-- what was put, as a step of the device
device_put : (capacity : ℕ) (trouble : Trouble) (t u : Tape) (request : TapeRequest) (written : List PlainEntry) (result : Result Unit TapeFault)
    → MatchResult result (λ _. trouble ≡ NoTrouble) (λ fault. (fault ≡ Device) × (trouble ≢ NoTrouble)) → u ≡ put_by trouble written t
    → ComesToDevice capacity t request → left_after trouble request t.after ≡ left_by trouble t.after written
    → (u ≡ tape (t.before ++ written) [] → TapeStep capacity t request Done u)
    → DeviceStep capacity trouble t request (done_answer result) u
device_put capacity trouble t u request written result answered is comes left done = grind (arith, put_failed trouble written t)

-- the same, for a reel whose medium got room before, and with the tape that is seen
pub put_step : (a b c : FileTape MemoryBytes) (trouble : Trouble) (result : Result Unit TapeFault) (request : TapeRequest) (written : List PlainEntry)
    → IsListView a → b.medium.bytes ≡ a.medium.bytes → b.offset ≡ a.offset → Steps (HoldsTape IsMemory) b c (λ t u. u ≡ put_by trouble written t)
    → MatchResult result (λ _. trouble ≡ NoTrouble) (λ fault. (fault ≡ Device) × (trouble ≢ NoTrouble))
    → ComesToDevice a.capacity (list_view a).tape request → left_after trouble request (list_view a).tape.after ≡ left_by trouble (list_view a).tape.after written
    → ((u : Tape) → u ≡ tape ((list_view a).tape.before ++ written) [] → TapeStep a.capacity (list_view a).tape request Done u)
    → IsListView c × DeviceStep a.capacity trouble (list_view a).tape request (done_answer result) (list_view c).tape
put_step a b c trouble result request written h bytes offset steps answered comes left done =
    let s = steps (list_view a).tape (h.0, (h.1.0 ∙ sym bytes, h.1.1), rw offset h.2) in
    let is : (list_view c).tape ≡ put_by trouble written (list_view a).tape = sym (held_is c s.0 s.1) ∙ s.2 in
    (held_seen c s.0 s.1, device_put a.capacity trouble (list_view a).tape (list_view c).tape request written result answered is comes left (done (list_view c).tape))
