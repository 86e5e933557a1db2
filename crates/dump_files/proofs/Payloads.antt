-- The blocks of a payload that lies on a medium.
use Rattle.std.proofs.Common.{◌≡◌, ◌⊎◌, ◌↔◌, ℕ, zero, suc, ◌+◌, ◌*◌, ◌-◌, ◌<◌, ◌≤◌, ◌++◌, List, [], length, take, drop, replicate, min, Result, Ok, Err, IfOk, refl, sym, ap, subst, ◌∙◌, inl, inr, arith, length-drop}
use Rattle.std.specs.Prelude.{get_or}
use Rattle.std.specs.Int.{div_ceil}
use Rattle.std.proofs.Math.Nat.{mul-le-mul_right}
use Rattle.std.proofs.Math.Seq.{take-append-add, take-append_seam}
use Rattle.std.proofs.lemmas.List.{take_all, take-append-le, drop-append-le, take-replicate, length-append, length-replicate, append-nil}
use Rattle.std.proofs.lemmas.Grind.{div_ceil_times}
use Rattle.tape.specs.Medium.{MediumKind, IsMediumCall, IsReadAt}
use Rattle.tape.specs.Medium.MediumCall.{ReadAt}
use Rattle.tape.specs.declared.medium.MediumFailed.{MediumFailed}
use Rattle.dump_run.specs.Blocks.{HasBlock, GivesBlock}
use Rattle.dump_run.specs.declared.blocks.SourceFailed.{SourceFailed}
use Rattle.dump_run.specs.Run.{PlainRun, plain_run, AreOfOneDump}
use Rattle.dump_client.specs.Client.{IsPayload}
use Rattle.dump_run.proofs.Cut.{block_at, length_cut, size_cut}
use Rattle.dump_files.specs.Payload.{FiledPayload, HasPayloadBlocks, IsPayloadRead, IsRunsPayload, begin_of, blocks_for, padded_payload, payload_blocks}

-- the padded payload has whole blocks
length_padded : (size : ℕ) (payload : List ℕ) → 0 < size → length (padded_payload size payload) ≡ div_ceil (length payload) size * size
length_padded size payload some =
    let enough = (div_ceil_times (length payload) size some).0 in
    length-append payload (replicate (div_ceil (length payload) size * size - length payload) 0)
    ∙ ap (λ n. length payload + n) (length-replicate (div_ceil (length payload) size * size - length payload) 0)
    ∙ omega (arith, enough)

pub length_blocks : (size : ℕ) (payload : List ℕ) → length (payload_blocks size payload) ≡ blocks_for size (length payload)
length_blocks size payload = length_cut (blocks_for size (length payload)) size (padded_payload size payload)

pub size_blocks : (size : ℕ) (payload : List ℕ) (n : ℕ) → n < blocks_for size (length payload) → length (get_or (payload_blocks size payload) n []) ≡ size
size_blocks zero payload n h = absurd (omega (arith, h))
size_blocks (suc s) payload n h = size_cut (blocks_for (suc s) (length payload)) (suc s) (padded_payload (suc s) payload) (length_padded (suc s) payload (omega arith)) n h

le_or_lt : (m n : ℕ) → (m ≤ n) ⊎ (n < m)
le_or_lt m n = grind arith

-- the first bytes of a list with zero bytes after it, where it has enough
within : (n k : ℕ) (bytes : List ℕ) → n ≤ length bytes → (m : ℕ) → m ≡ n
    → take n (bytes ++ replicate k 0) ≡ take m bytes ++ replicate (n - m) 0
within n k bytes le m e =
    let none : n - m ≡ 0 = omega (arith, e) in
    take-append-le n bytes (replicate k 0) le
    ∙ ap (λ j. take j bytes) (sym e)
    ∙ sym (append-nil (take m bytes))
    ∙ ap (λ j. take m bytes ++ replicate j 0) (sym none)

-- and where it ends before
beyond : (n k : ℕ) (bytes : List ℕ) → length bytes < n → n ≤ length bytes + k → (m : ℕ) → m ≡ length bytes
    → take n (bytes ++ replicate k 0) ≡ take m bytes ++ replicate (n - m) 0
beyond n k bytes lt le m e =
    let whole : n ≡ length bytes + (n - length bytes) = omega (arith, lt) in
    ap (λ j. take j (bytes ++ replicate k 0)) whole
    ∙ take-append-add bytes (replicate k 0) (n - length bytes)
    ∙ ap (λ l. bytes ++ l) (take-replicate (n - length bytes) k 0 (omega (arith, le)))
    ∙ ap (λ j. bytes ++ replicate (n - j) 0) (sym e)
    ∙ ap (λ l. l ++ replicate (n - m) 0) (sym (take_all m bytes (omega (arith, e))))

take_zeros : (n k : ℕ) (bytes : List ℕ) → n ≤ length bytes + k
    → take n (bytes ++ replicate k 0) ≡ take (min (length bytes) n) bytes ++ replicate (n - min (length bytes) n) 0
take_zeros n k bytes h = elim (le_or_lt n (length bytes)) [
  | inl le ↦ within n k bytes le (min (length bytes) n) (omega (arith, le))
  | inr lt ↦ beyond n k bytes lt h (min (length bytes) n) (omega (arith, lt))
]

-- a block begins within the payload
begins_within : (size bytes n : ℕ) → n < blocks_for size bytes → n * size < bytes
begins_within zero bytes n h = absurd (omega (arith, h))
begins_within (suc s) bytes n h =
    let bounds = div_ceil_times bytes (suc s) (omega arith) in
    let room : suc n * suc s ≤ div_ceil bytes (suc s) * suc s = mul-le-mul_right (suc s) h in
    let step : suc n * suc s ≡ n * suc s + suc s = omega arith in
    omega (arith, bounds.1, room, step)

-- a block is the bytes of the payload from where it begins, and zero bytes after them
pub block_of : (size : ℕ) (payload : List ℕ) (n : ℕ) → n < blocks_for size (length payload)
    → get_or (payload_blocks size payload) n []
    ≡ take (min (length payload - n * size) size) (drop (n * size) payload) ++ replicate (size - min (length payload - n * size) size) 0
block_of zero payload n h = absurd (omega (arith, h))
block_of (suc s) payload n h =
    let count = div_ceil (length payload) (suc s) in
    let zeros = count * suc s - length payload in
    let bounds = div_ceil_times (length payload) (suc s) (omega arith) in
    let room : suc n * suc s ≤ count * suc s = mul-le-mul_right (suc s) h in
    let step : suc n * suc s ≡ n * suc s + suc s = omega arith in
    let inside : n * suc s ≤ length payload = omega (arith, bounds.1, room, step) in
    let rest = drop (n * suc s) payload in
    let left : length rest ≡ length payload - n * suc s = length-drop (n * suc s) payload in
    block_at count (suc s) (padded_payload (suc s) payload) n h
    ∙ ap (λ l. take (suc s) l) (drop-append-le (n * suc s) payload (replicate zeros 0) inside)
    ∙ take_zeros (suc s) zeros rest (omega (arith, left, bounds.0, room, step))
    ∙ ap (λ j. take (min j (suc s)) rest ++ replicate (suc s - min j (suc s)) 0) left

-- a room whose front was read into, and whose rest was cleared
pub cleared : (count : ℕ) (part into : List ℕ) → length part ≡ count → count ≤ length into
    → take count (part ++ drop count into) ++ replicate (length (part ++ drop count into) - count) 0 ≡ part ++ replicate (length into - length part) 0
cleared count part into e le =
    let seam : take count (part ++ drop count into) ≡ part = ap (λ n. take n (part ++ drop count into)) (sym e) ∙ take-append_seam part (drop count into) in
    let all : length (part ++ drop count into) - count ≡ length into - length part =
    omega (arith, length-append part (drop count into), length-drop count into, e, le) in
    ap (λ l. l ++ replicate (length (part ++ drop count into) - count) 0) seam ∙ ap (λ n. part ++ replicate n 0) all

-- a read for which the medium had all that was asked
pub read_whole : {M : Type 0} {m : MediumKind M} {medium after : M} {len size failures block count at : ℕ} {part into given : List ℕ}
    {found : Result ℕ MediumFailed} {old : FiledPayload M} → record { medium = medium; len = len; size = size; failures = failures } ≡ old
    → IsMediumCall m medium (ReadAt at part found) after → at ≡ min (block * size) len → count ≡ min (len - at) (length into) → length part ≡ count
    → found ≡ Ok count → given ≡ take count (part ++ drop count into) ++ replicate (length (part ++ drop count into) - count) 0
    → IsPayloadRead m old block into (Ok tt) (record { medium = after; len = len; size = size; failures = failures }) given
read_whole {m = m} {medium} {after} {len} {size} {failures} {block} {count} {at} {part} {into} {given} {found} view call begins asked all is e =
    subst (λ old. IsPayloadRead m old block into (Ok tt) (record { medium = after; len = len; size = size; failures = failures }) given) view record {
      part = part;
      found = found;
      call = subst (λ n. IsMediumCall m medium (ReadAt n part found) after) begins call;
      asked = all ∙ asked ∙ ap (λ n. min (len - n) (length into)) begins;
      gives = (is ∙ ap Ok (sym all), e ∙ cleared count part into all (omega (arith, asked)));
      same = (refl, refl);
    }

-- a read for which it had less, or that failed
pub read_short : {M : Type 0} {m : MediumKind M} {medium after : M} {len size failures more block count at : ℕ} {part into given : List ℕ}
    {found : Result ℕ MediumFailed} {old : FiledPayload M} {failed : SourceFailed} → record { medium = medium; len = len; size = size; failures = failures } ≡ old
    → IsMediumCall m medium (ReadAt at part found) after → at ≡ min (block * size) len → count ≡ min (len - at) (length into) → length part ≡ count
    → (found ≡ Ok count → ⊥)
    → IsPayloadRead m old block into (Err failed) (record { medium = after; len = len; size = size; failures = more }) given
read_short {m = m} {medium} {after} {len} {size} {failures} {more} {block} {count} {at} {part} {into} {given} {found} {failed = failed} view call begins asked all other =
    subst (λ old. IsPayloadRead m old block into (Err failed) (record { medium = after; len = len; size = size; failures = more }) given) view record {
      part = part;
      found = found;
      call = subst (λ n. IsMediumCall m medium (ReadAt n part found) after) begins call;
      asked = all ∙ asked ∙ ap (λ n. min (len - n) (length into)) begins;
      gives = (λ e. other (e ∙ ap Ok all));
      same = (refl, refl);
    }

-- a read leaves the blocks
pub same_blocks : {M : Type 0} {m : MediumKind M} {old new : FiledPayload M} {block : ℕ} {into given : List ℕ} {result : Result Unit SourceFailed}
    → IsPayloadRead m old block into result new given → (blocks : List (List ℕ)) → HasPayloadBlocks m.holds old blocks ↔ HasPayloadBlocks m.holds new blocks
same_blocks read blocks = (
  λ (bytes, held, len, e).
      let step = read.call.step bytes held in
      (step.0, step.1, ap length step.2.0 ∙ len ∙ sym read.same.0, e ∙ ap (λ n. payload_blocks n bytes) (sym read.same.1) ∙ ap (payload_blocks _) (sym step.2.0)),
  λ (bytes, held, len, e). (bytes, read.call.kept tt bytes held, len ∙ read.same.0, e ∙ ap (λ n. payload_blocks n bytes) read.same.1),
)

-- the part of a payload that was read at a block, and zero bytes, are that block
is_block : (size len block : ℕ) (payload part into given : List ℕ) → length payload ≡ len → block < blocks_for size (length payload) → size ≡ length into
    → length part ≡ min (len - min (block * size) len) (length into) → IsReadAt (min (block * size) len) part (length part) payload
    → given ≡ part ++ replicate (length into - length part) 0 → given ≡ get_or (payload_blocks size payload) block []
is_block size len block payload part into given same inside room asked (count, read) e =
    let within = begins_within size (length payload) block inside in
    let at : min (block * size) len ≡ block * size = omega (arith, within, same) in
    let many : length part ≡ min (length payload - block * size) size = omega (arith, asked, at, same, room) in
    let here : part ≡ take (min (length payload - block * size) size) (drop (block * size) payload) =
    sym (take_all (length part) part (omega arith)) ∙ read ∙ ap (λ n. take n (drop (min (block * size) len) payload)) many
    ∙ ap (λ k. take (min (length payload - block * size) size) (drop k payload)) at in
    let zeros : length into - length part ≡ size - min (length payload - block * size) size = omega (arith, room, many) in
    e ∙ ap (λ l. l ++ replicate (length into - length part) 0) here
    ∙ ap (λ n. take (min (length payload - block * size) size) (drop (block * size) payload) ++ replicate n 0) zeros
    ∙ sym (block_of size payload block inside)

-- where the medium tells, a read gives the block
pub gives_block : {M : Type 0} {m : MediumKind M} {old new : FiledPayload M} {block : ℕ} {into given : List ℕ} (result : Result Unit SourceFailed)
    → IsPayloadRead m old block into result new given → (blocks : List (List ℕ)) → HasPayloadBlocks m.holds old blocks → HasBlock blocks block (length into)
    → GivesBlock result blocks block given
gives_block {old = old} {block = block} {into = into} {given = given} (Ok x) read blocks (bytes, held, len, e) (there, room) =
    let step = read.call.step bytes held in
    let part : IsReadAt (begin_of old block) read.part (length read.part) bytes =
    subst (λ found. IfOk found (λ n. IsReadAt (begin_of old block) read.part n bytes)) read.gives.0 step.2.1 in
    let inside : block < blocks_for old.size (length bytes) = subst (λ n. block < n) (ap length e ∙ length_blocks old.size bytes) there in
    let size : old.size ≡ length into = sym (size_blocks old.size bytes block inside) ∙ ap (λ bs. length (get_or bs block [])) (sym e) ∙ room in
    is_block old.size old.len block bytes read.part into given len inside size read.asked part read.gives.1 ∙ ap (λ bs. get_or bs block []) (sym e)
gives_block (Err failed) read blocks held there = tt

-- the blocks of a payload are those of a run that has its size and as many
pub runs_payload : {M : Type 0} (holds : M → List ℕ → Type 0) (p : FiledPayload M) (run : PlainRun) → IsRunsPayload run p
    → (payload : List (List ℕ)) → HasPayloadBlocks holds p payload → IsPayload run payload
runs_payload holds p run h payload (bytes, held, len, e) =
    let many : run.blocks ≡ blocks_for p.size (length bytes) = h.1 ∙ ap (blocks_for p.size) (sym len) in (
      ap length e ∙ length_blocks p.size bytes ∙ sym many,
      λ n k. ap (λ bs. length (get_or bs n [])) e ∙ size_blocks p.size bytes n (subst (λ m. n < m) many k) ∙ h.0,
    )

-- a run that the words say is that of its payload
pub line_payload : {M : Type 0} (p : FiledPayload M) (run : PlainRun) {device name : List ℕ} {level date since size : ℕ}
    → run ≡ plain_run device name level date since size (blocks_for size p.len) → p.size ≡ size → IsRunsPayload run p
line_payload p run is same = (same ∙ sym (ap (λ r. r.block_bytes) is), ap (λ r. r.blocks) is ∙ ap (λ n. blocks_for n p.len) (sym same))

-- a run that is of one dump with that of the payload
pub of_one_dump : {M : Type 0} (p : FiledPayload M) (run kept : PlainRun) → IsRunsPayload run p → AreOfOneDump kept run → IsRunsPayload kept p
of_one_dump p run kept h same = (h.0 ∙ sym same.3, same.4 ∙ h.1)
