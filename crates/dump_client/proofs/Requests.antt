-- The requests that are appended: how long their texts are, and their bytes in a vector.
use Rattle.std.proofs.Common.{◌≡◌, ℕ, ◌≤◌, List, [], length, length-append, replicate, refl, arith, inr, Result, Ok, Err, ◌+◌, ◌-◌, ◌++◌, take, drop, length-drop, ap, ◌∙◌}
use Rattle.dump_client.proofs.Attempt.{sym, length-take, length-take-le, length-replicate, take-append-le, PlainRequest, IsTextOf, SpellsRequest, request_text, unsent, READER_LIMIT, IsShapedAs, IsRequestOf, IsRequestPushed, AppendedBy, number_of, request_of, PlainRun, Step, Standing, checkpoint_of}
use Rattle.dump_client.proofs.Attempt.{AttemptFault, Waiting, ◌∷◌, append_assoc, take-length}
use Rattle.std.proofs.Math.Seq.{drop-append_seam}
use Rattle.dump_client.specs.declared.stage.Stage.{Stage}
use Rattle.std.specs.Prelude.{get_or, decimal}
use Rattle.rmt_wire.specs.Number.{line_feed}
use Rattle.dump_client.specs.Client.{EndsWithBlock}
use Rattle.std.proofs.lemmas.Slice.{take-put_mid}
use borrow.Rule.Slice.PartMut.{put_mid, post_of}
use Rattle.rmt_wire.specs.Request.PlainRequest.{Open, Close, Write, WriteDropped, Read, Op}
use Rattle.dump_client.specs.declared.step.TapeOp.{TapeOp}
use Rattle.dump_client.specs.declared.step.Step.TheVariants as steps

-- a request is no longer than the limit of a reader, beside the bytes of a dropped write
short : (request : PlainRequest) (bytes : List ℕ) → SpellsRequest bytes request → length bytes ≤ READER_LIMIT + unsent request
short (Open device mode) bytes h = omega (arith, h.1.0, h.2.0.0, simp length-append at (ap length h.3))
short Close bytes h = omega (arith, h.1.0, simp length-append at (ap length h.2))
short (Write written) bytes h = omega (arith, h.1.few, h.2, simp length-append at (ap length h.3))
short (WriteDropped count) bytes h = omega (arith, h.2.few, h.4, simp length-append at (ap length h.5))
short (Read count) bytes h = omega (arith, h.1.few, simp length-append at (ap length h.2))
short (Op op count) bytes h = omega (arith, h.2.few, h.3.few, simp length-append at (ap length h.4))

-- the text of a request fits the limit of a reader
pub short_request : (run : PlainRun) (at : ℕ × ℕ) (step : Step) (request : PlainRequest) → IsShapedAs run at step request → IsTextOf (request_text request) request
    → length (request_text request) ≤ READER_LIMIT
short_request run at step request is text =
    let more : List ℕ = replicate (unsent request) 0 in let long = length-replicate {A = ℕ} (unsent request) 0 in
    omega (arith, long, length-append (request_text request) more, short request _ (text more long))

-- the number of an operation has one digit
pub small_op : (op : TapeOp) → number_of op ≤ 7
small_op op = grind arith

-- a step that writes no block
abbrev pub NotBlock : Step → Type 0
NotBlock (steps.Block number) = ⊥
NotBlock step = Unit {0}

its_request : (told : List (List ℕ) → Type 0) (run : PlainRun) (at : ℕ × ℕ) (step : Step) → NotBlock step
    → IsRequestOf told run at step (request_of run [] at.0 at.1 step)
its_request told run at step other = (λ payload t. grind arith, grind arith)

-- the request of such a step was appended, unless an allocation failed
pub pushed : (told : List (List ℕ) → Type 0) (at : Standing) (step : Step) (capacity : ℕ) (before : List ℕ) (result : Result Unit AttemptFault) (now : List ℕ)
    → NotBlock step → IsRequestPushed (request_of at.run [] (checkpoint_of at.counts).0 (checkpoint_of at.counts).1 step) capacity before result now
    → AppendedBy told at step capacity before result now
pushed told at step capacity before (Ok x) now other h = (_, its_request told at.run (checkpoint_of at.counts) step other, h.0, h.1)
pushed told at step capacity before (Err fault) now other h =
    (inr (h.0, (_, (its_request told at.run (checkpoint_of at.counts) step other).1, h.1, h.2)), h.3)

-- what is lent from there on
abbrev pub lent_from : ℕ → List ℕ → List ℕ
lent_from start items = take (length items - start) (drop start items)

-- as many bytes are lent as were added, and they are replaced by those that were given
pub filled : (len start size : ℕ) (lent items given : List ℕ) → lent ≡ items → length lent ≡ len → start + size ≡ length items
    → length given ≡ length (lent_from start lent)
    → (length (lent_from start lent) ≡ size) × (length given ≡ size)
    × (let put = put_mid start (length lent - start) lent given in take len (put ++ drop (length put) items) ≡ take start items ++ given)
filled len start size lent items given same all place long =
    let put = put_mid start (length lent - start) lent given in
    let whole : start + size ≡ len = place ∙ ap length (sym same) ∙ all in
    let room : length (lent_from start lent) ≡ size = omega (arith, length-take (length lent - start) (drop start lent), length-drop start lent) in
    let written = length-append (take start lent) (given ++ post_of start (length lent - start) lent) in
    let rest = length-append given (post_of start (length lent - start) lent) in
    let front = length-take-le start lent (omega arith) in (
      room,
      omega arith,
      take-append-le len put (drop (length put) items) (omega arith)
          ∙ take-put_mid start (length lent - start) lent given len (omega arith) (omega arith) ∙ ap (λ l. take start l ++ given) same,
    )

-- the text of a block's write ends with the block
pub carried : (told : List (List ℕ) → Type 0) (run : PlainRun) (at : ℕ × ℕ) (step : Step) (request : PlainRequest) (before now : List ℕ) (payload : List (List ℕ))
    → IsRequestOf told run at step request → now ≡ before ++ request_text request → told payload
    → EndsWithBlock payload run.block_bytes (Waiting step) now
carried told run at (steps.Block number) request before now payload is text t =
    let block = get_or payload number [] in
    let same : request ≡ Write block = is.0 payload t in
    let size : length block ≡ run.block_bytes = grind (arith, is.1, same) in
    let line : List ℕ = 87 ∷ (decimal (length block) ++ line_feed ∷ []) in
    (before ++ line, grind (arith, text, same, append_assoc), size)
carried told run at step request before now payload is text t = grind arith

-- the last bytes of such a text are the block
pub tail_block : (payload : List (List ℕ)) (size : ℕ) (stage : Stage) (number start : ℕ) (text : List ℕ) → Waiting (steps.Block number) ≡ stage
    → EndsWithBlock payload size stage text → start + size ≡ length text
    → take (length text - start) (drop start text) ≡ get_or payload number []
tail_block payload size stage number start text at ends place = by (rw (← at) at ends)
  where
    by : EndsWithBlock payload size (Waiting (steps.Block number)) text → take (length text - start) (drop start text) ≡ get_or payload number []
    by h =
        let block = get_or payload number [] in
        let long : length text ≡ length h.0 + length block = ap length h.1 ∙ length-append h.0 block in
        let here : start ≡ length h.0 = omega (arith, long, h.2, place) in
        let count : length text - start ≡ length block = omega (arith, long, here) in
        let tail : drop start text ≡ block = ap (λ n. drop n text) here ∙ ap (λ l. drop (length h.0) l) h.1 ∙ drop-append_seam h.0 block in
        ap (λ l. take (length text - start) l) tail ∙ ap (λ n. take n block) count ∙ take-length block
