-- What the client's next request makes of it.
use Rattle.tape_world.proofs.Layers.{common_steps, ◌≡◌, ◌≤◌, ℕ, Bool, true, false, List, [], length, length-append, decimal, Option, Some, None, arith, Result, Ok, Err, READER_LIMIT, PlainRequest, HasSpelling, IsTextOf, request_text, ListedBlocks, ListedRead, AreBlocksOf, listed, PlainRun, Standing, standing, checkpoint_of, ClientHeld, HasFed, IsShapedAs, NextRequestAt, ReadAt, ReadBy, RealCaller, Asks, IsToSend, Step, ToSend, Waiting, Asking, AttemptFault, SourceFault, is_failing, length-decimal-le, request_of}
use Rattle.world_model.proofs.ToldSends.{small_number}

ten_digits : (n : ℕ) → n ≤ 2147483647 → length (decimal n) ≤ 10
ten_digits n small = length-decimal-le 10 n (omega arith) (omega arith) (omega arith)

within : (request : PlainRequest) → HasSpelling request → length (request_text request) ≤ READER_LIMIT
within request h = grind (arith, common_steps, ten_digits, length-append)

-- a block's write has its spelling whatever its bytes are
spelled : (run : PlainRun) (at : ℕ × ℕ) (step : Step) (request : PlainRequest) → IsShapedAs run at step request → IsTextOf (request_text request) request
    → HasSpelling request
spelled run at step request is text = grind (arith, text [], small_number)

-- what a request came to
abbrev pub Came : Bool → Step → Standing → List (List ℕ) → List ℕ → Result Bool AttemptFault → Standing → Type 0
Came true step at blocks text r new = (r ≡ Err SourceFault) × (length text ≤ READER_LIMIT) × (new ≡ standing at.run at.counts Asking)
Came false step at blocks text r new =
    (r ≡ Ok true) × (length text ≤ READER_LIMIT) × (new ≡ standing at.run at.counts (Waiting step))
    × (text ≡ request_text (request_of at.run blocks (checkpoint_of at.counts).0 (checkpoint_of at.counts).1 step))

pub came : (fails : Bool) (step : Step) (at now : Standing) (old new : ListedBlocks) (capacity size : ℕ) (text : List ℕ) (r : Result Bool AttemptFault)
    → READER_LIMIT ≤ capacity → old.troubled ≡ fails → NextRequestAt (ToSend step) (AreBlocksOf old) at capacity [] r text now
    → ReadBy step size ListedRead old [] r new text → Came (is_failing fails step) step at old.blocks text r now
came fails step at now old new capacity size text r room is h12 read = grind (arith, common_steps, within, spelled)

-- what is told of it
abbrev pub told_of : ℕ → Result Bool AttemptFault → Option (ℕ × AttemptFault)
told_of v (Ok b) = None
told_of v (Err fault) = Some (v, fault)

pub asks : (o : Option RealCaller) (x d : RealCaller) (c1 c2 : ClientHeld ListedBlocks) (fails : Bool) (capacity : ℕ) (out text : List ℕ)
    (r : Result Bool AttemptFault) (v : ℕ)
    → IsToSend o → o ≡ Some x → d.number ≡ x.number → READER_LIMIT ≤ capacity → out ≡ []
    → c1.source ≡ listed x.client.source.blocks fails x.client.source.failures
    → c1.at ≡ x.client.at → NextRequestAt c1.at.stage (AreBlocksOf c1.source) c1.at capacity out r text c2.at
    → ReadAt c1.at.stage c1.at.run.block_bytes ListedRead c1.source out r c2.source text
    → ((bytes : List ℕ) → HasFed x.client bytes → HasFed d.client bytes) → ((bytes : List ℕ) × HasFed x.client bytes)
    → d.client.source ≡ listed c2.source.blocks false c2.source.failures → d.client.at ≡ c2.at → c2.source.blocks ≡ c1.source.blocks
    → v ≡ (checkpoint_of x.client.at.counts).0 → Asks o fails text (told_of v r) (Some d)
asks o x d c1 c2 fails capacity out text r v bytes is number room empty source at asked read fed h21 source3 at3 same vis = grind (arith, common_steps)
