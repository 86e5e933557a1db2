-- A payload in blocks, and the run that dumps it. Public contracts cite it.
use Rattle.std.specs.Prelude.{◌≡◌, ◌≢◌, ◌⊎◌, ℕ, zero, suc, ◌*◌, ◌-◌, ◌++◌, List, length, replicate, min, refl, Result, Ok, Err, MatchResult}
use Rattle.std.specs.Coded.{Coded, code_by, coded×, coded_ℕ}
use Rattle.std.specs.Int.{div_ceil}
use Rattle.tape.specs.Medium.{MediumKind, IsMediumCall}
use Rattle.tape.specs.Medium.MediumCall.{Len, ReadAt}
use Rattle.tape.specs.declared.medium.MediumFailed.{MediumFailed}
use Rattle.dump_run.specs.Blocks.{cut_blocks}
use Rattle.dump_run.specs.declared.blocks.SourceFailed.{SourceFailed}
use Rattle.dump_run.specs.Run.{PlainRun, plain_run}
use Rattle.rdump_args.specs.declared.dump_line.DumpLine.{DumpLine}

-- how many blocks of this size hold this many bytes, or 0 if the size is 0
abbrev pub blocks_for : ℕ → ℕ → ℕ
blocks_for zero bytes = 0
blocks_for (suc n) bytes = div_ceil bytes (suc n)

-- the payload, padded with zero bytes to the end of its last block
abbrev pub padded_payload : ℕ → List ℕ → List ℕ
padded_payload size payload = payload ++ replicate (div_ceil (length payload) size * size - length payload) 0

-- the blocks of a payload
abbrev pub payload_blocks : ℕ → List ℕ → List (List ℕ)
payload_blocks size payload = cut_blocks (blocks_for size (length payload)) size (padded_payload size payload)

-- a payload on a medium: its bytes when it was opened, the size of its blocks, and the failed reads
pub record FiledPayload (M : Type 0) : Type 0 where
  pub medium : M
  pub len : ℕ
  pub size : ℕ
  pub failures : ℕ

-- a `FiledPayload` is encoded as the tuple of its fields
abbrev pub filed_code : {M : Type 0} → Coded M → Coded (FiledPayload M)
filed_code {M} code =
    code_by
    (M × (ℕ × (ℕ × ℕ)))
    (coded× code (coded× coded_ℕ (coded× coded_ℕ coded_ℕ)))
    (λ p. (p.medium, (p.len, (p.size, p.failures))))
    (λ t. record { medium = t.0; len = t.1.0; size = t.1.1.0; failures = t.1.1.1 })
    (λ _. refl)

-- The blocks are those of the bytes that the medium holds, if these are as many as when it was
-- opened.
abbrev pub HasPayloadBlocks : {M : Type 0} → (M → List ℕ → Type 0) → FiledPayload M → List (List ℕ) → Type 0
HasPayloadBlocks holds p blocks = (bytes : List ℕ) × holds p.medium bytes × (length bytes ≡ p.len) × (blocks ≡ payload_blocks p.size bytes)

-- A read can fail if the medium can, or if the medium does not hold as many bytes as when it was
-- opened.
abbrev pub PayloadCanFail : {M : Type 0} → MediumKind M → FiledPayload M → Type 0
PayloadCanFail m p = m.can_fail p.medium ⊎ ((bytes : List ℕ) → m.holds p.medium bytes → length bytes ≡ p.len → ⊥)

-- A payload with blocks of `size` bytes was opened on `medium`: the medium's length was read, once.
-- If that failed, there is no payload.
abbrev pub IsOpened : {M : Type 0} → MediumKind M → M → ℕ → Result (FiledPayload M) MediumFailed → Type 0
IsOpened m medium size (Ok p) = IsMediumCall m medium (Len (Ok p.len)) p.medium × (p.size ≡ size) × (p.failures ≡ 0)
IsOpened {M} m medium size (Err failed) = (after : M) × IsMediumCall m medium (Len (Err failed)) after

-- the offset at which this block begins, or the end of the payload
abbrev pub begin_of : {M : Type 0} → FiledPayload M → ℕ → ℕ
begin_of p block = min (block * p.size) p.len

-- One read of a block. The medium is read once, from the beginning of the block. The read asks for
-- the bytes that the payload has from there on, as far as the buffer has room. The block is these
-- bytes, padded with zero bytes. If the medium failed or gave fewer bytes, the read failed.
pub record IsPayloadRead {M : Type 0} (m : MediumKind M) (old : FiledPayload M) (block : ℕ) (into : List ℕ)
    (result : Result Unit SourceFailed) (new : FiledPayload M) (given : List ℕ) : Type 0 where
  pub part : List ℕ
  pub found : Result ℕ MediumFailed
  pub call : IsMediumCall m old.medium (ReadAt (begin_of old block) part found) new.medium
  pub asked : length part ≡ min (old.len - begin_of old block) (length into)
  pub gives : MatchResult result (λ _. (found ≡ Ok (length part)) × (given ≡ part ++ replicate (length into - length part) 0))
      (λ _. found ≢ Ok (length part))
  pub same : (new.len ≡ old.len) × (new.size ≡ old.size)

-- the run that the arguments describe, with this number of blocks
abbrev pub run_in_blocks : DumpLine → ℕ → ℕ → ℕ → PlainRun
run_in_blocks line date since blocks = plain_run line.device.now line.fs.now line.level date since line.block blocks

-- the run that the arguments describe, for a payload of this many bytes
abbrev pub line_run : DumpLine → ℕ → ℕ → ℕ → PlainRun
line_run line date since bytes = run_in_blocks line date since (blocks_for line.block bytes)

-- the payload has the block size and the number of blocks of the run
abbrev pub IsRunsPayload : {M : Type 0} → PlainRun → FiledPayload M → Type 0
IsRunsPayload run p = (p.size ≡ run.block_bytes) × (run.blocks ≡ blocks_for p.size p.len)
