-- A record file: a reel's entries as bytes (the format is this project's own). `m` has the promises
-- of the kind of medium, and `t` is a tape. Public contracts cite it.
use Rattle.std.specs.Prelude.{◌≡◌, ◌≢◌, ◌⊎◌, ◌&&◌, ◌==◌, if◌then◌else◌, ℕ, zero, suc, ◌+◌, ◌*◌, ◌<◌, ◌≤◌, false, List, [], ◌∷◌, ◌++◌, length, take, drop, replicate, flat_map, nat_eq, nat_le, Option, Some, None, refl}
use Rattle.std.specs.Coded.{Coded, code_by, coded×, coded_ℕ}
use Rattle.std.specs.Int.{w32, to_le_bytes, from_le_bytes}
use Rattle.std.specs.List.{All, starts_with}
use Rattle.tape.specs.Failures.{Steps}
use Rattle.tape.specs.Tape.{PlainEntry, Tape, TapeRequest, TapeAnswer, IsEntryUpTo, entries_of, tape}
use Rattle.rmt_wire.specs.declared.limits.TheConstants.{RECORD_LIMIT}
use Rattle.tape.specs.Tape.PlainEntry.{Record, Mark}
use Rattle.tape.specs.Tape.TapeRequest.{Write, WriteMarks}
use Rattle.tape.specs.Tape.TapeAnswer.{Done, Fault}
use Rattle.tape.specs.Call.{ReelKind, reel_kind}
use Rattle.tape.specs.Medium.{MediumKind, medium_kind}
use Rattle.tape.specs.declared.medium.Medium.{Ghosts as MediumPromise}
use Rattle.tape.specs.declared.fault.TapeFault.TheVariants.{Device}

-- A length as it is in the file: 4 bytes, little-endian.
unfoldable pub length_bytes : ℕ → List ℕ
length_bytes n = to_le_bytes w32 n

-- The image of an entry. A record's is its length, its bytes and its length again. A mark's is the
-- length 0.
abbrev pub image_of : PlainEntry → List ℕ
image_of (Record bytes) = length_bytes (length bytes) ++ (bytes ++ length_bytes (length bytes))
image_of Mark = length_bytes 0

-- The images of the entries, joined.
abbrev pub images_of : List PlainEntry → List ℕ
images_of entries = flat_map image_of entries

-- The bytes do not begin with the image of an entry whose record has at most `most` bytes.
abbrev pub IsTailUpTo : ℕ → List ℕ → Type 0
IsTailUpTo most tail = (entry : PlainEntry) (rest : List ℕ) → IsEntryUpTo most entry → tail ≢ image_of entry ++ rest

-- The bytes do not begin with the image of an entry whose record has at most `RECORD_LIMIT` bytes.
abbrev pub IsTail : List ℕ → Type 0
IsTail tail = IsTailUpTo RECORD_LIMIT tail

-- The bytes spell these entries: they are the images of the entries and a tail, which is ignored. A
-- record has at most `most` bytes.
pub record SpellsReelUpTo (most : ℕ) (bytes : List ℕ) (entries : List PlainEntry) : Type 0 where
  pub tail : List ℕ
  pub whole : bytes ≡ images_of entries ++ tail
  pub is_tail : IsTailUpTo most tail
  pub lawful : All (IsEntryUpTo most) entries

-- The bytes spell these entries, whose records have at most `RECORD_LIMIT` bytes. A tail is
-- ignored.
abbrev pub SpellsReel : List ℕ → List PlainEntry → Type 0
SpellsReel bytes entries = SpellsReelUpTo RECORD_LIMIT bytes entries

-- What a writer leaves whenever it is stopped: the images of entries, and the beginning of one more
-- image, perhaps all of it. Its records have at most `most` bytes.
pub record IsWrittenUpTo (most : ℕ) (bytes : List ℕ) : Type 0 where
  pub entries : List PlainEntry
  pub next : PlainEntry
  pub begun : List ℕ
  pub unwritten : List ℕ
  pub lawful : All (IsEntryUpTo most) entries
  pub next_lawful : IsEntryUpTo most next
  pub image : image_of next ≡ begun ++ unwritten
  pub whole : bytes ≡ images_of entries ++ begun

-- The bytes spell the entries of this tape, and its place is at this offset.
pub record IsFile (bytes : List ℕ) (offset : ℕ) (t : Tape) : Type 0 where
  pub spelled : SpellsReel bytes (entries_of t)
  pub offset_is : offset ≡ length (images_of t.before)

-- The entry whose image the bytes begin with, if there is one.
unfoldable pub first_in : List ℕ → Option PlainEntry
first_in bytes =
    let n = from_le_bytes w32 (take 4 bytes) in
    let entry = if n == 0 then Mark else Record (take n (drop 4 bytes)) in
    if nat_le n RECORD_LIMIT && starts_with nat_eq bytes (image_of entry) then Some entry else None

-- The entries whose images the bytes begin with, one after the other, but at most `most` of them.
unfoldable pub entries_within : ℕ → List ℕ → List PlainEntry
entries_within zero bytes = []
entries_within (suc most) bytes =
    elim (first_in bytes) [ None ↦ [] | Some entry ↦ entry ∷ entries_within most (drop (length (image_of entry)) bytes) ]

-- The entries that the bytes spell. There are at most as many entries as bytes.
abbrev pub entries_in : List ℕ → List PlainEntry
entries_in bytes = entries_within (length bytes) bytes

-- The tape that the bytes spell, with its place at this offset.
abbrev pub tape_in : ℕ → List ℕ → Tape
tape_in offset bytes = tape (entries_in (take offset bytes)) (entries_in (drop offset bytes))

-- The view of a reel on a medium: the medium, the offset of the place, and the capacity, in bytes.
pub record FileTape (M : Type 0) : Type 0 where
  pub medium : M
  pub offset : ℕ
  pub capacity : ℕ

-- A `FileTape` is encoded as the tuple of its fields.
abbrev pub file_tape_code : {M : Type 0} → Coded M → Coded (FileTape M)
file_tape_code {M} code =
    code_by
    (M × (ℕ × ℕ))
    (coded× code (coded× coded_ℕ coded_ℕ))
    (λ r. (r.medium, (r.offset, r.capacity)))
    (λ p. record { medium = p.0; offset = p.1.0; capacity = p.1.1 })
    (λ _. refl)

-- If the medium's bytes are known, the reel holds the tape that they spell.
abbrev pub HoldsTape : {M : Type 0} → (M → List ℕ → Type 0) → FileTape M → Tape → Type 0
HoldsTape holds r t = (bytes : List ℕ) × holds r.medium bytes × IsFile bytes r.offset t

-- How many bytes a call adds to the medium at most.
abbrev pub image_added : TapeRequest → ℕ
image_added (Write bytes) = length bytes + 8
image_added (WriteMarks count) = 4 * count
image_added _ = 0

-- The entries that a call writes if its answer is `Done`.
abbrev pub entries_written : TapeRequest → List PlainEntry
entries_written (Write bytes) = Record bytes ∷ []
entries_written (WriteMarks count) = replicate count Mark
entries_written _ = []

-- If the medium's bytes are known before a call, they are known after it. They are then the bytes
-- that were before the place, followed by the images of these entries and nothing else.
abbrev pub EndsInEntries : {M : Type 0} → MediumKind M → List PlainEntry → FileTape M → FileTape M → Type 0
EndsInEntries m entries old new =
    Steps m.holds old.medium new.medium (λ bytes left. left ≡ take old.offset bytes ++ images_of entries)

-- What a call of a reel on such a medium promises in addition to the promises of every reel. The
-- answer is `Device` only if the medium can fail, or if its room is too small for what was to be
-- written. No call makes the medium able to fail. Only written bytes use up its room. If a call that
-- writes entries is done, the medium's bytes end with these entries.
pub record IsFileCall {M : Type 0} (m : MediumKind M) (old new : FileTape M) (request : TapeRequest) (answer : TapeAnswer) : Type 0 where
  pub cause : answer ≡ Fault Device → m.can_fail old.medium ⊎ (m.spare old.medium < image_added request)
  pub quiet : m.can_fail new.medium → m.can_fail old.medium
  pub room : m.spare old.medium ≤ m.spare new.medium + image_added request
  pub exact : answer ≡ Done → 0 < image_added request → EndsInEntries m (entries_written request) old new

-- The promises of media of a type.
abbrev pub medium_kind_of : {M : Type 0} → MediumPromise M → MediumKind M
medium_kind_of m = medium_kind m.holds m.failures m.can_fail m.spare

-- The promises of a reel on such a medium. Among those of every reel, its device can always fail.
abbrev pub file_reel_kind : {M : Type 0} → MediumKind M → ReelKind (FileTape M)
file_reel_kind m =
    reel_kind (HoldsTape m.holds) (λ r. r.capacity) (λ r. m.failures r.medium) (λ _. Unit {0})
    (λ old new request answer. IsFileCall m old new request answer) false
