-- Reels of a stack by their places, and the reels of counts.
-- A request that is carried out takes no reel from the bin: MTOFFL lays one after the others, and all else leaves it.
-- The effect of one request at the only drive, if no device call fails.
use Rattle.world_model.proofs.Basics.{◌≡◌, ℕ, zero, suc, ◌==◌, if◌then◌else◌, Bool, true, false, inl, inr, List, [], ◌∷◌, ◌++◌, length, length-append, map, take, drop, Some, Contains, refl, sym, ap, ◌∙◌, arith, slice_get, ◌+◌, get_or, Contains-append_right, Contains-append_cases, Contains-push_cases, eqb_tells, None, append-nil, ◌⊎◌, ◌<◌, ◌≤◌}
use Rattle.world_model.proofs.Terms.{Record, names_of, Begun, Count, Opening, opening, reel_opened_by, block_records, volume_slot, Trouble, PlainRequest, Write, Op, PlainReply, KeptReel, ReelSlot, TapeLibrary, SessionView, TroubledServeStep, TroubledReelStep, TroubledMoveStep, PlainEntry, Tape, tape, offset_of, RECORD_LIMIT, NoTrouble, Done, Error, ENOENT, ENOMEM, ENXIO, O_RDWR, MTOFFL, kept_reel, slot, Both, plain_reel, session_view, Idle, Offline, Online, PlainDriveSpec, blanks, one_drive}
use Rattle.rmt_wire.specs.Request.PlainRequest.{Open}

-- one reel further down the stack
pub next_of : (xs : List (List ℕ)) (n : ℕ) (x : List ℕ) (ys : List (List ℕ)) → drop n xs ≡ x ∷ ys
    → (take (suc n) xs ≡ take n xs ++ x ∷ []) × (drop (suc n) xs ≡ ys)
next_of [] zero x ys is = absurd cc
next_of [] (suc n) x ys is = absurd cc
next_of (z ∷ xs) zero x ys is = grind arith
next_of (z ∷ xs) (suc n) x ys is = let on = next_of xs n x ys is in (ap (λ l. z ∷ l) on.0, on.1)

-- the reel of a count is that of its place
pub count_reel : (counts : List Count) (reels : List (List ℕ)) (i : ℕ) (x : Count) → map (λ (y : Count). y.reel) counts ≡ take (length counts) reels
    → slice_get counts i ≡ Some x → slice_get reels i ≡ Some x.reel
count_reel (y ∷ counts) (r ∷ reels) (suc i) x same at = count_reel counts reels i x (cc) at
count_reel counts reels i x same at = grind arith

pub length_push : {X : Type 0} (xs : List X) (x : X) → length (xs ++ x ∷ []) ≡ suc (length xs)
length_push xs x = let size = length-append xs (x ∷ []) in omega (arith, size)

-- what is the same for each member is so for the list
pub map_same : {X Y : Type 0} (f g : X → Y) (xs : List X) → ((x : X) → Contains xs x → f x ≡ g x) → map f xs ≡ map g xs
map_same f g [] same = refl
map_same f g (x ∷ xs) same =
    let first = same x (0, omega arith, refl) in
    grind (arith, map_same f g xs (λ y among. same y (Contains-append_right (x ∷ []) xs y among)))

-- the slots of volumes have the names of the counts' reels
pub slot_names : (capacity : ℕ) (begun : List Begun) (counts : List Count) → names_of (map (volume_slot capacity begun) counts) ≡ map (λ (x : Count). x.reel) counts
slot_names capacity begun [] = refl
slot_names capacity begun (x ∷ counts) = ap (λ l. x.reel ∷ l) (slot_names capacity begun counts)

-- one block more
pub blocks_more : (payload : List (List ℕ)) (first count : ℕ)
    → block_records payload first (suc count) ≡ block_records payload first count ++ Record (get_or payload (first + count) []) ∷ []
blocks_more payload first (suc count) = grind (arith, blocks_more payload (suc first) count)
blocks_more payload first count = grind arith

-- the reel of the connection that opened this one, and no other
reel_first : (k : ℕ) (o : Opening) (rest : List Opening) (name : List ℕ) (b : Bool) → (o.connection == k) ≡ b → Contains (o ∷ rest) (opening k name)
    → ((p q : Opening) → Contains (o ∷ rest) p → Contains (o ∷ rest) q → p.connection ≡ k → q.connection ≡ k → p.reel ≡ q.reel)
    → (Contains rest (opening k name) → reel_opened_by k rest ≡ name) → (if b then o.reel else reel_opened_by k rest) ≡ name
reel_first k o rest name true test among one on =
    let same = one o (opening k name) (0, omega arith, refl) among in
    grind (arith, eqb_tells)
reel_first k o rest name false test among one on = elim (Contains-append_cases (o ∷ []) rest (opening k name) among) [
  | inl here ↦ grind (arith, eqb_tells, Contains-push_cases)
  | inr behind ↦ on behind
]

pub reel_is : (k : ℕ) (opens : List Opening) (name : List ℕ) → Contains opens (opening k name)
    → ((p q : Opening) → Contains opens p → Contains opens q → p.connection ≡ k → q.connection ≡ k → p.reel ≡ q.reel) → reel_opened_by k opens ≡ name
reel_is k [] name among one = grind arith
reel_is k (o ∷ rest) name among one =
    reel_first k o rest name (o.connection == k) refl among one
    (λ behind. reel_is k rest name behind (λ p q x y. one p q (Contains-append_right (o ∷ []) rest p x) (Contains-append_right (o ∷ []) rest q y)))

-- the bin has those reels, and perhaps more after them
abbrev pub Behind : List (ReelSlot KeptReel) → List (ReelSlot KeptReel) → Type 0
Behind before after = (more : List (ReelSlot KeptReel)) × (after ≡ before ++ more)

pub same_bin : (before after : List (ReelSlot KeptReel)) → after ≡ before → Behind before after
same_bin before after is = ([], is ∙ sym (append-nil before))

as_session_view : (before after : SessionView) → after ≡ before → Behind before.library.bin after.library.bin
as_session_view before after is = same_bin before.library.bin after.library.bin (ap (λ (v : SessionView). v.library.bin) is)

reel_bin : (trouble : Trouble) (before : SessionView) (request : PlainRequest) (reply : PlainReply) (after : SessionView) → TroubledReelStep trouble before request reply after
    → Behind before.library.bin after.library.bin
reel_bin trouble before request reply after given = grind (arith, same_bin)

move_bin : (trouble : Trouble) (before : SessionView) (count : ℕ) (reply : PlainReply) (after : SessionView) → TroubledMoveStep trouble before count reply after
    → Behind before.library.bin after.library.bin
move_bin trouble before count reply after given = grind (arith, same_bin)

pub served_bin : (trouble : Trouble) (holders : List ℕ) (before : SessionView) (request : PlainRequest) (reply : PlainReply) (after : SessionView)
    → TroubledServeStep trouble holders before request reply after → Behind before.library.bin after.library.bin
served_bin trouble holders before (Op op count) reply after step = grind (arith, same_bin, reel_bin, move_bin, as_session_view)
served_bin trouble holders before request reply after step = grind (arith, same_bin, reel_bin, as_session_view)

-- want of memory
abbrev pub IsScarce : PlainReply → Type 0
IsScarce reply = (words : List ℕ) × (reply ≡ Error ENOMEM words)

-- the open took the next reel, or left all as it was
pub record Opened (drive : PlainDriveSpec) (names : List (List ℕ)) (bin : List (ReelSlot KeptReel)) (reply : PlainReply) (after : SessionView) : Type 0 where
  pub name : List ℕ
  pub others : List (List ℕ)
  pub next : names ≡ name ∷ others
  pub replies : reply ≡ Done 0
  pub library : after.library ≡ one_drive drive (slot name None ∷ blanks drive others) bin
  pub session : after.session ≡ Online 0 Both (plain_reel (tape [] []) drive.capacity)

-- no drive or no reel
pub record Refused (before : TapeLibrary) (reply : PlainReply) (after : SessionView) : Type 0 where
  pub number : ℕ
  pub words : List ℕ
  pub is : reply ≡ Error number words
  pub why : (number ≡ ENOENT) ⊎ (number ≡ ENXIO)
  pub library : after.library ≡ before
  pub idle : after.session ≡ Idle

pub serve_open : (drive : PlainDriveSpec) (names : List (List ℕ)) (bin : List (ReelSlot KeptReel)) (device : List ℕ) (reply : PlainReply) (after : SessionView)
    → TroubledServeStep NoTrouble (0 ∷ []) (session_view (one_drive drive (blanks drive names) bin) Idle) (Open device O_RDWR) reply after
    → Opened drive names bin reply after ⊎ Refused (one_drive drive (blanks drive names) bin) reply after
serve_open drive [] bin device reply after given = grind arith
serve_open drive (name ∷ others) bin device reply after given = grind arith

-- the reel stands so in the drive
abbrev pub IsOnline : TapeLibrary → ℕ → Tape → SessionView → Type 0
IsOnline library capacity t after = after ≡ session_view library (Online 0 Both (plain_reel t capacity))

-- the record was written, or there is no room for it, or no memory
pub data Writes (library : TapeLibrary) (capacity : ℕ) (before : List PlainEntry) (bytes : List ℕ) (reply : PlainReply) (after : SessionView) : Type 0 where
  wrote : offset_of before + length bytes + 12 ≤ capacity → reply ≡ Done (length bytes)
      → IsOnline library capacity (tape (before ++ Record bytes ∷ []) []) after → Writes library capacity before bytes reply after
  full : capacity < offset_of before + length bytes + 12 → reply ≡ Done 0 → IsOnline library capacity (tape before []) after
      → Writes library capacity before bytes reply after
  scarce : IsScarce reply → IsOnline library capacity (tape before []) after → Writes library capacity before bytes reply after

pub serve_write : (library : TapeLibrary) (capacity : ℕ) (before : List PlainEntry) (bytes : List ℕ) (reply : PlainReply) (holders : List ℕ) (after : SessionView) → 0 < length bytes → length bytes ≤ RECORD_LIMIT
    → TroubledServeStep NoTrouble holders (session_view library (Online 0 Both (plain_reel (tape before []) capacity))) (Write bytes) reply after → Writes library capacity before bytes reply after
serve_write library capacity before bytes reply holders after some few step = grind arith

-- the reel went to the bin
pub serve_unload : (drive : PlainDriveSpec) (stack bin : List (ReelSlot KeptReel)) (name : List ℕ) (before : List PlainEntry) (reply : PlainReply) (holders : List ℕ) (after : SessionView)
    → TroubledServeStep NoTrouble holders (session_view (one_drive drive (slot name None ∷ stack) bin) (Online 0 Both (plain_reel (tape before []) drive.capacity))) (Op MTOFFL 1) reply after
    → (reply ≡ Done 1) × (after ≡ session_view (one_drive drive stack (bin ++ slot name (Some (kept_reel before drive.capacity)) ∷ [])) (Offline 0 Both))
serve_unload drive stack bin name before reply holders after given = grind (arith, append-nil)
