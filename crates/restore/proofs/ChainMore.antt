-- Linked volumes, and one more.
use Rattle.std.proofs.Common.{◌≡◌, ℕ, ◌+◌, ◌<◌, List, [], ◌∷◌, ◌++◌, length, get_or, refl, sym, ap, ◌∙◌, arith}
use Rattle.std.proofs.lemmas.List.Elements.{All-contains, All-cons, All-nil, Contains-append_left, Contains-push}
use Rattle.std.proofs.lemmas.List.Sums.{sum_by-append, sum_by-cons}
use Rattle.std.specs.Prelude.{All, IfOk, Result, Ok, Err}
use Rattle.dump_run.specs.DumpId.{PlainId}
use Rattle.dump_run.specs.Label.{PlainLabel, AreLabelsOfOneDump, id_of}
use Rattle.restore.specs.Chain.{AreAlike, AreLinked, IsAmong, IsChain, IsReelOf, block_count}
use Rattle.restore.specs.Found.{IsFound}
use Rattle.restore.specs.Volumes.{volume_label}
use Rattle.restore.specs.declared.volume.FoundVolume.{FoundVolume}

-- the volume is on its reel
abbrev pub IsOnReel : List (List ℕ) → FoundVolume → Type 0
IsOnReel reels f = (blocks : List (List ℕ)) × IsFound reels f blocks

-- a label is that of its dump
pub label_is : (l : PlainLabel) (volume first : ℕ) → l.volume ≡ volume → l.first ≡ first → l ≡ volume_label (id_of l) volume first
label_is l volume first is at = rw (← is, ← at) refl

pub same_id : (l m : PlainLabel) → AreLabelsOfOneDump l m → id_of m ≡ id_of l
same_id l m are = rw (are.0, are.1, are.2, are.3) refl

linked_push : (reels : List (List ℕ)) (id : PlainId) (size volume first : ℕ) (fs : List FoundVolume) (f : FoundVolume) → AreLinked reels id size volume first fs
    → f.label ≡ volume_label id (volume + length fs) (first + block_count fs) → f.block_bytes ≡ size → IsOnReel reels f
    → AreLinked reels id size volume first (fs ++ f ∷ [])
linked_push reels id size volume first [] f linked label same on =
    let number : volume + 0 ≡ volume = omega arith in
    let at : first + 0 ≡ first = omega arith in (rw (number, at) at label, same, on, tt)
linked_push reels id size volume first (g ∷ gs) f linked label same on =
    let number : volume + length (g ∷ gs) ≡ (volume + 1) + length gs = omega arith in
    let count = sum_by-cons (λ (h : FoundVolume). h.blocks) g gs in
    let at : first + block_count (g ∷ gs) ≡ (first + g.blocks) + block_count gs = omega arith in
    (linked.0, linked.1, linked.2, linked_push reels id size (volume + 1) (first + g.blocks) gs f linked.3 (rw (number, at) at label) same on)

-- the next volume
pub chain_push : (reels : List (List ℕ)) (fs : List FoundVolume) (end : ℕ) (f : FoundVolume) → IsChain reels fs end → f.label.volume ≡ length fs + 1
    → f.label.first ≡ end → AreAlike fs f → IsOnReel reels f → IsChain reels (fs ++ f ∷ []) (end + f.blocks)
chain_push reels [] end f chain number first alike on = ((label_is f.label 1 0 number (first ∙ chain), refl, on, tt), omega arith)
chain_push reels (g ∷ gs) end f chain number first alike on =
    let label = label_is f.label (1 + length (g ∷ gs)) (0 + block_count (g ∷ gs)) (omega arith) (omega (arith, chain.1))
    ∙ ap (λ id. volume_label id (1 + length (g ∷ gs)) (0 + block_count (g ∷ gs))) (same_id g.label f.label alike.0) in (
      linked_push reels (id_of g.label) g.block_bytes 1 0 (g ∷ gs) f chain.0 label (sym alike.1) on,
      omega (arith, chain.1, sum_by-append (λ (h : FoundVolume). h.blocks) (g ∷ gs) (f ∷ [])),
    )

linked_found : (reels : List (List ℕ)) (id : PlainId) (size volume first : ℕ) (fs : List FoundVolume) → AreLinked reels id size volume first fs → All (IsOnReel reels) fs
linked_found reels id size volume first [] linked = All-nil (IsOnReel reels)
linked_found reels id size volume first (f ∷ fs) linked =
    All-cons (IsOnReel reels) f fs linked.2 (linked_found reels id size (volume + 1) (first + f.blocks) fs linked.3)

chain_found : (reels : List (List ℕ)) (fs : List FoundVolume) (end : ℕ) → IsChain reels fs end → All (IsOnReel reels) fs
chain_found reels [] end chain = All-nil (IsOnReel reels)
chain_found reels (f ∷ fs) end chain = linked_found reels (id_of f.label) f.block_bytes 1 0 (f ∷ fs) chain.0

-- each reel of a chain is one of the shelf
pub reel_within : (reels : List (List ℕ)) (fs : List FoundVolume) (end reel : ℕ) → IsChain reels fs end → IsReelOf fs reel → reel < length reels
reel_within reels fs end reel chain of = let on = All-contains (IsOnReel reels) fs of.0 (chain_found reels fs end chain) of.1 in rw of.2 at on.1.0.0

-- a reel with the same bytes is among those of the volumes
pub among_equal : (reels : List (List ℕ)) (fs : List FoundVolume) (reel other : ℕ) → IsReelOf fs reel → get_or reels other [] ≡ get_or reels reel [] → IsAmong reels fs other
among_equal reels fs reel other of is = (of.0, of.1, ap (λ n. get_or reels n []) of.2 ∙ sym is)

-- and so is that of a volume that was added
pub among_added : (reels : List (List ℕ)) (fs : List FoundVolume) (f : FoundVolume) → IsAmong reels (fs ++ f ∷ []) f.reel
among_added reels fs f = (f, Contains-push fs f, refl)

-- and each that was before
pub among_still : (reels : List (List ℕ)) (fs : List FoundVolume) (f : FoundVolume) (reel : ℕ) → IsAmong reels fs reel → IsAmong reels (fs ++ f ∷ []) reel
among_still reels fs f reel among = (among.0, Contains-append_left fs (f ∷ []) among.0 among.1, among.2)

-- two facts of one result
pub ok_both : {X E : Type 0} (r : Result X E) (P Q : X → Type 0) → IfOk r P → IfOk r Q → IfOk r (λ x. P x × Q x)
ok_both (Ok x) P Q p q = (p, q)
ok_both (Err e) P Q p q = p
