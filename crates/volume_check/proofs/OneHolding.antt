-- The entries of a reel are of one holding only.
use Rattle.volume_check.proofs.Words.{◌≡◌, ◌≢◌, inl, inr, ℕ, List, [], ◌∷◌, ◌++◌, length, refl, sym, ap, ◌∙◌, arith, All-head, All-tail, map, All}
use Rattle.volume_check.proofs.Words.{PlainEntry, Record, PlainLabel, IsLabel, label_record, IsEnd, IsVolume, IsHolding, Holding, Volume, VolumeEnd}
use Rattle.volume_check.specs.declared.holding.Holding.TheVariants as holding

-- a record is the label of one volume at most
abbrev pub OneLabel : Type 0
OneLabel = (l m : PlainLabel) → IsLabel l → IsLabel m → label_record l ≡ label_record m → l ≡ m

-- no record comes first
abbrev NoRecord : List PlainEntry → Type 0
NoRecord rest = (bytes : List ℕ) (more : List PlainEntry) → rest ≢ Record bytes ∷ more

no_record : (end : VolumeEnd) (rest : List PlainEntry) → IsEnd end rest → NoRecord rest
no_record end rest is bytes more other = grind arith

-- what follows the blocks is one end
one_end : (e f : VolumeEnd) (rest : List PlainEntry) → IsEnd e rest → IsEnd f rest → e ≡ f
one_end e f rest is other = grind arith

-- the blocks are the records before the first entry that is none
one_split : (bs cs : List (List ℕ)) (r s : List PlainEntry) → map Record bs ++ r ≡ map Record cs ++ s → NoRecord r → NoRecord s → (bs ≡ cs) × (r ≡ s)
one_split [] [] r s is none also = (refl, is)
one_split [] (c ∷ cs) r s is none also = absurd (none c (map Record cs ++ s) is)
one_split (b ∷ bs) [] r s is none also = absurd (also b (map Record bs ++ r) (sym is))
one_split (b ∷ bs) (c ∷ cs) r s is none also = grind (arith, one_split bs cs r s (cc) none also)

-- and have one length
one_size : (bs : List (List ℕ)) (n m : ℕ) → All (λ b. length b ≡ n) bs → All (λ b. length b ≡ m) bs → (bs ≡ [] → n ≡ 0) → (bs ≡ [] → m ≡ 0) → n ≡ m
one_size [] n m is other none also = none refl ∙ sym (also refl)
one_size (b ∷ bs) n m is other none also = sym (All-head (λ x. length x ≡ n) b bs is) ∙ All-head (λ x. length x ≡ m) b bs other

-- a record before the end of the blocks is a block
is_block : (before blocks : List (List ℕ)) (other : List ℕ) (rest r : List PlainEntry) (n : ℕ)
    → map Record before ++ Record other ∷ rest ≡ map Record blocks ++ r → NoRecord r → All (λ b. length b ≡ n) blocks → length other ≡ n
is_block [] [] other rest r n is none sizes = absurd (none other rest (sym is))
is_block [] (b ∷ bs) other rest r n is none sizes = grind (arith, All-head (λ x. length x ≡ n) b bs sizes)
is_block (c ∷ cs) [] other rest r n is none sizes = absurd (none c (map Record cs ++ Record other ∷ rest) (sym is))
is_block (c ∷ cs) (b ∷ bs) other rest r n is none sizes = is_block cs bs other rest r n (cc) none (All-tail (λ x. length x ≡ n) b bs sizes)

same_volume : OneLabel → (v w : Volume) (entries : List PlainEntry) → IsVolume v.label v.blocks v.block_bytes v.end entries
    → IsVolume w.label w.blocks w.block_bytes w.end entries → v ≡ w
same_volume one v w entries a b =
    let both = sym a.whole ∙ b.whole in let records : label_record v.label ≡ label_record w.label = cc in
    let (blocks, rest) = one_split a.blocks b.blocks a.rest b.rest (cc) (no_record v.end a.rest a.end_is) (no_record w.end b.rest b.end_is) in
    let labels = one v.label w.label a.label b.label records in let counts = a.counted ∙ ap length blocks ∙ sym b.counted in
    let sizes = one_size a.blocks v.block_bytes w.block_bytes a.sizes (rw blocks b.sizes) a.none (rw blocks b.none) in
    let ends = one_end v.end w.end a.rest a.end_is (rw rest b.end_is) in
    let of : PlainLabel → ℕ → ℕ → VolumeEnd → Volume = λ l count size end. record { label = l; blocks = count; block_bytes = size; end = end } in
    let same : of v.label v.blocks v.block_bytes v.end ≡ of w.label w.blocks w.block_bytes w.end = rw (labels, counts, sizes, ends) refl in same

-- what is a volume is nothing else
not_foreign : (v : Volume) (entries : List PlainEntry) → IsHolding (holding.Volume v) entries → IsHolding holding.Foreign entries → ⊥
not_foreign v entries a (inl marked) = let both = sym a.whole ∙ marked.whole in cc
not_foreign v entries a (inr (inl other)) =
    let both = sym a.whole ∙ other.whole in let is : other.bytes ≡ label_record v.label = cc in other.no_label v.label a.label is
not_foreign v entries a (inr (inr two)) =
    let both = sym two.whole ∙ a.whole in
    let behind : map Record (two.first ∷ two.blocks) ++ Record two.other ∷ two.rest ≡ map Record a.blocks ++ a.rest = cc in
    let none = no_record v.end a.rest a.end_is in
    let first = is_block [] a.blocks two.first (map Record two.blocks ++ Record two.other ∷ two.rest) a.rest v.block_bytes behind none a.sizes in
    two.differs (is_block (two.first ∷ two.blocks) a.blocks two.other two.rest a.rest v.block_bytes behind none a.sizes ∙ sym first)

pub one_of : OneLabel → (h k : Holding) (entries : List PlainEntry) → IsHolding h entries → IsHolding k entries → h ≡ k
one_of one (holding.Volume v) (holding.Volume w) entries a b = ap holding.Volume (same_volume one v w entries a b)
one_of one (holding.Volume v) holding.Foreign entries a b = absurd (not_foreign v entries a b)
one_of one holding.Foreign (holding.Volume w) entries a b = absurd (not_foreign w entries b a)
one_of one h k entries a b = grind arith

-- the parts of a volume determine what is held
pub volume_of : OneLabel → (l : PlainLabel) (count size : ℕ) (end : VolumeEnd) (entries others : List PlainEntry) (h k : Holding)
    → IsVolume l count size end entries → IsVolume l count size end others → IsHolding h entries → IsHolding k others → h ≡ k
volume_of one l count size end entries others h k a b held also =
    let v : Holding = holding.Volume (record { label = l; blocks = count; block_bytes = size; end = end }) in
    one_of one h v entries held a ∙ sym (one_of one k v others also b)
