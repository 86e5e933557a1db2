-- A text that is cut at the first byte of a kind.
use Rattle.dump_run.proofs.Words.{Bool, true, false, if◌then◌else◌, ◌==◌, ◌≡◌, ◌≢◌, ℕ, zero, suc, ◌<◌, ◌≤◌, ◌^◌, List, [], ◌∷◌, ◌++◌, length, take, drop, get_or, decimal, Option, Some, None, refl, sym, ap, ◌∙◌, append_assoc, arith, IsInRange, decimal_is_IsNumeral, AllByRecursion, IsName, IsDevice}
use Rattle.dump_run.proofs.Words.{AreNumbers, count_text, joined, Lacks, NoFeed, IsCut, FindsText, VolumeCount}
use Rattle.std.specs.Borrow.{Bor}
use Rattle.std.specs.Str.Parse.{digits_value}
pub use Rattle.std.proofs.lemmas.List.{append_cancel_left as same_rest}
use Rattle.std.proofs.lemmas.Str.Parse.{digit_at}

lacks_tail : (byte b : ℕ) (text : List ℕ) → Lacks byte (b ∷ text) → Lacks byte text
lacks_tail byte b text lacks = λ i within. lacks (suc i) (omega (arith, within))

-- a text is cut in one way
pub one_cut : (byte : ℕ) (a b x y : List ℕ) → Lacks byte a → Lacks byte b → a ++ byte ∷ x ≡ b ++ byte ∷ y → (a ≡ b) × (x ≡ y)
one_cut byte [] [] x y la lb is = (refl, cc)
one_cut byte [] (c ∷ cs) x y la lb is = absurd (lb 0 (omega arith) (cc))
one_cut byte (c ∷ cs) [] x y la lb is = absurd (la 0 (omega arith) (cc))
one_cut byte (c ∷ cs) (d ∷ ds) x y la lb is =
    let more = one_cut byte cs ds x y (lacks_tail byte c cs la) (lacks_tail byte d ds lb) (cc) in (cc, more.1)

-- where there is no such byte, it is cut in none
pub no_cut : (byte : ℕ) (text a x : List ℕ) → Lacks byte text → text ≢ a ++ byte ∷ x
no_cut byte text [] x lacks is = lacks 0 (omega (arith, ap length is)) (ap (λ l. get_or l 0 0) is)
no_cut byte [] (c ∷ cs) x lacks is = cc
no_cut byte (b ∷ bs) (c ∷ cs) x lacks is = no_cut byte bs cs x (lacks_tail byte b bs lacks) (cc)

-- a word and what is cut after it
pub found_text : (word bytes after : List ℕ) (r : Option (Bor (List ℕ) × Bor (List ℕ))) → bytes ≡ word ++ after → IsCut 10 after r → FindsText word NoFeed bytes r
found_text word bytes after None is cut = λ text more lacks other.
    no_cut 10 after text more cut (same_rest word after (text ++ 10 ∷ more) (sym is ∙ other ∙ append_assoc word text (10 ∷ more)))
found_text word bytes after (Some p) is cut = (cut.0, is ∙ ap (λ l. word ++ l) cut.1 ∙ sym (append_assoc word p.0.now (10 ∷ p.1.now)))

-- the digits of a number are no such byte
pub lacks_decimal : (byte n : ℕ) → byte < 48 → n < 2 ^ 64 → Lacks byte (decimal n)
lacks_decimal byte n low small = λ i within same. omega (arith, (digit_at (decimal n) i (decimal_is_IsNumeral n small).0.1 within).0, same, low)

-- the value of the digits of a number is the number
pub value_of : (n : ℕ) → n < 2 ^ 64 → (decimal n ≡ decimal n) × (digits_value 10 (decimal n) ≡ n)
value_of n small = (refl, (decimal_is_IsNumeral n small).1)

-- two texts between the same word and a line feed are the same
pub one_after : (word bytes text other more later : List ℕ) → NoFeed text → NoFeed other → bytes ≡ (word ++ text) ++ 10 ∷ more
    → bytes ≡ (word ++ other) ++ 10 ∷ later → text ≡ other
one_after word bytes text other more later lacks clean is there =
    (one_cut 10 text other more later lacks clean
    (same_rest word _ _ (sym (append_assoc word text (10 ∷ more)) ∙ sym is ∙ there ∙ append_assoc word other (10 ∷ later)))).0

-- if the text between the word and the line feed is not of this kind, no text of this kind is found
pub other_kind : (kind : List ℕ → Type 0) (word bytes text more : List ℕ) → ((t : List ℕ) → kind t → NoFeed t) → NoFeed text
    → bytes ≡ (word ++ text) ++ 10 ∷ more → (kind text → ⊥) → FindsText word kind bytes None
other_kind kind word bytes text more lack lacks is differs other later its there =
    differs (rw (one_after word bytes text other more later lacks (lack other its) is there) its)

pub lacks_each : (byte : ℕ) (text : List ℕ) → AllByRecursion (λ b. b ≢ byte) text → Lacks byte text
lacks_each byte [] each i within = absurd (omega (arith, within))
lacks_each byte (b ∷ bs) each zero within = each.0
lacks_each byte (b ∷ bs) each (suc i) within = lacks_each byte bs each.1 i (omega (arith, within))

pub device_lacks : (text : List ℕ) → IsDevice text → NoFeed text
device_lacks text d = lacks_each 10 text d.1

printed : (text : List ℕ) → AllByRecursion (IsInRange 33 126) text → AllByRecursion (λ b. b ≢ 10) text
printed [] each = tt
printed (b ∷ bs) each = (λ same. omega (arith, each.0.0, same), printed bs each.1)

pub name_lacks : (text : List ℕ) → IsName text → NoFeed text
name_lacks text n = lacks_each 10 text (printed text n.1)

-- the bytes before the first space are the digits of the number that is spelled there
pub one_part : (text front after rest : List ℕ) (n : ℕ) → n ≤ 2147483647 → Lacks 32 front → text ≡ front ++ 32 ∷ after → text ≡ decimal n ++ 32 ∷ rest
    → (front ≡ decimal n) × (after ≡ rest)
one_part text front after rest n small lacks is there =
    one_cut 32 front (decimal n) after rest lacks (lacks_decimal 32 n (omega arith) (omega (arith, small))) (sym is ∙ there)

pub lacks_append : (byte : ℕ) (a b : List ℕ) → Lacks byte a → Lacks byte b → Lacks byte (a ++ b)
lacks_append byte [] b la lb i within = lb i within
lacks_append byte (c ∷ cs) b la lb zero within = la 0 (omega arith)
lacks_append byte (c ∷ cs) b la lb (suc i) within = lacks_append byte cs b (lacks_tail byte c cs la) lb i (omega (arith, within))

-- no byte of a word is a line feed
abbrev pub is_clean : List ℕ → Bool
is_clean [] = true
is_clean (b ∷ bs) = if b == 10 then false else is_clean bs

clean_each : (word : List ℕ) → is_clean word ≡ true → AllByRecursion (λ b. b ≢ 10) word
clean_each [] is = tt
clean_each (b ∷ bs) is = (grind (arith, is), clean_each bs (grind (arith, is)))

pub word_lacks : (word : List ℕ) → is_clean word ≡ true → NoFeed word
word_lacks word is = lacks_each 10 word (clean_each word is)

pub number_lacks : (word : List ℕ) (n : ℕ) → is_clean word ≡ true → n < 2 ^ 64 → NoFeed (word ++ decimal n)
number_lacks word n clean small = lacks_append 10 word (decimal n) (word_lacks word clean) (lacks_decimal 10 n (omega arith) small)

-- no line feed is in a count
pub count_lacks : (c : VolumeCount) → AreNumbers c → NoFeed (count_text c)
count_lacks c few =
    let space = word_lacks (32 ∷ []) refl in
    lacks_append 10 (decimal c.volume) _ (lacks_decimal 10 c.volume (omega arith) (omega (arith, few.volume)))
    (lacks_append 10 (32 ∷ []) _ space (lacks_append 10 (decimal c.first) _ (lacks_decimal 10 c.first (omega arith) (omega (arith, few.first)))
    (lacks_append 10 (32 ∷ []) _ space (lacks_decimal 10 c.count (omega arith) (omega (arith, few.count))))))

-- so many lines that begin the same bytes are the same
pub same_begun : (read lines : List (List ℕ)) (left right : List ℕ) → AllByRecursion NoFeed read → AllByRecursion NoFeed lines → length read ≤ length lines
    → joined read ++ left ≡ joined lines ++ right → (read ≡ take (length read) lines) × (left ≡ joined (drop (length read) lines) ++ right)
same_begun [] lines left right clean lack few is = (refl, is)
same_begun (r ∷ rs) [] left right clean lack few is = absurd (omega (arith, few))
same_begun (r ∷ rs) (l ∷ ls) left right clean lack few is =
    let one = one_cut 10 r l (joined rs ++ left) (joined ls ++ right) clean.0 lack.0 (simp append_assoc at is) in
    let others = same_begun rs ls left right clean.1 lack.1 (omega (arith, few)) one.1 in
    (cc, others.1)
