-- What a reader of replies gives is what the bytes begin with, and nothing else.
use Rattle.rmt_wire.proofs.Words.{Err, List, None, Ok, Option, Result, Some, [], arith, refl, ℕ, ◌++◌, ◌∷◌, ◌≡◌, Parsed, PlainReply, Wanted, SpellsReply, ReplyParsesAs, ReplyIsCause, reply_front, WireFault, TooMuchData}
use Rattle.rmt_wire.proofs.Align.{no_cons}
use Rattle.rmt_wire.proofs.Grammars.{Gives, answer_to, rest_behind, one_text, gives_of, one_gift}
use Rattle.rmt_wire.proofs.Replies.{reply_grammar, reply_seen, reply_view}

pub one_reply : (wanted : Wanted) (text more : List ℕ) (reply other : PlainReply) → SpellsReply text reply wanted → SpellsReply (text ++ more) other wanted
    → (more ≡ []) × (reply ≡ other)
one_reply wanted text more reply other s t = one_text (reply_grammar wanted) (reply_seen wanted) text more reply other s t

-- what is given of the grammar is given of replies
parses : (wanted : Wanted) (bytes : List ℕ) (answer : Parsed PlainReply) (rest : List ℕ) → Gives (reply_grammar wanted) bytes answer rest
    → ReplyParsesAs (Some wanted) bytes answer rest
parses wanted bytes (Err fault) rest g = search
parses wanted bytes other rest g = g

-- and the other way round
parsed : (wanted : Wanted) (bytes : List ℕ) (answer : Parsed PlainReply) (rest : List ℕ) → ReplyParsesAs (Some wanted) bytes answer rest
    → Gives (reply_grammar wanted) bytes answer rest
parsed wanted bytes (Err fault) rest g = search
parsed wanted bytes other rest g = g

-- what is seen of the bytes is what a reader is to give of them
pub gives : (wanted : Wanted) (bytes : List ℕ) (seen : Parsed (PlainReply × ℕ)) → reply_front wanted bytes ≡ seen
    → ReplyParsesAs (Some wanted) bytes (answer_to seen) (rest_behind seen bytes)
gives wanted bytes seen e = parses wanted bytes (answer_to seen) (rest_behind seen bytes)
    (gives_of (reply_grammar wanted) (reply_seen wanted) bytes seen (reply_view wanted bytes) e)

cause_same : (wanted : Wanted) (seen : List ℕ) (byte : ℕ) (f g : WireFault) → ReplyIsCause wanted seen byte f → ReplyIsCause wanted seen byte g → f ≡ g
cause_same wanted seen byte f g p q = grind arith

-- at each place a reader can give one thing only
pub one_answer : (wanted : Option Wanted) (bytes rest other : List ℕ) (answer another : Result (Option PlainReply) WireFault)
    → ReplyParsesAs wanted bytes answer rest
    → ReplyParsesAs wanted bytes another other → (answer ≡ another) × (rest ≡ other)
one_answer None bytes rest other answer another p q = grind arith
one_answer (Some wanted) bytes rest other answer another p q =
    one_gift (reply_grammar wanted) (reply_seen wanted) (cause_same wanted) bytes rest other answer another (parsed wanted bytes answer rest p)
    (parsed wanted bytes another other q)

-- and one thing there is
pub some_answer_of : (wanted : Option Wanted) (bytes : List ℕ)
    → (answer : Result (Option PlainReply) WireFault) × (rest : List ℕ) × ReplyParsesAs wanted bytes answer rest
some_answer_of None [] = (Ok None, [], (refl, refl))
some_answer_of None (b ∷ bytes) = (Err TooMuchData, b ∷ bytes, (no_cons b bytes, refl, refl))
some_answer_of (Some wanted) bytes =
    let seen = reply_front wanted bytes in
    (answer_to seen, rest_behind seen bytes, gives wanted bytes seen refl)
