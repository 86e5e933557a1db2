-- Each reply has a spelling, which is short.
use Rattle.std.proofs.Common.{ℕ, ◌≡◌, ◌≤◌, List, [], ◌∷◌, ◌++◌, ◌+◌, length, Result, Ok, Err, arith, length-append, length-take, take, decimal}
use Rattle.std.proofs.lemmas.Fmt.{length-decimal-le}
use Rattle.rmt_wire.specs.Number.{line_feed}
use Rattle.rmt_server.proofs.Names.{ReplyHasSpelling, reply_text, Done, RECORD_LIMIT, READER_LIMIT, Refusal, NoSuchFile, Number, Bytes, refused}
use Rattle.rmt_server.proofs.Names.{number_of, outcome_reply, IsOutcomeSayable, text_of}
use Rattle.rmt_server.specs.declared.session.dispatch.Given.{Given}

-- the text of an error is one short line
refused_spelled : (r : Refusal) → ReplyHasSpelling (refused r)
refused_spelled NoSuchFile = omega arith
refused_spelled r = omega arith

-- a line that begins with a number, and what follows it
after_number : (n : ℕ) (rest : List ℕ) → n ≤ 2147483647 → length (decimal n ++ line_feed ∷ rest) ≤ 11 + length rest
after_number n rest small =
    omega (arith, length-append (decimal n) (line_feed ∷ rest), length-decimal-le 10 n (omega arith) (omega arith) (omega arith))

-- a number's reply is short
pub number_short : (n : ℕ) → n ≤ 2147483647 → length (reply_text (Done n)) ≤ READER_LIMIT
number_short n small = omega (arith, after_number n [] small)

pub outcome_spelled : (outcome : Result Given Refusal) (buffer : List ℕ) → length buffer ≡ RECORD_LIMIT → IsOutcomeSayable outcome
    → ReplyHasSpelling (outcome_reply outcome buffer) × (length (reply_text (outcome_reply outcome buffer)) ≤ READER_LIMIT)
outcome_spelled (Ok (Number n)) buffer l h = (h, number_short n h)
outcome_spelled (Ok (Bytes n)) buffer l h =
    let few : length (take n buffer) ≤ RECORD_LIMIT = omega (arith, length-take n buffer) in
    (omega (arith, few), omega (arith, after_number (length (take n buffer)) (take n buffer) (omega (arith, few)), few))
outcome_spelled (Err r) buffer l h =
    let s = refused_spelled r in
    (s, omega (arith, after_number (number_of r) (text_of r ++ line_feed ∷ []) s.0, length-append (text_of r) (line_feed ∷ []), s.1))
