use Rattle.rmt_wire.proofs.Words.{List, length, subst, sym, ℕ, ◌≡◌, ◌≤◌, request_text, IsTextOf, Write, RECORD_LIMIT}
use Rattle.rmt_wire.proofs.Spelling.{request_text_spells}
use Rattle.rmt_wire.proofs.request.append.push_write_line.Goals as goal

spells : (count : ℕ) (bytes : List ℕ) → count ≤ RECORD_LIMIT → length bytes ≡ count → IsTextOf (request_text (Write bytes)) (Write bytes)
spells count bytes small long = request_text_spells (Write bytes) (subst (λ n. n ≤ RECORD_LIMIT) (sym long) small)

pub returns-in_err-reserve-clause-spelled : goal.returns-in_err-reserve-clause-spelled
returns-in_err-reserve-clause-spelled c = λ bytes long. spells c.args.count bytes c.requires long

pub returns-clause-spelled : goal.returns-clause-spelled
returns-clause-spelled c = λ bytes long. spells c.args.count bytes c.requires long
