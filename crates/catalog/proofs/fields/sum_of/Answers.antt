use Rattle.std.proofs.Common.{◌≡◌, ◌*◌, length, ap, arith, ◌∙◌}
use Rattle.std.specs.Result.{result_ok}
use Rattle.hex.specs.Hex.{encode_lower, lower_digits, decode_sized}
use Rattle.hex.proofs.HexLemmas.{length-encode_with, decode_sized-twice, decode_of-encode_lower}
use Rattle.catalog.proofs.fields.sum_of.Goals as goal

pub returns : goal.returns
returns c = λ sum is same.
    (let long : length (encode_lower sum) ≡ 2 * 32 = omega (arith, length-encode_with lower_digits sum, is.0) in
    c.ok.ensures.value
    ∙ ap result_ok
    (c.from_hex.ensures ∙ ap (λ t. decode_sized t 32) same ∙ decode_sized-twice (encode_lower sum) 32 long ∙ decode_of-encode_lower sum is.1))
