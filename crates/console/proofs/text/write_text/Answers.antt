use Rattle.std.proofs.Common.{[], ◌++◌, encode_utf8, flat_map, sym, ap, ◌∙◌, map-id, rules}
use Rattle.std.proofs.Output.{has_written_append, has_written_of_eq}
use Rattle.std.proofs.lemmas.Iterator.{YieldsList-from_chars}
use Rattle.std.proofs.lemmas.Iterator.Consumers.{YieldsList-end}
use Rattle.std.proofs.lemmas.List.{flat_map_more}
use Rattle.console.specs.Printing.{letter_bytes}
use Rattle.console.proofs.text.write_text.Goals as goal

pub loop-letter-preserved : goal.loop-letter-preserved
loop-letter-preserved g c plain =
    let past = c.loop-letter.yielded in
    let more = ap (λ w. flat_map letter_bytes past ++ encode_utf8 w) c.plain_char.ensures.value ∙ flat_map_more letter_bytes [] past c.in-Some.letter in
    has_written_of_eq _ _ _ _ _ more (has_written_append _ _ _ _ _ _ (c.loop-letter.invariant plain) (search rules))

pub returns : goal.returns
returns g c plain _ =
    let all = YieldsList-end (YieldsList-from_chars c.args.text.now c.utf8.text cc) c.loop-letter.yielded _ c.loop-letter.yielded_by _ _ c.in-None.is c.next.ensures.steps in
    has_written_of_eq _ _ _ _ _ (ap (flat_map letter_bytes) (sym (map-id c.loop-letter.yielded) ∙ all.0)) (c.loop-letter.invariant plain)
