use Rattle.std.proofs.Common.{◌≡◌, ◌<◌, length, sym, subst, ◌∙◌}
use Rattle.dump_client.specs.Client.{IsPayload}
use Rattle.dump_tests.proofs.tests.of_dump_client.checkpoint.resumed.Goals as goal

pub resume-requires : goal.resume-requires
resume-requires c run counts payload is told =
    let its = c.args.run.now in
    let source = c.new-source in
    let many : length source.result.blocks ≡ its.blocks = source.ensures.blocks ∙ c.blocks-4.ensures.told in
    let same : its ≡ run = c.one_checkpoint.ensures.run c.args.bytes.now its run c.requires.0 counts c.requires.1 is in
    let whole : IsPayload its source.result.blocks =
    (many, λ n below. source.ensures.sizes n (subst (λ m. n < m) (sym c.blocks-4.ensures.told) below) ∙ c.block_bytes-size.ensures.told) in
    subst (λ r. IsPayload r payload) same (subst (IsPayload its) told whole)
