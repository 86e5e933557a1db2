use Rattle.std.proofs.Common.{rules, arith, ◌≡◌, ◌*◌, ◌-◌, length, min, Ok, ap, ◌∙◌}
use Rattle.dump_files.proofs.Payloads.{read_whole, read_short, same_blocks, gives_block}
use Rattle.dump_files.proofs.payload_file.PayloadFileBlocks.read.Goals as goal

pub returns-in-Ok-clause-read : goal.returns-in-Ok-clause-read
returns-in-Ok-clause-read g c =
    let size = c.self.inside.block_bytes in
    let len = c.self.inside.len in
    let at : c.min-at.result ≡ min (c.args.block * size) len = search rules in
    let count : c.min-count.result ≡ min (len - c.min-at.result) (length c.args.into.now) = search rules in
    let all : length c.read_at.new.into ≡ c.min-count.result = search rules in
    read_whole c.self.view_is c.read_at.ensures.call at count all (c.in-Ok.is ∙ ap Ok c.if-n-count.true) c.clear_from.ensures

pub returns-in-Ok-clause-same_blocks : goal.returns-in-Ok-clause-same_blocks
returns-in-Ok-clause-same_blocks g c = same_blocks (returns-in-Ok-clause-read g c)

pub returns-in-Ok-clause-given : goal.returns-in-Ok-clause-given
returns-in-Ok-clause-given g c blocks held = gives_block (Ok tt) (returns-in-Ok-clause-read g c) blocks held (c.requires blocks held)

pub returns-in_default-clause-counted : goal.returns-in_default-clause-counted
returns-in_default-clause-counted g c = search rules

pub returns-in_default-clause-read : goal.returns-in_default-clause-read
returns-in_default-clause-read g c =
    let size = c.self.inside.block_bytes in
    let len = c.self.inside.len in
    let at : c.min-at.result ≡ min (c.args.block * size) len = search rules in
    let count : c.min-count.result ≡ min (len - c.min-at.result) (length c.args.into.now) = search rules in
    let all : length c.read_at.new.into ≡ c.min-count.result = search rules in
    read_short c.self.view_is c.read_at.ensures.call at count all (λ e. grind arith)

pub returns-in_default-clause-same_blocks : goal.returns-in_default-clause-same_blocks
returns-in_default-clause-same_blocks g c = same_blocks (returns-in_default-clause-read g c)
