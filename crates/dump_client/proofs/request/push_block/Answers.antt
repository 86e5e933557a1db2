use Rattle.dump_client.proofs.Attempt.{ℕ, replicate, inr, refl, ◌∙◌, ap, length-replicate, Write}
use Rattle.dump_client.proofs.Requests.{filled}
use Rattle.dump_client.proofs.request.push_block.Goals as goal

pub returns-in_default-clause-appended : goal.returns-in_default-clause-appended
returns-in_default-clause-appended g c =
    let size = c.block_bytes.ensures.told ∙ ap (λ r. r.block_bytes) c.run.ensures in
    let zeros = replicate c.block_bytes.result 0 in
    let long = length-replicate {A = ℕ} c.block_bytes.result 0 in (
      inr (refl, (Write zeros, (zeros, refl, long ∙ size), c.push_blank.ensures.spelled zeros long, c.in_default.ensures.full zeros long)),
      c.in_default.ensures.unchanged,
    )

pub returns-in-Ok-read-clause-appended : goal.returns-in-Ok-read-clause-appended
returns-in-Ok-read-clause-appended g c =
    let size = c.block_bytes.ensures.told ∙ ap (λ r. r.block_bytes) c.run.ensures in
    let given = c.read.new.into in
    let f = filled _ c.in-Ok.start c.block_bytes.result c.deref_mut.result.now c.push_blank.new.out.items given c.deref_mut.ensures.value c.deref_mut.ensures.len
    c.in-Ok.ensures.place c.read.auto.into in (
      Write given,
      (λ payload t. ap Write (c.in-Ok-read.ensures.given payload t), (given, refl, f.1 ∙ size)),
      c.push_blank.ensures.spelled given f.1,
      f.2 ∙ c.in-Ok.ensures.begun given f.1,
    )

pub returns-in-Ok-read-clause-read : goal.returns-in-Ok-read-clause-read
returns-in-Ok-read-clause-read g c =
    let size = c.block_bytes.ensures.told ∙ ap (λ r. r.block_bytes) c.run.ensures in
    let given = c.read.new.into in
    let f = filled _ c.in-Ok.start c.block_bytes.result c.deref_mut.result.now c.push_blank.new.out.items given c.deref_mut.ensures.value c.deref_mut.ensures.len
    c.in-Ok.ensures.place c.read.auto.into in
    (_, given, c.read.result, f.0 ∙ size, c.read.ensures.read, rw c.in-Ok-read.is refl, f.2 ∙ c.in-Ok.ensures.begun given f.1)

pub returns-in-Err-clause-read : goal.returns-in-Err-clause-read
returns-in-Err-clause-read g c =
    let size = c.block_bytes.ensures.told ∙ ap (λ r. r.block_bytes) c.run.ensures in
    let f = filled _ c.in-Ok.start c.block_bytes.result c.deref_mut.result.now c.push_blank.new.out.items c.read.new.into c.deref_mut.ensures.value c.deref_mut.ensures.len
    c.in-Ok.ensures.place c.read.auto.into in
    (_, c.read.new.into, c.read.result, f.0 ∙ size, c.read.ensures.read, rw c.in-Err.is refl, tt)
