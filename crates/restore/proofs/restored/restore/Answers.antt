use Rattle.std.proofs.Common.{ap, subst, sym, take}
use Rattle.std.specs.Io.KnownBytes.{Appends}
use Rattle.std.specs.List.{concat}
use Rattle.rmt_wire.specs.ReplyWriter.{AppendsBeginning}
use Rattle.restore.proofs.Chosen.{payload_of}
use Rattle.restore.specs.Restored.{PlainWanted}
use Rattle.restore.specs.Written.{AreTheBlocks}
use Rattle.restore.proofs.restored.restore.Goals as goal

pub returns-in-Ok-write_volumes-clause-comes_back : goal.returns-in-Ok-write_volumes-clause-comes_back
returns-in-Ok-write_volumes-clause-comes_back g c = λ reels held.
    (let (x, holds, same) = c.choose.ensures.same reels held in
    let (payload, blocks, restored) = payload_of reels c.args.wanted.now c.in-Ok-choose.chain.volumes.items (c.in-Ok-choose.ensures.chosen reels held) in
    let there = subst (λ vs. AreTheBlocks reels vs payload) (sym c.deref.ensures.value) blocks in
    let written = c.in-Ok-write_volumes.ensures.written reels payload (rw same at holds) there in (
      take c.args.wanted.now.length (concat payload),
      restored,
      subst (λ n. Appends (g.W.Write.contents c.args.out.now.inner) (g.W.Write.contents c.write_volumes.new.out.inner) (take n (concat payload)))
          (ap (λ (w : PlainWanted). w.length) c.wanted.view_is) written.0,
    ))

pub returns-in-Err-Reel-clause-comes_back : goal.returns-in-Err-Reel-clause-comes_back
returns-in-Err-Reel-clause-comes_back g c = λ reels held.
    (let (x, holds, same) = c.choose.ensures.same reels held in
    let (payload, blocks, restored) = payload_of reels c.args.wanted.now c.in-Ok-choose.chain.volumes.items (c.in-Ok-choose.ensures.chosen reels held) in
    let there = subst (λ vs. AreTheBlocks reels vs payload) (sym c.deref.ensures.value) blocks in
    let written = c.in-Err-Reel.ensures.written reels payload (rw same at holds) there in (
      take c.args.wanted.now.length (concat payload),
      restored,
      subst (λ n. AppendsBeginning (g.W.Write.contents c.args.out.now.inner) (g.W.Write.contents c.write_volumes.new.out.inner) (take n (concat payload)))
          (ap (λ (w : PlainWanted). w.length) c.wanted.view_is) written,
    ))

pub returns-clause-comes_back : goal.returns-clause-comes_back
returns-clause-comes_back g c = λ reels held.
    (let (x, holds, same) = c.choose.ensures.same reels held in
    let (payload, blocks, restored) = payload_of reels c.args.wanted.now c.in-Ok-choose.chain.volumes.items (c.in-Ok-choose.ensures.chosen reels held) in
    let there = subst (λ vs. AreTheBlocks reels vs payload) (sym c.deref.ensures.value) blocks in
    let written = c.in-Err-Output.ensures.written reels payload (rw same at holds) there in (
      take c.args.wanted.now.length (concat payload),
      restored,
      subst (λ n. AppendsBeginning (g.W.Write.contents c.args.out.now.inner) (g.W.Write.contents c.write_volumes.new.out.inner) (take n (concat payload)))
          (ap (λ (w : PlainWanted). w.length) c.wanted.view_is) written,
    ))
