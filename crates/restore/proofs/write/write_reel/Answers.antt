use Rattle.std.proofs.Common.{◌≡◌, arith, take}
use Rattle.std.proofs.lemmas.List.{take_all}
use Rattle.restore.proofs.Blocks.{block_at}
use Rattle.restore.proofs.Writing.{block_begun, block_written, blocks_begun, is_fault, none_written}
use Rattle.restore.proofs.write.write_reel.Goals as goal

pub returns-in_err-check_label : goal.returns-in_err-check_label
returns-in_err-check_label g c = λ bytes blocks held count v. rw (is_fault c.from_residual.ensures.1) (blocks_begun _ _ c.args.left blocks 0 (none_written _ c.args.left))

pub returns-in_err-left : goal.returns-in_err-left
returns-in_err-left g c = λ bytes blocks held count v.
    (let (holds, written, left_is) = c.loop-number.invariant.written bytes blocks held count v in
    let number = c.loop-number.number in
    rw (is_fault c.from_residual-in_err-left.ensures.1) (block_begun _ _ _ c.args.left c.loop-number.left blocks number _ (omega arith)
    (block_at bytes c.args.volume.now.label c.args.volume.now.block_bytes blocks number v (omega arith)) written left_is (c.in_err-left.ensures.written bytes holds)))

pub loop-number-preserved : goal.loop-number-preserved
loop-number-preserved g c = record {
  room = omega arith;
  written = λ bytes blocks held count v.
      (let (holds, written, left_is) = c.loop-number.invariant.written bytes blocks held count v in
      let number = c.loop-number.number in
      let (x, after, same) = c.copy_block.ensures.same bytes holds in
      let now = c.in_ok-left.ensures.written bytes holds in
      let more = block_written _ _ _ c.args.left c.loop-number.left blocks number _ (omega arith)
      (block_at bytes c.args.volume.now.label c.args.volume.now.block_bytes blocks number v (omega arith)) written left_is c.in_ok-left.left now.0 now.1 in
      (rw same at after, more.0, more.1));
}

pub returns : goal.returns
returns g c = λ bytes blocks held count v.
    (let (holds, written, left_is) = c.loop-number.invariant.written bytes blocks held count v in
    let all : take c.loop-number.number blocks ≡ blocks = take_all c.loop-number.number blocks (omega arith) in
    (rw all at written, rw all at left_is))
