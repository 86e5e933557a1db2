use Rattle.std.proofs.Common.{◌≡◌, ◌<◌, ◌++◌, length, arith, length-append}
use Rattle.std.proofs.KnownBytes.{Appends-trans, Consumes-trans}
use Rattle.whole_files.proofs.spool.copy_through.Goals as goal

pub loop-preserved : goal.loop-preserved
loop-preserved g c =
    let (moved, room, count, read, written) = c.loop.invariant in
    let (more, long, read', written') = c.in_ok-count.ensures.moved in
    let still : 0 < length c.copy_piece.new.buffer = omega (arith, room, c.copy_piece.ensures.length) in
    let more_count : c.unwrap_or.result ≡ length more = omega (arith, long, c.unwrap_or.ensures) in (
      moved ++ more,
      still,
      omega (arith, length-append moved more, count, more_count, c.saturating_add-copied.ensures),
      Consumes-trans _ _ _ _ _ read read',
      Appends-trans _ _ _ _ _ written written',
    )
