use Rattle.std.proofs.Common.{◌++◌, subst, sym, take}
use Rattle.restore.proofs.Payload.{whole_of_parts}
use Rattle.restore.specs.Partial.{zeros}
use Rattle.restore.specs.Spaced.{AreFilled}
use Rattle.restore.proofs.partial.restore_partial.Goals as goal

pub returns-in-Ok-write_filled-clause-gained : goal.returns-in-Ok-write_filled-clause-gained
returns-in-Ok-write_filled-clause-gained g c = λ reels held.
    (let parts = c.in-Ok-choose_parts.parts in
    let chosen = c.in-Ok-choose_parts.ensures in
    let total = c.unwrap_or-total.result in
    let (x, holds, same) = c.choose_parts.ensures.same reels held in
    let (bytes, are, partial) = whole_of_parts reels c.args.wanted.now c.args.length parts.size parts.volumes.items parts.gaps.items parts.end total (chosen.present reels held)
    chosen.some chosen.gaps chosen.ends c.unwrap_or-total.ensures in
    let there = subst (λ vs. AreFilled reels 0 vs bytes) (sym c.deref.ensures.value) are in
    let written = c.in-Ok-write_filled.ensures.written reels bytes (rw same at holds) there in
    (take total (bytes ++ zeros total), partial, written))

pub returns-in-Err-Reel-clause-gained : goal.returns-in-Err-Reel-clause-gained
returns-in-Err-Reel-clause-gained g c = λ reels held.
    (let parts = c.in-Ok-choose_parts.parts in
    let chosen = c.in-Ok-choose_parts.ensures in
    let total = c.unwrap_or-total.result in
    let (x, holds, same) = c.choose_parts.ensures.same reels held in
    let (bytes, are, partial) = whole_of_parts reels c.args.wanted.now c.args.length parts.size parts.volumes.items parts.gaps.items parts.end total (chosen.present reels held)
    chosen.some chosen.gaps chosen.ends c.unwrap_or-total.ensures in
    let there = subst (λ vs. AreFilled reels 0 vs bytes) (sym c.deref.ensures.value) are in
    let written = c.in-Err-Reel.ensures.written reels bytes (rw same at holds) there in
    (take total (bytes ++ zeros total), parts.gaps.items, partial, written))

pub returns-clause-gained : goal.returns-clause-gained
returns-clause-gained g c = λ reels held.
    (let parts = c.in-Ok-choose_parts.parts in
    let chosen = c.in-Ok-choose_parts.ensures in
    let total = c.unwrap_or-total.result in
    let (x, holds, same) = c.choose_parts.ensures.same reels held in
    let (bytes, are, partial) = whole_of_parts reels c.args.wanted.now c.args.length parts.size parts.volumes.items parts.gaps.items parts.end total (chosen.present reels held)
    chosen.some chosen.gaps chosen.ends c.unwrap_or-total.ensures in
    let there = subst (λ vs. AreFilled reels 0 vs bytes) (sym c.deref.ensures.value) are in
    let written = c.in-Err-Output.ensures.written reels bytes (rw same at holds) there in
    (take total (bytes ++ zeros total), parts.gaps.items, partial, written))
