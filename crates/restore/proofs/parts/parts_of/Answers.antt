use Rattle.std.proofs.Common.{◌≡◌, ◌∙◌, inl, inr, arith, length}
use Rattle.std.proofs.lemmas.List.Elements.{Contains-append_left, Contains-push}
use Rattle.std.specs.Prelude.{Contains}
use Rattle.restore.proofs.Chosen.{all_among, all_from, grown_all, none_left, one_on_reel, still_done}
use Rattle.restore.proofs.parts.parts_of.Goals as goal

pub loop-volume-preserved : goal.loop-volume-preserved
loop-volume-preserved g c =
    let volume = c.in-Some.volume in
    let rest = c.pop.new.self.items in
    let items = c.in-Some.ensures.items in
    let sorted = c.sort_unstable_by.new.self.items in
    let there = c.loop-volume.invariant.left volume (rw items (Contains-push rest volume)) in
    let spacing = c.loop-volume.invariant.spacing in
    record {
      room = omega arith;
      same = λ reels held.
          (let (x, holds, same) = c.loop-volume.invariant.same reels held in
          let (y, after, also) = c.take.ensures.same x holds in (y, after, also ∙ same));
      spaced = λ reels held all.
          (let (spaced, done) = c.loop-volume.invariant.spaced reels held all in
          let (x, holds, same) = c.loop-volume.invariant.same reels held in
          let (blocks, found) = one_on_reel reels c.args.found.items sorted volume c.sort_unstable_by.ensures.permutation all there in
          let (next, here) = c.in_ok-take.ensures.spaced reels blocks (rw same at holds) found spaced spacing in (
            next,
            λ f has. still_done reels c.loop-volume.found.items rest c.loop-volume.parts.volumes.items c.take.new.self.volumes.items volume f items
                c.in_ok-take.ensures.grown here (done f has),
          ));
      spacing = c.in_ok-take.ensures.spacing spacing;
      left = λ f has. c.loop-volume.invariant.left f (rw items (Contains-append_left rest _ f has));
      from = grown_all (Contains sorted) c.loop-volume.parts.volumes.items c.take.new.self.volumes.items volume c.in_ok-take.ensures.grown c.loop-volume.invariant.from there;
    }

pub returns-clause-spaced : goal.returns-clause-spaced
returns-clause-spaced g c = λ reels held all.
    (let (spaced, done) = c.loop-volume.invariant.spaced reels held all in
    let none : length c.loop-volume.found.items ≡ 0 = omega (arith, c.in_default.ensures.cases, c.loop-volume.found.ok) in (
      spaced,
      all_among reels c.args.found.items c.sort_unstable_by.new.self.items c.loop-volume.parts.volumes.items c.sort_unstable_by.ensures.permutation
          (λ f has. elim (done f has) [ inl left ↦ absurd (none_left c.loop-volume.found.items f none left) | inr among ↦ among ]),
    ))

pub returns-clause-from : goal.returns-clause-from
returns-clause-from g c =
    all_from c.args.found.items c.sort_unstable_by.new.self.items c.loop-volume.parts.volumes.items c.sort_unstable_by.ensures.permutation c.loop-volume.invariant.from
