use Rattle.rmt_wire.proofs.Words.{arith, drop, length, length-drop, rules, subst, sym, take, ◌++◌, ◌+◌, ◌-◌, ◌≡◌, Appends-trans, take-add, common_steps, take_all, Appends}
use Rattle.rmt_wire.proofs.reply.writer.output.Goals as goal

pub loop-at-preserved : goal.loop-at-preserved
loop-at-preserved g c = record {
  within = let b = c.in-Ok.ensures.bound in omega (arith, b, length-drop c.loop-at.at c.args.text.now);
  written =
      let rest : take (length c.args.text.now - c.loop-at.at) (drop c.loop-at.at c.args.text.now) ≡ drop c.loop-at.at c.args.text.now =
      take_all _ _ (omega (arith, length-drop c.loop-at.at c.args.text.now)) in
      let join : take c.loop-at.at c.args.text.now ++ take c.in-Ok.n (drop c.loop-at.at c.args.text.now) ≡ take (c.loop-at.at + c.in-Ok.n) c.args.text.now =
      sym (take-add c.loop-at.at c.in-Ok.n c.args.text.now) in
      subst (Appends (g.W.Write.contents c.args.out.now.inner) (g.W.Write.contents c.write.new.self.inner)) join
      (Appends-trans _ _ _ (take c.loop-at.at c.args.text.now) (take c.in-Ok.n (drop c.loop-at.at c.args.text.now)) c.loop-at.invariant.written
      (rw rest at c.in-Ok.ensures.bytes));
  failures = let f = c.in-Ok.ensures.took_some (omega arith) in cc;
  left = let f = c.in-Ok.ensures.left in cc;
}

pub returns-in-Err-clause-written : goal.returns-in-Err-clause-written
returns-in-Err-clause-written g c = search rules

pub returns-in-Err-clause-steady : goal.returns-in-Err-clause-steady
returns-in-Err-clause-steady g c = search rules

pub returns-clause-written : goal.returns-clause-written
returns-clause-written g c = grind (arith, common_steps)
