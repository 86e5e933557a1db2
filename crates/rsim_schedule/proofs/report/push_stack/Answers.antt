use Rattle.rsim_schedule.proofs.Words.{◌≡◌, OnOk, [], refl, subst, codes, map, Some, None, rest_slot}
use Rattle.rsim_schedule.proofs.Reported.{stack_said}
use Rattle.rsim_schedule.proofs.report.push_stack.Goals as goal

pub returns-in-Some : goal.returns-in-Some
returns-in-Some c =
    subst (λ z. OnOk c.push_names.result (c.push_names.new.text.items ≡ z))
    (stack_said c.args.device.now c.args.world.now.server.library (Some (map rest_slot c.in-Some.reels.now)) c.in-Some.reels.now (codes "stack ") (codes "\n")
    c.args.text.now.items c.push_text.new.text.items c.extend_from_slice.new.self.items
    c.in-Some.ensures refl c.in_ok-push_text.ensures c.in_ok-extend_from_slice.ensures.items) c.push_names.ensures

pub returns-in-None : goal.returns-in-None
returns-in-None c =
    subst (λ z. OnOk c.push_names-in-None.result (c.push_names-in-None.new.text.items ≡ z))
    (stack_said c.args.device.now c.args.world.now.server.library None [] (codes "stack ") (codes "\n")
    c.args.text.now.items c.push_text.new.text.items c.extend_from_slice.new.self.items
    c.in-None.ensures refl c.in_ok-push_text.ensures c.in_ok-extend_from_slice.ensures.items) c.push_names-in-None.ensures
