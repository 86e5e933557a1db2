use Rattle.std.proofs.Common.{rules, ◌≡◌, ◌≤◌, All, length, sym, subst}
use Rattle.std.proofs.lemmas.List.Elements.{All-push}
use Rattle.hold_table.specs.declared.table.TheConstants.{SEAT_LIMIT}
use Rattle.rmtd_serve.specs.Folders.{stacks_of}
use Rattle.rmtd_serve.proofs.folders.seat_stacks.Goals as goal

pub seats-preserved : goal.seats-preserved
seats-preserved g c =
    let made = c.in_ok-stacks_at.field-0 in
    let before = c.seats.all.items in
    let counted = All-push (λ s. length s.rows ≡ length c.args.arguments.now) before made c.seats.invariant.1 c.in_ok-stacks_at.ensures.count in
    let named = All-push (λ s. s ≡ stacks_of c.args.arguments.now c.args.bin.now c.args.capacity) before made c.seats.invariant.2
    c.in_ok-stacks_at.ensures.named in
    let few : length c.push.new.self.items ≤ SEAT_LIMIT = search rules in (
      few,
      subst (All (λ s. length s.rows ≡ length c.args.arguments.now)) (sym c.in_ok-push.ensures.items) counted,
      subst (All (λ s. s ≡ stacks_of c.args.arguments.now c.args.bin.now c.args.capacity)) (sym c.in_ok-push.ensures.items) named,
    )

pub returns-clause-count : goal.returns-clause-count
returns-clause-count g c = search rules
