use Rattle.tape.proofs.Words.{List, ℕ, length, sym, ap, ◌∙◌, Some, entry_length, entry_bytes, with_front}
use Rattle.tape.proofs.Held.{entry_seen, mark_told, none_copied}
use Rattle.tape.proofs.list.ListReel.entry.Goals as goal

pub returns-in_err-bytes : goal.returns-in_err-bytes
returns-in_err-bytes c =
    let none = entry_seen c.self.inside.reel _ c.bytes.result.now c.args.i _ c.self.invariant c.medium.ensures c.bytes.ensures.0 c.in_err-bytes.ensures in
    rw (c.from_residual.ensures, ← c.self.view_is) (record {
      told = sym (ap entry_length none);
      copied = none_copied c.args.into.now ∙ ap (λ e. with_front (entry_bytes e) c.args.into.now) (sym none);
      mark = (λ zero. cc, λ mark. cc);
      records = c.self.invariant.2.spelled.lawful;
    })

pub returns : goal.returns
returns c =
    let at = entry_seen c.self.inside.reel _ c.bytes.result.now c.args.i _ c.self.invariant c.medium.ensures c.bytes.ensures.0 c.in_ok-bytes.ensures.at in
    let told = ap entry_length at ∙ ap (λ (b : List ℕ). Some (length b)) (sym c.in_ok-bytes.ensures.bytes_is) in
    let law = mark_told _ c.args.i c.self.invariant.2.spelled.lawful in
    rw (← c.self.view_is) (record {
      told = sym told;
      copied = c.copy_front.ensures ∙ ap (λ b. with_front b c.args.into.now) (c.in_ok-bytes.ensures.bytes_is ∙ sym (ap entry_bytes at));
      mark = (λ zero. law.0 (told ∙ zero), λ mark. sym told ∙ law.1 mark);
      records = c.self.invariant.2.spelled.lawful;
    })
