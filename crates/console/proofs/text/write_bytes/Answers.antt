use Rattle.std.proofs.Common.{[], ◌≡◌, ◌++◌, length, sym, ap, ap₂, ◌∙◌, refl, true, append-nil, arith}
use Rattle.std.proofs.Output.{has_written_append, has_written_of_eq, writes_in_calls_nil}
use Rattle.console.specs.Printing.{mark_of, plain_text, printable_within}
use Rattle.console.proofs.Chunks.{IsSplit, printable-next, printable-nil}
use Rattle.console.proofs.text.write_bytes.Goals as goal

pub chunks-init : goal.chunks-init
chunks-init g c plain =
    let made = c.utf8_chunks-chunks.ensures in (
      [],
      record { wrote = writes_in_calls_nil _ _; plain = plain },
      length c.args.bytes.now,
      omega (arith, made.len),
      ap (printable_within (length c.args.bytes.now)) made.rest,
    )

pub chunks-preserved : goal.chunks-preserved
chunks-preserved g c plain =
    let now = c.chunks.invariant plain in
    let chunk = c.in-Some.chunk in
    let steps = c.in-Some.ensures.steps in
    let split : IsSplit c.chunks.chunks.rest.now chunk.valid.now chunk.invalid.now c.next.new.self.rest.now =
    record { parts = steps.0; shorter = steps.1; text = steps.3.0; sequence = steps.3.1 } in
    let next = printable-next now.2 now.0 _ _ _ _ _ split now.3 now.4 in
    let wrote : plain_text c.valid.result.now ++ mark_of (length c.invalid.result.now) ≡ plain_text chunk.valid.now ++ mark_of (length chunk.invalid.now) =
    ap₂ (λ a b. plain_text a ++ mark_of (length b)) c.valid.ensures c.invalid.ensures in
    let text = c.in_ok-write_text.ensures now.1.plain (refl {a = true}) in
    let mark = c.in_ok-write_mark.ensures text.plain (refl {a = true}) in (
      now.0 ++ (plain_text chunk.valid.now ++ mark_of (length chunk.invalid.now)),
      has_written_append _ _ _ _ _ _ now.1 (has_written_of_eq _ _ _ _ _ wrote (has_written_append _ _ _ _ _ _ text mark)),
      next.0,
      next.1,
      next.2,
    )

pub returns : goal.returns
returns g c plain _ =
    let now = c.chunks.invariant plain in
    let none = ap (λ l. now.0 ++ l) (printable-nil now.2 c.chunks.chunks.rest.now c.in_default.ensures.steps.0) in
    has_written_of_eq _ _ _ _ _ (sym (none ∙ append-nil now.0) ∙ now.4) now.1
