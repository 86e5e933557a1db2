-- Texts that are printed one after the other, and the lines of a dump.
use Rattle.std.specs.Io.KnownBytes.{Appends}
use Rattle.std.proofs.KnownBytes.{Appends-nil, Appends-trans}
use Rattle.rdump_net.proofs.Words.{◌≡◌, ◌+◌, ℕ, List, [], ◌++◌, Bool, true, false, Option, Some, None, refl, sym, ap, subst, ◌∙◌, min, take, drop, length, append-nil, append_assoc, arith, take-append-add, drop-append_seam, take-append-le, take_min, Counting, HasRisen, VolumeCount, Standing, checkpoint_of, AttemptFault, IsPrinted, DumpLines, IsPrefixOf, IsBetween, IsConcluded, IsFinish, IsReplied, IsRound, count_lines, failure_lines, question_line, Conclusion, none, counted, failed, asked}
use Rattle.rdump_net.specs.declared.conclusion.Conclusion.TheVariants as ends

module _ {W : Type 0} (contents : W → Option (List ℕ)) where
  pub nothing_printed : (out : Counting W) → IsPrinted contents [] out out true
  nothing_printed out = (Appends-nil (contents out.inner), refl)

  -- one text, and then another
  pub printed_both : (one two : List ℕ) (a b c : Counting W) (whole : Bool) → IsPrinted contents one a b true → IsPrinted contents two b c whole
      → IsPrinted contents (one ++ two) a c whole
  printed_both one two a b c true h k = (Appends-trans _ _ _ one two h.0 k.0, k.1 ∙ h.1)
  printed_both one two a b c false h k = (
    (
      length one + k.0.0,
      subst (Appends (contents a.inner) (contents c.inner)) (sym (take-append-add one two k.0.0)) (Appends-trans _ _ _ one (take k.0.0 two) h.0 k.0.1),
    ),
    subst (λ n. HasRisen n c.failures) h.1 k.1,
  )

  -- a beginning of a text is one of it with more after it
  pub printed_less : (one two : List ℕ) (a b : Counting W) → IsPrinted contents one a b false → IsPrinted contents (one ++ two) a b false
  printed_less one two a b h = (
    (
      min h.0.0 (length one),
      subst (Appends (contents a.inner) (contents b.inner)) (sym (take-append-le (min h.0.0 (length one)) one two (omega arith) ∙ take_min h.0.0 one)) h.0.1,
    ),
    h.1,
  )

-- lines, and then further lines
pub lines_both : (a b : List VolumeCount) (one : List ℕ) → DumpLines a b one → (c : List VolumeCount) (two : List ℕ) → DumpLines b c two → DumpLines a c (one ++ two)
lines_both a b one h c two none = subst (DumpLines a b) (sym (append-nil one)) h
lines_both a b one h c two (counted {counts = counts} {text = text} more k) =
    subst (DumpLines a (counts ++ more)) (append_assoc one text (count_lines more)) (counted more (lines_both a b one h counts text k))
lines_both a b one h c two (failed {text = text} fault k) =
    subst (DumpLines a c) (append_assoc one text (failure_lines (checkpoint_of c).0 fault)) (failed fault (lines_both a b one h c text k))
lines_both a b one h c two (asked {text = text} k) = subst (DumpLines a c) (append_assoc one text question_line) (asked (lines_both a b one h c text k))

-- the lines of what was counted since
pub lines_since : (old new : List VolumeCount) (n : ℕ) → n ≡ length old → IsPrefixOf old new → DumpLines old new (count_lines (drop n new))
lines_since old new n e (more, is) =
    let left : drop n new ≡ more = ap (drop n) is ∙ (ap (λ m. drop m (old ++ more)) e ∙ drop-append_seam old more) in
    subst (λ l. DumpLines old l (count_lines (drop n new))) (sym is)
    (subst (λ l. DumpLines old (old ++ more) (count_lines l)) (sym left) (counted more none))

pub lines_failed : (counts : List VolumeCount) (fault : AttemptFault) → DumpLines counts counts (failure_lines (checkpoint_of counts).0 fault)
lines_failed counts fault = failed fault none

module _ {W : Type 0} {contents : W → Option (List ℕ)} where
  -- a part that was cut short
  pub cut_short : {first : List VolumeCount} {at : Standing} {out out' : Counting W} (text : List ℕ) → DumpLines first at.counts text → IsPrinted contents text out out' false
      → IsConcluded contents first at out out' ends.PrintFailed
  cut_short text lines printed = record { text = text; last = []; whole = false; lines = lines; printed = rw append-nil printed; ends = tt }

  -- the last line alone
  pub last_alone : {at : Standing} {out out' : Counting W} {end : Conclusion} → IsFinish contents at out out' end → IsConcluded contents at.counts at out out' end
  last_alone h = record { text = []; last = h.0; whole = h.1; lines = none; printed = h.2; ends = h.3 }

  -- lines, after which the dump is left
  pub left_after : {first : List VolumeCount} {at : Standing} {out out' : Counting W} (text : List ℕ) → IsBetween at.stage → DumpLines first at.counts text → IsPrinted contents text out out' true
      → IsConcluded contents first at out out' ends.Left
  left_after text between lines printed = record { text = text; last = []; whole = true; lines = lines; printed = rw append-nil printed; ends = (refl, between) }

module _ {W : Type 0} (contents : W → Option (List ℕ)) where
  -- a part, and then another
  pub round_after : (first : List VolumeCount) (counts : List VolumeCount) (at : Standing) (a b c : Counting W) (text : List ℕ) (result : Option Conclusion)
      → DumpLines first counts text → IsPrinted contents text a b true → IsRound contents counts at b c result → IsRound contents first at a c result
  round_after first counts at a b c text None lines printed h =
      (text ++ h.0, lines_both first counts text lines at.counts h.0 h.1, printed_both contents text h.0 a b c true printed h.2)
  round_after first counts at a b c text (Some end) lines printed h = record {
    text = text ++ h.text;
    last = h.last;
    whole = h.whole;
    lines = lines_both first counts text lines at.counts h.text h.lines;
    printed = rw append_assoc (printed_both contents text (h.text ++ h.last) a b c h.whole printed h.printed);
    ends = h.ends;
  }

  -- an answer was taken, and nothing was printed
  pub replied : (counts : List VolumeCount) (at : Standing) (out : Counting W) (result : Option Conclusion) → at.counts ≡ counts → IsReplied at result → IsRound contents counts at out out result
  replied counts at out None e h = ([], subst (λ l. DumpLines counts l []) (sym e) none, nothing_printed contents out)
  replied counts at out (Some ends.Left) e h = left_after [] h (subst (λ l. DumpLines counts l []) (sym e) none) (nothing_printed contents out)
  replied counts at out (Some ends.Complete) e h = absurd h
  replied counts at out (Some ends.Abandoned) e h = absurd h
  replied counts at out (Some ends.PrintFailed) e h = absurd h
  replied counts at out (Some ends.Unkept) e h = absurd h
