use Rattle.std.proofs.Common.{◌≡◌, length, map, refl}
use Rattle.drives.proofs.Names.{length-set, times, names_in, ListLibrary, with_library, library_of, IsLibrary, StacksCanFail, HasLatched, arranged}
use Rattle.drives.proofs.Shops.{once_kept}
use Rattle.drives.proofs.ListLibrary.{told}
use Rattle.drives.proofs.Elsewhere.{stays_latched, latched_elsewhere}
use Rattle.drives.proofs.Arranging.{order_arranged, after_arranged, keeps_arranged, times_arranged, still_able}
use Rattle.drives.proofs.ToldOrder.{order_told}
use Rattle.drives.proofs.list.ListStacks.arrange.Goals as goal

pub returns : goal.returns
returns c =
    let old = c.args.self.now in
    let d = c.args.drive in
    let names = map (λ n. n.now) c.args.names.now in
    let once = c.put_stack.ensures.once in
    let h = c.put_stack.ensures.arranged in
    let made = with_library old (arranged old.library d names) in
    let after = λ (P : ListLibrary → Type 0). after_arranged P old c.put_stack.new.self d names c.put_stack.result h in
    record {
      arranged = h;
      told_order = order_told old c.put_stack.new.self d names c.put_stack.result h;
      order = order_arranged old c.put_stack.new.self d names c.put_stack.result c.requires.drive c.requires.may h;
      told = after (λ s. IsLibrary s (library_of s)) (told made (once_kept old.library made.library (keeps_arranged old.library d names c.requires.drive) once)) (told old once);
      names = λ name. after (λ s. times name (names_in s.library) ≡ times name (names_in old.library)) (times_arranged old.library d names c.requires.drive name) refl;
      elsewhere = λ e n was. after (λ s. HasLatched IsLibrary s e) (stays_latched old made made e once refl (latched_elsewhere old.library d e _ n) was) was;
      quiet = after (λ s. StacksCanFail s → StacksCanFail old) (still_able old d names c.requires.drive) (λ f. f);
      same_trouble = after (λ s. s.trouble ≡ old.trouble) refl refl;
      same_failures = after (λ s. s.failures ≡ old.failures) refl refl;
      same_drives = after (λ s. length s.library.drives ≡ length old.library.drives) (length-set old.library.drives d _) refl;
    }
