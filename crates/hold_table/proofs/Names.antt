-- The names that most proofs of this crate cite, passed on from one place. Declares nothing.
pub use Rattle.std.proofs.Common.{◌≡◌, ◌≢◌, ◌⊎◌, ◌↔◌, inl, inr, ⊎_elim, ℕ, zero, suc, ◌+◌, ◌-◌, ◌<◌, ◌≤◌, Bool, true, false, true≢false, IsTrue, cond, eqb, eq-eqb, ne_eqb}
pub use Rattle.std.proofs.Common.{List, [], ◌∷◌, ◌++◌, map, length, replicate, get_or, set, slice_index, length-set, All, Some, None, sym, refl, ap, ◌∙◌, subst, subst₂, arith, rules}
pub use Rattle.std.proofs.lemmas.Grind.{get_or-set_at}
pub use Rattle.std.proofs.lemmas.List.{get_or-set_other, set-get_or}
pub use mathlib.Core.Logic.{dite}
pub use mathlib.Core.Option.{some, some-ne-none}
pub use native.Mathlib.Decide.{ℕ_discrete}
pub use lib.ListN.{get_elem?}
pub use Rattle.atomic_table.specs.Seated.{TableId}
pub use Rattle.atomic_table.specs.Table.{State}
pub use Rattle.drives.specs.Holding.{has, last_step, newcomer, moved, taken, given, looked, HoldsJust}
pub use Rattle.drives.specs.declared.holds.TheConstants.{DRIVE_LIMIT}
pub use Rattle.drives.specs.declared.view.LastStep.{LastStep}
pub use Rattle.drives.specs.declared.view.StepKind.{StepKind}
pub use Rattle.drives.specs.declared.view.StepKind.TheVariants.{Take, Give, Look}
pub use Rattle.drives.specs.declared.view.View.{View}
pub use Rattle.hold_table.specs.declared.rule.Seated.{Seated}
pub use Rattle.hold_table.specs.declared.table.TheConstants.{SEAT_LIMIT}
pub use Rattle.hold_table.specs.Keeping.{nobody, SeatGroup, AtomicSeat, first_of, second_of, others_of, IsLed, group_views, settled, following, stepped, IsNumbered, WasHeld, IsTableKept}
pub use Rattle.hold_table.specs.Keeping.{IsInGroup, AreGrouped, KeepsRule, FindsAs}
pub use Rattle.hold_table.specs.Rule.{seated, IsHolder, HoldRule, IsRuledStep}
pub use Rattle.hold_table.specs.Seats.{TableSeat, seat_beside, table_seat, lone, views_of, dealt, IsSeatAt, IsFound, FoundHolder}
