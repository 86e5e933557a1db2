use Rattle.dump_run.proofs.Words.{codes, refl, sym, ◌∙◌, arith, last_second, blocks_limit, IsLabel, plain_label}
use Rattle.dump_run.proofs.LabelReading.{past_name, past_number, no_number, joined_list}
use Rattle.dump_run.proofs.volume_label.first_lines.Goals as goal

pub returns-in_err-level : goal.returns-in_err-level
returns-in_err-level c =
    let at_level = past_name c.in_ok-name.name.now c.in_ok-name.rest.now c.in_ok-name.ensures.found.0 c.in_ok-name.ensures.found.1 in
    rw c.from_residual-in_err-level.ensures
    (no_number (codes "level ") (λ l. l.level) 0 9 at_level (omega arith) (λ l. refl) (λ l its. (omega arith, its.level)) c.in_err-level.ensures)

pub returns-in_err-date : goal.returns-in_err-date
returns-in_err-date c =
    let at_level = past_name c.in_ok-name.name.now c.in_ok-name.rest.now c.in_ok-name.ensures.found.0 c.in_ok-name.ensures.found.1 in
    let at_date = past_number (codes "level ") c.in_ok-level.level c.in_ok-level.rest.now refl (omega (arith, c.in_ok-level.ensures.0.1)) at_level c.in_ok-level.ensures.1 in
    rw c.from_residual-in_err-date.ensures
    (no_number (codes "date ") (λ l. l.date) 0 last_second at_date (omega arith) (λ l. refl) (λ l its. (omega arith, its.date)) c.in_err-date.ensures)

pub returns-in_err-base : goal.returns-in_err-base
returns-in_err-base c =
    let at_level = past_name c.in_ok-name.name.now c.in_ok-name.rest.now c.in_ok-name.ensures.found.0 c.in_ok-name.ensures.found.1 in
    let at_date = past_number (codes "level ") c.in_ok-level.level c.in_ok-level.rest.now refl (omega (arith, c.in_ok-level.ensures.0.1)) at_level c.in_ok-level.ensures.1 in
    let at_base = past_number (codes "date ") c.in_ok-date.date c.in_ok-date.rest.now refl (omega (arith, c.in_ok-date.ensures.0.1)) at_date c.in_ok-date.ensures.1 in
    rw c.from_residual-in_err-base.ensures
    (no_number (codes "since ") (λ l. l.since) 0 last_second at_base (omega arith) (λ l. refl) (λ l its. (omega arith, its.since)) c.in_err-base.ensures)

pub returns-in_err-volume : goal.returns-in_err-volume
returns-in_err-volume c =
    let at_level = past_name c.in_ok-name.name.now c.in_ok-name.rest.now c.in_ok-name.ensures.found.0 c.in_ok-name.ensures.found.1 in
    let at_date = past_number (codes "level ") c.in_ok-level.level c.in_ok-level.rest.now refl (omega (arith, c.in_ok-level.ensures.0.1)) at_level c.in_ok-level.ensures.1 in
    let at_base = past_number (codes "date ") c.in_ok-date.date c.in_ok-date.rest.now refl (omega (arith, c.in_ok-date.ensures.0.1)) at_date c.in_ok-date.ensures.1 in
    let at_volume = past_number (codes "since ") c.in_ok-base.base c.in_ok-base.rest.now refl (omega (arith, c.in_ok-base.ensures.0.1)) at_base c.in_ok-base.ensures.1 in
    rw c.from_residual-in_err-volume.ensures
    (no_number (codes "volume ") (λ l. l.volume) 1 blocks_limit at_volume (omega arith) (λ l. refl) (λ l its. its.volume) c.in_err-volume.ensures)

pub returns-in_err-first : goal.returns-in_err-first
returns-in_err-first c =
    let at_level = past_name c.in_ok-name.name.now c.in_ok-name.rest.now c.in_ok-name.ensures.found.0 c.in_ok-name.ensures.found.1 in
    let at_date = past_number (codes "level ") c.in_ok-level.level c.in_ok-level.rest.now refl (omega (arith, c.in_ok-level.ensures.0.1)) at_level c.in_ok-level.ensures.1 in
    let at_base = past_number (codes "date ") c.in_ok-date.date c.in_ok-date.rest.now refl (omega (arith, c.in_ok-date.ensures.0.1)) at_date c.in_ok-date.ensures.1 in
    let at_volume = past_number (codes "since ") c.in_ok-base.base c.in_ok-base.rest.now refl (omega (arith, c.in_ok-base.ensures.0.1)) at_base c.in_ok-base.ensures.1 in
    let at_first = past_number (codes "volume ") c.in_ok-volume.volume c.in_ok-volume.rest.now refl (omega (arith, c.in_ok-volume.ensures.0.1)) at_volume c.in_ok-volume.ensures.1 in
    rw c.from_residual-in_err-first.ensures
    (no_number (codes "first ") (λ l. l.first) 0 blocks_limit at_first (omega arith) (λ l. refl) (λ l its. (omega arith, its.first)) c.in_err-first.ensures)

pub returns : goal.returns
returns c =
    let at_level = past_name c.in_ok-name.name.now c.in_ok-name.rest.now c.in_ok-name.ensures.found.0 c.in_ok-name.ensures.found.1 in
    let at_date = past_number (codes "level ") c.in_ok-level.level c.in_ok-level.rest.now refl (omega (arith, c.in_ok-level.ensures.0.1)) at_level c.in_ok-level.ensures.1 in
    let at_base = past_number (codes "date ") c.in_ok-date.date c.in_ok-date.rest.now refl (omega (arith, c.in_ok-date.ensures.0.1)) at_date c.in_ok-date.ensures.1 in
    let at_volume = past_number (codes "since ") c.in_ok-base.base c.in_ok-base.rest.now refl (omega (arith, c.in_ok-base.ensures.0.1)) at_base c.in_ok-base.ensures.1 in
    let at_first = past_number (codes "volume ") c.in_ok-volume.volume c.in_ok-volume.rest.now refl (omega (arith, c.in_ok-volume.ensures.0.1)) at_volume c.in_ok-volume.ensures.1 in
    let at_end = past_number (codes "first ") c.in_ok-first.first c.in_ok-first.rest.now refl (omega (arith, c.in_ok-first.ensures.0.1)) at_first c.in_ok-first.ensures.1 in
    let label = plain_label c.in_ok-name.name.now c.in_ok-level.level c.in_ok-date.date c.in_ok-base.base c.in_ok-volume.volume c.in_ok-first.first in
    let limits : IsLabel label = grind arith in
    rw (c.from_parts-label.ensures, c.from_parts-id.ensures) (limits, at_end.split ∙ sym (joined_list label c.in_ok-first.rest.now))

pub from_parts-label-requires : goal.from_parts-label-requires
from_parts-label-requires c = rw c.from_parts-id.ensures record {
  name = c.in_ok-name.ensures.found.0;
  level = c.in_ok-level.ensures.0.1;
  date = c.in_ok-date.ensures.0.1;
  since = c.in_ok-base.ensures.0.1;
  volume = c.in_ok-volume.ensures.0;
  first = c.in_ok-first.ensures.0.1;
}
