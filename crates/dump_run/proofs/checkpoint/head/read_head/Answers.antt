use Rattle.dump_run.proofs.Words.{arith, codes, refl, IsRun}
use Rattle.dump_run.proofs.ReadLines.{nothing_read, bad_line, then_title, then_device, then_name, then_number}
use Rattle.dump_run.proofs.checkpoint.head.read_head.Goals as goal

pub returns-in_default : goal.returns-in_default
returns-in_default c = bad_line 1 (nothing_read c.args.bytes.now) (c.in_default.ensures, λ is. cc) refl

pub returns-in_default-device_field : goal.returns-in_default-device_field
returns-in_default-device_field c =
    let title = then_title c.args.bytes.now c.in-Some.rest.now c.in-Some.ensures in
    bad_line 2 title (grind (arith, c.in_default-device_field.ensures)) refl

pub returns-in_default-name_field : goal.returns-in_default-name_field
returns-in_default-name_field c =
    let device = then_device _ _ c.in-Some.ensures c.in-Some-device_field.ensures in
    bad_line 3 device (grind (arith, c.in_default-name_field.ensures.found)) refl

pub returns-in_default-number_field : goal.returns-in_default-number_field
returns-in_default-number_field c =
    let name = then_name _ _ _ c.in-Some.ensures c.in-Some-device_field.ensures c.in-Some-name_field.ensures.found in
    bad_line 4 name (grind (arith, c.in_default-number_field.ensures)) refl

pub returns-in_default-number_field-2 : goal.returns-in_default-number_field-2
returns-in_default-number_field-2 c =
    let name = then_name _ _ _ c.in-Some.ensures c.in-Some-device_field.ensures c.in-Some-name_field.ensures.found in
    let level = then_number (codes "level ") _ _ name (λ its. its) c.in-Some-number_field.ensures in
    bad_line 5 level (grind (arith, c.in_default-number_field-2.ensures)) refl

pub returns-in_default-number_field-3 : goal.returns-in_default-number_field-3
returns-in_default-number_field-3 c =
    let name = then_name _ _ _ c.in-Some.ensures c.in-Some-device_field.ensures c.in-Some-name_field.ensures.found in
    let level = then_number (codes "level ") _ _ name (λ its. its) c.in-Some-number_field.ensures in
    let date = then_number (codes "date ") _ _ level (λ its. its) c.in-Some-number_field-2.ensures in
    bad_line 6 date (grind (arith, c.in_default-number_field-3.ensures)) refl

pub returns-in_default-number_field-4 : goal.returns-in_default-number_field-4
returns-in_default-number_field-4 c =
    let name = then_name _ _ _ c.in-Some.ensures c.in-Some-device_field.ensures c.in-Some-name_field.ensures.found in
    let level = then_number (codes "level ") _ _ name (λ its. its) c.in-Some-number_field.ensures in
    let date = then_number (codes "date ") _ _ level (λ its. its) c.in-Some-number_field-2.ensures in
    let since = then_number (codes "since ") _ _ date (λ its. its) c.in-Some-number_field-3.ensures in
    bad_line 7 since (grind (arith, c.in_default-number_field-4.ensures)) refl

pub returns-in_default-number_field-5 : goal.returns-in_default-number_field-5
returns-in_default-number_field-5 c =
    let name = then_name _ _ _ c.in-Some.ensures c.in-Some-device_field.ensures c.in-Some-name_field.ensures.found in
    let level = then_number (codes "level ") _ _ name (λ its. its) c.in-Some-number_field.ensures in
    let date = then_number (codes "date ") _ _ level (λ its. its) c.in-Some-number_field-2.ensures in
    let since = then_number (codes "since ") _ _ date (λ its. its) c.in-Some-number_field-3.ensures in
    let block_bytes = then_number (codes "block ") _ _ since (λ its. its) c.in-Some-number_field-4.ensures in
    bad_line 8 block_bytes (grind (arith, c.in_default-number_field-5.ensures)) refl

pub returns : goal.returns
returns c =
    let name = then_name _ _ _ c.in-Some.ensures c.in-Some-device_field.ensures c.in-Some-name_field.ensures.found in
    let level = then_number (codes "level ") _ _ name (λ its. its) c.in-Some-number_field.ensures in
    let date = then_number (codes "date ") _ _ level (λ its. its) c.in-Some-number_field-2.ensures in
    let since = then_number (codes "since ") _ _ date (λ its. its) c.in-Some-number_field-3.ensures in
    let block_bytes = then_number (codes "block ") _ _ since (λ its. its) c.in-Some-number_field-4.ensures in
    let blocks = then_number (codes "blocks ") _ _ block_bytes (λ its. its) c.in-Some-number_field-5.ensures in
    let limits : IsRun c.from_parts-run.result = rw (c.from_parts-run.ensures, c.from_parts-id.ensures) (grind arith) in
    (limits, rw (c.from_parts-run.ensures, c.from_parts-id.ensures) blocks.split)
