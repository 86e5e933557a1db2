use Rattle.dump_run.proofs.Words.{codes, IsDevice}
use Rattle.dump_run.proofs.FieldCut.{other_kind, device_lacks}
use Rattle.dump_run.proofs.checkpoint.field.device_field.Goals as goal

pub returns-in_err-device : goal.returns-in_err-device
returns-in_err-device c = rw c.from_residual.ensures (λ text more its. c.in_err-device.ensures text more (device_lacks text its))

pub returns-then-not-is_device : goal.returns-then-not-is_device
returns-then-not-is_device c =
    other_kind IsDevice (codes "device ") c.args.bytes.now c.in_ok-device.device.now c.in_ok-device.more.now device_lacks c.in_ok-device.ensures.0
    c.in_ok-device.ensures.1 (λ its. (let no_such = c.if-not-is_device.ensures.1 its in cc))
