use Rattle.std.proofs.Common.{◌≡◌, List, ℕ, length, subst}
use Rattle.tape.specs.RecordFile.{length_bytes, images_of}
use Rattle.sha2.specs.Hashers.{Holds256}
use Rattle.volume_check.proofs.Hashed.{record_hashed}
use Rattle.volume_check.proofs.entry_hasher.EntryHasher.record.Goals as goal

pub returns : goal.returns
unfolding length_bytes
returns c entries held =
    let is : c.to_le_bytes-length.result ≡ length_bytes (length c.args.bytes.now) = c.to_le_bytes-length.ensures in
    subst (λ (m : List ℕ). Holds256 c.update-3.new.self m) (record_hashed entries c.args.bytes.now c.to_le_bytes-length.result is)
    (c.update-3.ensures _ (c.update-2.ensures _ (c.update.ensures (images_of entries) held)))
