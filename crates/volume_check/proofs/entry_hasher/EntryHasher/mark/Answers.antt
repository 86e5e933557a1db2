use Rattle.std.proofs.Common.{◌≡◌, List, ℕ, subst}
use Rattle.tape.specs.RecordFile.{length_bytes, images_of}
use Rattle.sha2.specs.Hashers.{Holds256}
use Rattle.volume_check.proofs.Hashed.{mark_hashed}
use Rattle.volume_check.proofs.entry_hasher.EntryHasher.mark.Goals as goal

pub returns : goal.returns
unfolding length_bytes
returns c entries held =
    let is : c.to_le_bytes-length.result ≡ length_bytes 0 = c.to_le_bytes-length.ensures in
    subst (λ (m : List ℕ). Holds256 c.update.new.self m) (mark_hashed entries c.to_le_bytes-length.result is) (c.update.ensures (images_of entries) held)
