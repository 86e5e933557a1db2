use Rattle.std.proofs.Common.{rules, ◌≡◌, ℕ, List, true, ap, ◌∙◌}
use Rattle.std.specs.Prelude.{◌∷◌, ◌++◌, []}
use Rattle.tape.specs.Tape.{PlainEntry}
use Rattle.tape.specs.Tape.PlainEntry.{Record, Mark}
use Rattle.volume_check.specs.Volume.{block_records, file_sum}
use Rattle.volume_check.specs.Hashing.{HoldsEntries}
use Rattle.volume_check.proofs.volume_hasher.VolumeHasher.sum.Goals as goal

pub returns : goal.returns
returns c payload hashed =
    let t = c.args.self.now in
    let known : t.is_known ≡ true = search rules in
    let label : t.label ≡ c.args.label.now = search rules in
    let first : t.first ≡ c.args.first = search rules in
    let entries : List PlainEntry = Record t.label ∷ block_records payload t.first c.args.count in
    let held : HoldsEntries c.in_ok-hasher.hasher entries = c.in_ok-hasher.ensures payload known hashed in
    let sum : c.sum.result ≡ file_sum (entries ++ Mark ∷ []) = c.sum.ensures (entries ++ Mark ∷ []) (c.mark.ensures entries held) in
    sum
    ∙ ap (λ (l : List ℕ). file_sum (Record l ∷ (block_records payload t.first c.args.count ++ Mark ∷ []))) label
    ∙ ap (λ (n : ℕ). file_sum (Record c.args.label.now ∷ (block_records payload n c.args.count ++ Mark ∷ []))) first
