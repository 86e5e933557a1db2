use Rattle.std.proofs.Common.{rules, ◌≡◌, ◌+◌, ◌-◌, ℕ, List, ◌∷◌, sym, subst, arith}
use Rattle.tape.specs.Tape.{PlainEntry}
use Rattle.tape.specs.Tape.PlainEntry.{Record}
use Rattle.volume_check.specs.Volume.{block_records}
use Rattle.volume_check.specs.Hashing.{HoldsEntries}
use Rattle.volume_check.specs.declared.entry_hasher.EntryHasher.{EntryHasher}
use Rattle.volume_check.proofs.Hashed.{block_hashed}
use Rattle.volume_check.proofs.volume_hasher.VolumeHasher.add_block.Goals as goal

pub returns : goal.returns
returns c payload is hashed known =
    let t = c.args.self.now in
    let held = hashed known in
    let place : c.args.number ≡ t.first + t.count = search rules in
    let more : c.from.result + 1 ≡ t.count + 1 = omega (arith, c.from.ensures) in
    let same : c.in-Ok.but_last ≡ t.all = search rules in
    let last : t.count ≡ c.from.result + 1 - 1 = omega (arith, c.from.ensures) in
    record {
      all = subst (λ (l : List PlainEntry). HoldsEntries c.record.new.self l)
          (block_hashed t.label c.args.bytes.now payload t.first t.count (c.from.result + 1) c.args.number place more is)
          (c.record.ensures (Record t.label ∷ block_records payload t.first t.count) held.all);
      but_last = λ some. subst (λ (n : ℕ). HoldsEntries c.in-Ok.but_last (Record t.label ∷ block_records payload t.first n)) last
          (subst (λ (h : EntryHasher). HoldsEntries h (Record t.label ∷ block_records payload t.first t.count)) (sym same) held.all);
    }
