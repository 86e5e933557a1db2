-- A record that is looked at is the label of the counted volume that is named, and labels of other volumes are other records.
use Rattle.dump_client.proofs.Attempt.{◌≡◌, ◌≢◌, ◌⊎◌, ◌↔◌, ℕ, ◌+◌, ◌≤◌, Bool, true, false, if◌then◌else◌, List, [], ◌∷◌, Contains, bytes_eq, Option, Some, None, refl, sym, ap, ◌∙◌, arith, nat_tests, Contains-append_cases, Contains-append_right, Contains-append_left, Contains-push_cases}
use Rattle.dump_client.proofs.Attempt.{Contains-push, All-contains, bytes_eq-Decides, AreNumbers, label, PlainLabel, IsLabel, label_of, counted_label, IsFailure, ShowsCounted, outcome, after_label, after_reply, PlainReply, Done, Data, Error, PlainRun, IsRun, VolumeCount, Received, Step, Look, Fails}
use Rattle.dump_client.proofs.Attempt.{CountedReel, AreVolumes}
use Rattle.std.specs.Bool.{Decides}
use Rattle.dump_run.proofs.LabelReading.{one_record}
use Rattle.dump_run.proofs.Ordering.{volumes_numbers}

-- no count is in an empty list, and one in a longer list is its first or in the rest
nowhere : (x : VolumeCount) → Contains [] x → ⊥
nowhere x h = let lt = h.1 in absurd (omega arith)

in_rest : (d c : VolumeCount) (counts : List VolumeCount) → Contains (d ∷ counts) c → (d ≡ c) ⊎ Contains counts c
in_rest d c counts h =
    grind (arith, Contains-append_cases (d ∷ []) counts c h, Contains-push_cases [] d c, nowhere c)

module _ (run : PlainRun) where
  -- the bytes are the label of a counted volume with this number, or of no counted volume
  abbrev Tells : List VolumeCount → List ℕ → Option ℕ → Type 0
  Tells counts bytes (Some volume) = (c : VolumeCount) × Contains counts c × (c.volume ≡ volume) × (bytes ≡ label run c.volume c.first)
  Tells counts bytes None = (c : VolumeCount) → Contains counts c → bytes ≢ label run c.volume c.first

  -- bytes are compared with the labels of these counts, the first one first
  told : (counts : List VolumeCount) (bytes : List ℕ) → Tells counts bytes (counted_label run counts bytes)
  told [] bytes = λ c has is. nowhere c has
  told (d ∷ counts) bytes = by (bytes_eq bytes (label run d.volume d.first)) (bytes_eq-Decides bytes _) (counted_label run counts bytes) (told counts bytes)
    where
      by : (b : Bool) → Decides b (bytes ≡ label run d.volume d.first) → (o : Option ℕ) → Tells counts bytes o → Tells (d ∷ counts) bytes (if b then Some d.volume else o)
      by true same o later = (d, Contains-append_left (d ∷ []) counts d (Contains-push [] d), refl, same.0 refl)
      by false same (Some volume) later = (later.0, Contains-append_right (d ∷ []) counts later.0 later.1, later.2, later.3)
      by false same None later = λ c has is. grind (arith, in_rest d c counts has, later c, same.1)

  -- a counted volume has a number of at least 1, so its label is within the limits, and by `one_record` that of no other volume
  from_one : (volume first : ℕ) (counts : List VolumeCount) (c : VolumeCount) → 1 ≤ volume → AreVolumes run volume first counts → Contains counts c
      → 1 ≤ c.volume
  from_one volume first [] c low v has = absurd (nowhere c has)
  from_one volume first (d ∷ counts) c low v has =
      grind (arith, v.0, in_rest d c counts has, from_one (volume + 1) (first + d.count) counts c (omega arith) v.4)

  lawful : IsRun run → (counts : List VolumeCount) → AreVolumes run 1 0 counts → (c : VolumeCount) → Contains counts c → IsLabel (label_of run c.volume c.first)
  lawful good counts v c has =
      let n = All-contains AreNumbers counts c (volumes_numbers run counts good v) has in
      record { name = good.name; level = good.level; date = good.date; since = good.since; volume = (from_one 1 0 counts c (omega arith) v has, n.volume); first = n.first }

-- the look fails with `CountedReel` if and only if it reads the label of a counted volume
pub exactly : (run : PlainRun) (counts : List VolumeCount) (first volume : ℕ) (reply : PlainReply) → IsRun run → AreVolumes run 1 0 counts
    → (after_reply run counts first Look reply ≡ Fails (CountedReel volume)) ↔ ShowsCounted run counts volume reply
exactly run counts first volume reply good v = (shown reply, shows)
  where
    shown : (reply : PlainReply) → after_reply run counts first Look reply ≡ Fails (CountedReel volume) → ShowsCounted run counts volume reply
    shown (Data bytes) is = by (counted_label run counts bytes) (told run counts bytes) is
      where
        by : (o : Option ℕ) → Tells run counts bytes o → after_label run first o ≡ Fails (CountedReel volume) → ShowsCounted run counts volume (Data bytes)
        by None tells is = absurd cc
        by (Some w) tells is = (tells.0, tells.1, grind (arith, tells.2), ap Data tells.3)
    shown reply is = absurd cc

    shows : ShowsCounted run counts volume reply → after_reply run counts first Look reply ≡ Fails (CountedReel volume)
    shows (c, has, same, is) = rw is (by (counted_label run counts (label run c.volume c.first)) (told run counts (label run c.volume c.first)))
      where
        by : (o : Option ℕ) → Tells run counts (label run c.volume c.first) o → after_label run first o ≡ Fails (CountedReel volume)
        by None tells = absurd (tells c has refl)
        by (Some w) tells =
            let one = one_record (label_of run c.volume c.first) (label_of run tells.0.volume tells.0.first) (lawful run good counts v c has)
            (lawful run good counts v tells.0 tells.1) tells.3 in
            ap (λ n. Fails (CountedReel n)) (sym tells.2 ∙ sym (ap (λ (l : PlainLabel). l.volume) one) ∙ same)

-- the label of a counted volume fails the attempt, whatever else is counted
pub stops : (run : PlainRun) (counts : List VolumeCount) (first volume : ℕ) (reply : PlainReply) → ShowsCounted run counts volume reply
    → IsFailure (after_reply run counts first Look reply)
stops run counts first volume reply (c, has, same, is) =
    let tells = told run counts (label run c.volume c.first) in rw is (grind (arith, tells, has))

-- a step other than the look never fails with `CountedReel`
pub alone : (run : PlainRun) (counts : List VolumeCount) (first volume : ℕ) (step : Step) (heard : Received) → step ≢ Look
    → outcome run counts first step heard ≢ Fails (CountedReel volume)
alone run counts first volume step heard other is = grind (arith, nat_tests)
