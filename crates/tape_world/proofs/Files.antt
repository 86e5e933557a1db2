-- A sum that a source returned for a counted volume is that of the file of its reel.
use Rattle.std.proofs.Common.{◌≡◌, ℕ, List, Option, Some, None, ap, sym, ◌∙◌}
use Rattle.std.specs.Prelude.{IfSome}
use Rattle.sha2.specs.Sha256.{sha256}
use Rattle.dump_run.specs.Run.{PlainRun}
use Rattle.dump_run.specs.declared.count.VolumeCount.{VolumeCount}
use Rattle.volume_check.specs.Volume.{volume_sum}
use Rattle.world_model.specs.World.{World}
use Rattle.world_model.specs.Sums.{CountedSums}
use Rattle.tape_world.specs.Files.{IsSumOfFiles}

sum_of_files : (w : World) (run : PlainRun) (payload : List (List ℕ)) (count : VolumeCount) (sum : List ℕ) → CountedSums w
    → sum ≡ volume_sum run payload count.volume count.first count.count → IsSumOfFiles w run payload count sum
sum_of_files w run payload count sum counted is x b bytes among same begun its blocks spared file =
    is
    ∙ ap (λ (r : PlainRun). volume_sum r payload count.volume count.first count.count) (sym its)
    ∙ ap (λ (p : List (List ℕ)). volume_sum b.run p count.volume count.first count.count) (sym blocks)
    ∙ ap (λ (v : VolumeCount). volume_sum b.run b.payload v.volume v.first v.count) (sym same)
    ∙ sym ((counted x b among begun spared).sums file.0 file.1)
    ∙ ap sha256 (sym file.2)

-- the same of what is returned, if that is a sum
pub summed_files : (w : World) (run : PlainRun) (count : VolumeCount) (holds : List (List ℕ) → Type 0) (result : Option (List ℕ)) → CountedSums w
    → IfSome result (λ sum. (payload : List (List ℕ)) → holds payload → sum ≡ volume_sum run payload count.volume count.first count.count)
    → IfSome result (λ sum. (payload : List (List ℕ)) → holds payload → IsSumOfFiles w run payload count sum)
summed_files w run count holds None counted is = is
summed_files w run count holds (Some sum) counted is = λ payload has. sum_of_files w run payload count sum counted (is payload has)
