use Rattle.tape.proofs.Words.{◌≡◌, ◌++◌, List, ℕ, length, length-append, subst, ap, arith, MediumStep, Append, length_bytes}
use Rattle.tape.proofs.MediumRuns.{run_call, run_as}
use Rattle.tape.proofs.file_reel.image.append_record.Goals as goal

pub returns : goal.returns
unfolding length_bytes
returns g c =
    let bytes = c.args.bytes.now in
    let n = length_bytes (length bytes) in
    let p = c.to_le_bytes-length.result in
    let q : c.to_le_bytes-length.result ≡ n = c.to_le_bytes-length.ensures in
    run_as (run_call c.append_framed.ensures) (λ f. f) (λ f. f) (omega (arith, ap length q, length-append p (bytes ++ p), length-append bytes p))
    (λ x y held step. subst (λ (l : List ℕ). MediumStep (Append (l ++ (bytes ++ l)) c.append_framed.result) x y) q step)
