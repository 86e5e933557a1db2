-- Whether a text was printed. Public contracts cite it.
use Rattle.std.specs.Prelude.{◌≡◌, ℕ, Bool, true, false, List, Option}
use Rattle.std.specs.Io.KnownBytes.{Appends}
use Rattle.rmt_wire.specs.Counted.{Counting, HasRisen}
use Rattle.rmt_wire.specs.ReplyWriter.{AppendsBeginning}

-- If true, the whole text was printed, and no failure was counted. If false, a beginning of the
-- text was printed, and a failure was counted.
abbrev pub IsPrinted : {W : Type 0} → (W → Option (List ℕ)) → List ℕ → Counting W → Counting W → Bool → Type 0
IsPrinted contents text out out' true = Appends (contents out.inner) (contents out'.inner) text × (out'.failures ≡ out.failures)
IsPrinted contents text out out' false =
    AppendsBeginning (contents out.inner) (contents out'.inner) text × HasRisen out.failures out'.failures
