use Rattle.rmtd_args.proofs.Words.{ap, map, List, ℕ, Bor, ◌∙◌, IfOk-weaker, App, Text, is_simple, matches_of, matches_in, ◌≡◌, inl, inr, [], subst, refl, true, Result, Ok, Err, IfOk, IfErr, FailsBy, HasKind, IsAmong, Kinds, fault_of, kind_of, is_simple_and_free, app, faults_in, IsShown}
use Rattle.clap.specs.declared.error.Error.{Error}
use Rattle.clap.specs.declared.error.kind.ErrorKind.{ErrorKind}
use Rattle.clap.specs.declared.error.kind.ErrorKind.TheVariants.{OutOfMemory}
use Rattle.clap.proofs.OnLiterals.{clap_on_literals}
use Rattle.rmtd_args.proofs.rmtd_line.matched.Goals as goal

app_is_simple : is_simple app ≡ true
unfolding app clap_on_literals
app_is_simple = refl

app_is_simple_and_free : is_simple_and_free app ≡ true
unfolding app clap_on_literals
app_is_simple_and_free = refl

-- what the kinds of error tell of a result: there is none where arguments are accepted, and else the error has one or is for want of memory
abbrev Told : {T : Type 0} → Kinds → Result T Error → Type 0
Told kinds r =
    IfOk r (λ _. kinds ≡ []) × IfErr r (λ x. (kind_of x ≡ OutOfMemory → ⊥) → kinds ≡ [] → ⊥)
    × IfErr r (λ x. IsShown (kind_of x) → (k : ErrorKind) × IsShown k × IsAmong k kinds) × IfErr r (HasKind kinds)

told_of : {T : Type 0} (kinds : Kinds) (r : Result T Error) → FailsBy kinds r → Told kinds r
told_of kinds (Ok m) none = (none, tt, tt, tt)
told_of kinds (Err x) (inl memory) =
    (tt, λ other none. other memory, λ shown. absurd (elim shown [ inl help ↦ cc | inr version ↦ cc ]), inl memory)
told_of kinds (Err x) (inr among) =
    (tt, λ other none. subst (λ (ks : Kinds). IsAmong (kind_of x) ks) none among, λ shown. (kind_of x, shown, among), inr among)

-- the kinds are those of the arguments, since they can be told of this command
told : {T : Type 0} (a : App) (arguments : List Text) (r : Result T Error) → a ≡ app
    → (is_simple_and_free a ≡ true → FailsBy (fault_of a arguments) r) → Told (faults_in arguments) r
unfolding faults_in
told a arguments r e fails =
    told_of (fault_of app arguments) r (subst (λ x. FailsBy (fault_of x arguments) r) e (fails (ap is_simple_and_free e ∙ app_is_simple_and_free)))

pub returns : goal.returns
unfolding matches_in
returns c =
    let e = c.requires in
    let arguments : List Text = map (λ (s : Bor (List ℕ)). s.now) c.args.arguments.now in
    let kinds = told _ arguments c.try_get_matches_from_mut.result e c.try_get_matches_from_mut.ensures.kinds in record {
      rows =
          IfOk-weaker c.try_get_matches_from_mut.result _ _
          (λ m h. (h.2 (ap is_simple e ∙ app_is_simple)).0 ∙ ap (λ (a : App). matches_of a arguments) e) c.try_get_matches_from_mut.ensures.ok;
      taken = kinds.0;
      refused = kinds.1;
      shown = kinds.2;
      kinds = kinds.3;
    }
