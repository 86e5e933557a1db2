-- What a reader gave of what was unread.
use Rattle.std.proofs.Common.{◌≡◌, ℕ, List, ◌++◌, Option, Some, None, Result, Ok, Err, refl, subst, append_assoc}
use Rattle.world_host.proofs.Names.{PlainRequest, IsRequestPrefix, HasNoSpelling, HasFault, ParsesAs, RequestHeld, IsNext, plain_next_result, Request}
use Rattle.world_host.proofs.Names.{WireFault, GivesNothing}

-- bytes that are open have no fault
open_faultless : (bytes : List ℕ) (fault : WireFault) → IsRequestPrefix bytes → HasFault bytes fault → ⊥
open_faultless bytes fault o f =
    f.hopeless (f.later ++ o.0, o.1, rw append_assoc (rw (f.split, append_assoc) at o.2))

-- a beginning of a request gives nothing
gives_none : (bytes rest : List ℕ) (found : Result (Option PlainRequest) WireFault) → IsRequestPrefix bytes → HasNoSpelling bytes
    → ParsesAs bytes found rest
    → found ≡ Ok None
gives_none bytes rest (Ok None) o none g = refl
gives_none bytes rest (Ok (Some request)) o none g = absurd (none g.0 rest request g.2 g.1)
gives_none bytes rest (Err fault) o none g = absurd (open_faultless bytes fault o g.0)

pub next_nothing : (old new : RequestHeld) (result : Result (Option Request) WireFault) → IsNext old (plain_next_result result) new → result ≡ Ok None
    → GivesNothing old × (new ≡ old)
next_nothing old new result n e =
    let m = subst (λ a. IsNext old (plain_next_result a) new) e n in (
      λ bytes rest found u g.
          let w = m.continues bytes u in gives_none bytes rest found w.2.0 w.2.1 g,
      m.unchanged,
    )
