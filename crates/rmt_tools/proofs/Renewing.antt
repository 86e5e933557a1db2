-- Sessions of a peer in memory, each after the one before it.
use Rattle.std.proofs.Common.{◌≡◌, None, ap, ◌∙◌}
use Rattle.rmt_server.specs.Memory.{MemoryState, in_memory}
use Rattle.rmt_server.specs.Opening.{IsClosed}
use Rattle.rmt_server.specs.State.{state}
use Rattle.rmt_tools.specs.Telling.{Drives, Seated, IsCleared}

-- a session with nothing open has nothing to close
pub stays_cleared : (old : Drives) (was : Seated) (between : Drives) (begun : Seated) (drives : Drives) (session : Seated) → begun.opened ≡ None
    → IsCleared old was between → IsClosed in_memory (state between begun) (state drives session) → IsCleared old was drives
stays_cleared old was between begun drives session none (left, end, stacks, numbers) closed =
    let same = closed.idle none in
    (left, end, ap (λ (x : MemoryState). x.drives.stacks) same ∙ stacks, ap (λ (x : MemoryState). x.drives.holds.numbers) same ∙ numbers)
