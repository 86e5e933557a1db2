-- What a reader of replies waits for once it was told to wait.
use Rattle.std.proofs.Common.{◌≡◌, ◌≢◌, ℕ, Bool, false, true, List, [], ◌∷◌, Some, None, refl, subst}
use Rattle.rmt_wire.specs.Reply.{Wanted}
use Rattle.rmt_wire.specs.ReplyReader.{ReplyHeld, ReplyUnread}
use Rattle.rmt_wire_tests.specs.Listener.{WaitsOnlyIf}

expected_at : (wanted : Wanted) (old new : ReplyHeld) (bytes : List ℕ)
    → (ReplyUnread old None [] → ReplyUnread new (Some wanted) [])
    → ((bytes : List ℕ) → bytes ≢ [] → ReplyUnread old None bytes → ReplyUnread new None bytes)
    → ReplyUnread old None bytes → WaitsOnlyIf true new
expected_at wanted old new [] waits for_good u = (Some wanted, [], waits u, λ h. absurd cc)
expected_at wanted old new (b ∷ bytes) waits for_good u = (None, b ∷ bytes, for_good (b ∷ bytes) (λ e. cc) u, λ h. refl)

-- it waits for that, or bytes are unread and it waits for none
pub waits_after_expect : (wanted : Wanted) (is_waiting : Bool) (old new : ReplyHeld)
    → (ReplyUnread old None [] → ReplyUnread new (Some wanted) [])
    → ((bytes : List ℕ) → bytes ≢ [] → ReplyUnread old None bytes → ReplyUnread new None bytes)
    → is_waiting ≡ false → WaitsOnlyIf is_waiting old → WaitsOnlyIf true new
waits_after_expect wanted is_waiting old new waits for_good h w =
    expected_at wanted old new w.1 waits for_good (subst (λ o. ReplyUnread old o w.1) (w.3 h) w.2)
