-- What a refusal prints. Public contracts cite it.
use Rattle.std.specs.Prelude.{ℕ, List, Option, option_map}
use Rattle.refusals.specs.Row.{row_text}
use Rattle.refusals.specs.declared.refusal.Refusal.{Refusal}

-- The text of the refusal's row; no text is known without a row.
abbrev pub refusal_text : Refusal → Option (List ℕ)
refusal_text r = option_map (λ row. row_text row r.device.now) r.row
