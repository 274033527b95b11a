-- Why one piece is no text.
use Rattle.std.specs.Prelude.{◌≡◌, ℕ, ⊤, List, IsUtf8}
use Rattle.enforce_core.specs.declared.stops.AskStop.{AskStop}
use Rattle.enforce_core.specs.declared.stops.AskStop.TheVariants as stop

-- by cases on the stop; pieces are counted from 1
abbrev pub PieceStops : (piece : List ℕ) → (number : ℕ) → AskStop → Type 0
PieceStops piece number (stop.NotUtf8 field) = (field ≡ number) × ¬ (IsUtf8 piece)
PieceStops piece number stop.NoMemory = ⊤
PieceStops piece number _ = ⊥
