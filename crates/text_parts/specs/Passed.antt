-- Lines that are passed over: blank ones and comments (Casbin, model syntax).
use Rattle.std.specs.Prelude.{ℕ, ◌==◌, ◌||◌, Bool, true, if◌then◌else◌, List, [], ◌∷◌}
use Rattle.text_parts.specs.Blanks.{is_blank}

-- blanks alone, or a line whose first byte that is no blank passes the test
abbrev pub is_passed_by : (ℕ → Bool) → List ℕ → Bool
is_passed_by test [] = true
is_passed_by test (byte ∷ bytes) = if is_blank byte then is_passed_by test bytes else test byte

-- blanks alone, or a line whose first byte that is no blank is `#`
abbrev pub is_passed : List ℕ → Bool
is_passed line = is_passed_by (λ (byte : ℕ). byte == 35) line

-- in a model's text, also one that begins so with `;`
abbrev pub is_passed_in_model : List ℕ → Bool
is_passed_in_model line = is_passed_by (λ (byte : ℕ). byte == 35 || byte == 59) line
