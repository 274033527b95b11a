-- Comments: from the first `#` that stands outside a quoted text, a logical line is dropped (Casbin, model syntax).
use Rattle.std.specs.Prelude.{◌≡◌, ◌≢◌, ℕ, ◌⊎◌, false, List, [], ◌∷◌, ◌++◌}
use Rattle.text_parts.specs.Lines.{has_byte}

-- `"` or `'`
abbrev pub IsQuote : ℕ → Type 0
IsQuote byte = (byte ≡ 34) ⊎ (byte ≡ 39)

-- the text, and what is left of it without its comment; a quoted text goes to the next same sign, or to the end
pub data IsUncommented : List ℕ → List ℕ → Type 0 where
  ended : IsUncommented [] []
  comment : {bytes : List ℕ} → IsUncommented (35 ∷ bytes) []
  plain : {byte : ℕ} {bytes left : List ℕ} → byte ≢ 35 → ¬ (IsQuote byte) → IsUncommented bytes left → IsUncommented (byte ∷ bytes) (byte ∷ left)
  quoted : {quote : ℕ} (inside bytes left : List ℕ) {text whole : List ℕ} → IsQuote quote → has_byte quote inside ≡ false → IsUncommented bytes left
      → text ≡ inside ++ quote ∷ bytes → whole ≡ inside ++ quote ∷ left → IsUncommented (quote ∷ text) (quote ∷ whole)
  unclosed : {quote : ℕ} {inside whole : List ℕ} → IsQuote quote → has_byte quote inside ≡ false → whole ≡ inside → IsUncommented (quote ∷ inside) (quote ∷ whole)
