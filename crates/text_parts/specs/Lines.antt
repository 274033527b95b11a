-- The lines of a text: it is cut at each LF, and the last line may lack its LF.
use Rattle.std.specs.Prelude.{◌≡◌, ℕ, Bool, false, ◌==◌, if◌then◌else◌, List, [], ◌∷◌, ◌++◌, All}
use Rattle.std.specs.List.{list_any, onto_first, flat_map}

-- the text holds the byte
abbrev pub has_byte : ℕ → List ℕ → Bool
has_byte byte text = list_any (λ b. b == byte) text

-- the lines of a text, without their LF
unfoldable pub lines_of : List ℕ → List (List ℕ)
lines_of [] = []
lines_of (byte ∷ bytes) = if byte == 10 then [] ∷ lines_of bytes else onto_first byte (lines_of bytes)

-- the texts, each followed by LF
abbrev pub with_ends : List (List ℕ) → List ℕ
with_ends texts = flat_map (λ (text : List ℕ). text ++ 10 ∷ []) texts

-- no text holds LF
abbrev pub AreLines : List (List ℕ) → Type 0
AreLines texts = All (λ (text : List ℕ). has_byte 10 text ≡ false) texts

-- a line without the CR at its end
abbrev pub without_cr : List ℕ → List ℕ
without_cr [] = []
without_cr (byte ∷ []) = if byte == 13 then [] else byte ∷ []
without_cr (byte ∷ next ∷ bytes) = byte ∷ without_cr (next ∷ bytes)
