-- The columns of a request or a policy: 1 to 32 distinct identifiers, joined by `,` with free blanks round each (Casbin, model syntax).
use Rattle.std.specs.Prelude.{ℕ, ◌<◌, ◌≤◌, ◌≢◌, ◌==◌, List, length, IsTrue, All, AllPairs, map}
use Rattle.std.specs.List.{slice_split}
use Rattle.text_parts.specs.Names.{is_identifier}
use Rattle.text_parts.specs.Blanks.{trimmed}

-- the parts between commas, without the blanks at their ends
unfoldable pub columns_in : List ℕ → List (List ℕ)
columns_in text = map trimmed (slice_split (λ (byte : ℕ). byte == 44) text)

-- the names are identifiers
abbrev pub AreNames : List (List ℕ) → Type 0
AreNames names = All (λ (name : List ℕ). IsTrue (is_identifier name)) names

-- no two of the names are the same
abbrev pub AreDistinct : List (List ℕ) → Type 0
AreDistinct names = AllPairs (λ (first second : List ℕ). first ≢ second) names

-- 1 to 32 distinct identifiers
pub record AreColumns (names : List (List ℕ)) : Type 0 where
  pub some : 0 < length names
  pub few : length names ≤ 32
  pub named : AreNames names
  pub distinct : AreDistinct names
