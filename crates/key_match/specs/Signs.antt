-- How a pattern reads as pieces: a sign and the rest, or a byte that stands for itself and the rest (Casbin, functions in matchers:
-- keyMatch2 to keyMatch5, keyGet2, keyGet3, globMatch).
use Rattle.std.specs.Prelude.{◌≡◌, ◌≢◌, ℕ, Bool, false, true, List, [], ◌∷◌, ◌++◌, IsTrue, ⊤}
use Rattle.std.specs.List.{list_all}
use Rattle.key_match.specs.Patterns.{begins_with, in_braces, in_class, ranges_of}
use Rattle.key_match.specs.Pieces.{not_slash, Piece, Only, NotSlash, Class, One, Segment, Stretch, Rest}

-- one byte or more, each of which passes
abbrev pub IsWordOf : (ℕ → Bool) → List ℕ → Type 0
IsWordOf test text = (text ≢ []) × IsTrue (list_all test text)

-- no further byte passes
abbrev pub IsEndOf : (ℕ → Bool) → List ℕ → Type 0
IsEndOf test [] = ⊤
IsEndOf test (byte ∷ rest) = test byte ≡ false

-- the signs of a kind of patterns: behind a byte (0 where there is none) and before a rest, the text is spelled for the piece
abbrev pub Signs : Type 1
Signs = (before : ℕ) → (spelling rest : List ℕ) → Piece → Type 0

-- keyMatch2 and keyGet2: `:name` up to the next `/`, and `*` behind `/`
pub data ColonSign : ℕ → List ℕ → List ℕ → Piece → Type 0 where
  colon_name : {before : ℕ} {name rest : List ℕ} → IsWordOf not_slash name → IsEndOf not_slash rest → ColonSign before (58 ∷ name) rest (Segment name)
  colon_star : {rest : List ℕ} → ColonSign 47 (42 ∷ []) rest Rest

-- keyMatch3 to keyMatch5 and keyGet3: `{name}`, and `*` behind `/`
pub data BraceSign : ℕ → List ℕ → List ℕ → Piece → Type 0 where
  brace_name : {before : ℕ} {name rest : List ℕ} → IsWordOf in_braces name → BraceSign before (123 ∷ name ++ 125 ∷ []) rest (Segment name)
  brace_star : {rest : List ℕ} → BraceSign 47 (42 ∷ []) rest Rest

-- globMatch: `*`, `?`, `[items]` and `[^items]`
pub data GlobSign : ℕ → List ℕ → List ℕ → Piece → Type 0 where
  glob_star : {before : ℕ} {rest : List ℕ} → GlobSign before (42 ∷ []) rest Stretch
  glob_one : {before : ℕ} {rest : List ℕ} → GlobSign before (63 ∷ []) rest (One NotSlash)
  glob_class : {before : ℕ} {items rest : List ℕ} → IsWordOf in_class items → begins_with 94 items ≡ false → GlobSign before (91 ∷ items ++ 93 ∷ []) rest (One (Class false (ranges_of items)))
  glob_negated : {before : ℕ} {items rest : List ℕ} → IsWordOf in_class items → GlobSign before (91 ∷ 94 ∷ items ++ 93 ∷ []) rest (One (Class true (ranges_of items)))

-- no sign stands at the front of the pattern
abbrev pub HasNoSign : Signs → ℕ → List ℕ → Type 0
HasNoSign Sign before pattern = (spelling rest : List ℕ) (piece : Piece) → pattern ≡ spelling ++ rest → ¬ Sign before spelling rest piece

-- the last byte of a text behind a byte
abbrev pub last_of : ℕ → List ℕ → ℕ
last_of before [] = before
last_of before (byte ∷ rest) = last_of byte rest

-- the pattern behind a byte reads as these pieces
pub data ReadsAs (Sign : Signs) : ℕ → List ℕ → List Piece → Type 0 where
  ended : {before : ℕ} → ReadsAs Sign before [] []
  by_sign : {before : ℕ} (spelling rest : List ℕ) {pattern : List ℕ} {piece : Piece} {pieces : List Piece} → Sign before spelling rest piece → ReadsAs Sign (last_of before spelling) rest pieces
      → pattern ≡ spelling ++ rest → ReadsAs Sign before pattern (piece ∷ pieces)
  by_itself : {before byte : ℕ} {rest : List ℕ} {pieces : List Piece} → HasNoSign Sign before (byte ∷ rest) → ReadsAs Sign byte rest pieces → ReadsAs Sign before (byte ∷ rest) (One (Only byte) ∷ pieces)

-- the pattern `*` alone fits everything; each other is read from its first byte on
pub data IsKeyPattern (Sign : Signs) : List ℕ → List Piece → Type 0 where
  lone_star : IsKeyPattern Sign (42 ∷ []) (Rest ∷ [])
  of_pieces : {pattern : List ℕ} {pieces : List Piece} → pattern ≢ 42 ∷ [] → ReadsAs Sign 0 pattern pieces → IsKeyPattern Sign pattern pieces
