-- What the logical lines of a model say: `[name]`, or `key = value` (Casbin, model syntax).
use Rattle.std.specs.Prelude.{◌≡◌, ℕ, false, List, [], ◌∷◌, ◌++◌}
use Rattle.text_parts.specs.Lines.{has_byte}
use Rattle.text_parts.specs.Blanks.{trimmed}
use Rattle.model_conf.specs.Comments.{IsUncommented}
use Rattle.text_parts.specs.Numbered.{Line, numbered, text_lines}
use Rattle.model_conf.specs.Logical.{AreLogical}

pub data LineContent : Type 0 where
  header : List ℕ → LineContent
  pair : List ℕ → List ℕ → LineContent
  nothing : LineContent

-- the text is no `[name]`
abbrev pub IsNoHeader : List ℕ → Type 0
IsNoHeader text = (name : List ℕ) → ¬ (text ≡ 91 ∷ name ++ 93 ∷ [])

-- what a text says, which begins and ends with no blank
pub data Says : List ℕ → LineContent → Type 0 where
  as_header : {text : List ℕ} (name : List ℕ) → text ≡ 91 ∷ name ++ 93 ∷ [] → Says text (header name)
  as_pair : {text : List ℕ} (key value : List ℕ) → IsNoHeader text → has_byte 61 key ≡ false → text ≡ key ++ 61 ∷ value → Says text (pair (trimmed key) (trimmed value))
  as_nothing : {text : List ℕ} → IsNoHeader text → has_byte 61 text ≡ false → Says text nothing

-- what a logical line says, without its comment and the blanks at its ends
pub record LineSays (text : List ℕ) (said : LineContent) : Type 0 where
  pub left : List ℕ
  pub uncommented : IsUncommented text left
  pub says : Says (trimmed left) said

-- what a logical line says, under its number
pub record Statement : Type 0 where
  pub number : ℕ
  pub said : LineContent

abbrev pub statement : ℕ → LineContent → Statement
statement number said = record { number = number; said = said }

-- each of the logical lines says this
pub data AllSay : List Line → List Statement → Type 0 where
  no_more : AllSay [] []
  one_more : {first : Line} {lines : List Line} {said : LineContent} {statements : List Statement} → LineSays first.text said → AllSay lines statements
      → AllSay (first ∷ lines) (statement first.number said ∷ statements)

-- the lines, taken as logical lines, say this
pub record AreStatements (lines : List Line) (statements : List Statement) : Type 0 where
  pub logical : List Line
  pub lines_are : AreLogical lines logical
  pub say : AllSay logical statements

-- what the lines of a text say
abbrev pub HasStatements : List ℕ → List Statement → Type 0
HasStatements bytes statements = AreStatements (numbered 1 (text_lines bytes)) statements
