-- What `explain` writes: the line of each request, and below the line of one that is decided its near misses.
use Rattle.std.specs.Prelude.{◌≡◌, ℕ, ◌==◌, ⊤, List, [], ◌∷◌, ◌++◌, Ok, MatchBool, flat_map, length}
use Rattle.std.specs.List.{Contains}
use Rattle.answer_lines.specs.LineText.{line_text}
use Rattle.answer_lines.specs.declared.answer.Line.{Line}
use Rattle.model_conf.specs.ModelText.{ModelParts}
use Rattle.near_miss.specs.Lines.{miss_lines}
use Rattle.near_miss.specs.Misses.{AreNearMisses}
use Rattle.near_miss.specs.Parts.{AreParts}
use Rattle.near_miss.specs.declared.misses.NearMiss.{NearMiss}
use Rattle.perm_base.specs.declared.shapes.Shapes.{Shapes}
use Rattle.perm_base.specs.declared.shapes.TableId.TheVariants.{P}
use Rattle.perm_value.specs.Datum.{Datum}
use Rattle.policy_table.specs.Tables.{Policy, rows}
use Rattle.script_read.specs.Said.{Said, asks}
use Rattle.session_meaning.specs.Plain.{IsPlain}

-- the lines of the first near misses of a request, so many at most, where searches for these patterns are refused
pub record TellsMisses (parts : List ModelParts) (most : ℕ) (shapes : Shapes) (policy : Policy) (values : List Datum) (refused : List (List ℕ)) (text : List ℕ) : Type 0 where
  pub misses : List NearMiss
  pub are : AreNearMisses shapes policy values (Contains refused) parts most misses
  pub told : text ≡ miss_lines parts (rows policy P) misses

module _ (parts : List ModelParts) (most : ℕ) (model : ModelParts) (shapes : Shapes) (policy : Policy) where
  -- what stands below the line of an item: the near misses of a request that is decided, and nothing below other lines
  abbrev pub IsBelow : Said → List (List ℕ) → List ℕ → Type 0
  IsBelow (asks (Ok values)) refused text = MatchBool (length values == length model.request) (TellsMisses parts most shapes policy values refused text) (text ≡ [])
  IsBelow item refused text = text ≡ []

  -- the line of an item, and what stands below it
  abbrev pub IsPiece : Said → List (List ℕ) → Line → List ℕ → Type 0
  IsPiece item refused line piece = (below : List ℕ) × IsBelow item refused below × (piece ≡ line_text line ++ below)

  -- those of all items, where these patterns were refused for each of them
  abbrev pub ArePieces : List Said → List (List (List ℕ)) → List Line → List (List ℕ) → Type 0
  ArePieces [] [] [] [] = ⊤
  ArePieces (item ∷ items) (refused ∷ others) (line ∷ lines) (piece ∷ pieces) = IsPiece item refused line piece × ArePieces items others lines pieces
  ArePieces _ _ _ _ = ⊥

-- requests are answered by their lines, each with its near misses below it; the parts of the matcher are those that `&&` joins
pub record IsExplained (most : ℕ) (model : ModelParts) (shapes : Shapes) (policy : Policy) (items : List Said) (refused : List (List (List ℕ))) (pieces : List (List ℕ)) (text : List ℕ) : Type 0 where
  pub parts : List ModelParts
  pub parts_are : AreParts model parts
  pub lines : List Line
  pub plain : IsPlain model shapes policy items refused lines
  pub below : ArePieces parts most model shapes policy items refused lines pieces
  pub text_is : text ≡ flat_map (λ (piece : List ℕ). piece) pieces
