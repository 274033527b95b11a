-- The texts that a run writes, and the pieces that they come in.
use Rattle.std.specs.Prelude.{◌≡◌, ℕ, List, [], ◌∷◌, ◌++◌, codes, decimal, flat_map, length, map}
use Rattle.answer_lines.specs.LineText.{line_text, name_text}
use Rattle.answer_lines.specs.declared.answer.Line.{Line}
use Rattle.loaded_work.specs.Texts.{text_of_lines}
use Rattle.model_conf.specs.ModelText.{ModelParts}
use Rattle.model_conf.specs.Printed as model
use Rattle.perm_base.specs.declared.shapes.RoleShape.{RoleShape}
use Rattle.perm_base.specs.declared.shapes.Shapes.{Shapes}
use Rattle.perm_base.specs.declared.shapes.TableId.{TableId}
use Rattle.perm_base.specs.declared.shapes.TableId.TheVariants.{P, G}
use Rattle.policy_table.specs.Tables.{Policy, rows}
use Rattle.script_read.specs.Said.{Said}
use Rattle.session_meaning.specs.Plain.{IsPlain}
use Rattle.session_meaning.specs.Rounds.{IsShared}

-- a table's name and how many rules it has
abbrev pub count_line : Policy → TableId → List ℕ
count_line tables table = name_text table ++ codes " " ++ decimal (length (rows tables table)) ++ codes "\n"

-- the tables of a model: p, and its role relations
abbrev pub tables_of : ModelParts → List TableId
tables_of parts = P ∷ map (λ (shape : RoleShape). G shape.number) parts.relations

-- the model's text, an empty line, and a line for each of its tables
abbrev pub check_text : ModelParts → Policy → List ℕ
check_text parts tables = model.printed parts ++ codes "\n" ++ flat_map (count_line tables) (tables_of parts)

-- the lines of items that are done one after the other, where these patterns were refused for each of them; each line is a piece
pub record IsOfLines (parts : ModelParts) (shapes : Shapes) (tables : Policy) (items : List Said) (refused : List (List (List ℕ))) (pieces : List (List ℕ)) (text : List ℕ) : Type 0 where
  pub lines : List Line
  pub plain : IsPlain parts shapes tables items refused lines
  pub pieces_are : pieces ≡ map line_text lines
  pub text_is : text ≡ text_of_lines lines

-- lines of items whose requests are answered by so many workers; each line is a piece
pub record IsOfSharedLines (workers : ℕ) (parts : ModelParts) (shapes : Shapes) (tables : Policy) (items : List Said) (refused : List (List (List ℕ))) (pieces : List (List ℕ)) (text : List ℕ) : Type 0 where
  pub lines : List Line
  pub shared : IsShared parts shapes tables workers items refused lines
  pub pieces_are : pieces ≡ map line_text lines
  pub text_is : text ≡ text_of_lines lines

-- a text that is this, has no pieces, and for which nothing is refused
pub record IsWhole (Is : List ℕ → Type 0) (refused : List (List (List ℕ))) (pieces : List (List ℕ)) (text : List ℕ) : Type 0 where
  pub none_refused : refused ≡ []
  pub no_pieces : pieces ≡ []
  pub is : Is text
