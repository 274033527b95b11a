-- The lines of a script whose items are done one after the other, on one thread. Beside them stand the patterns that were refused
-- for each item, in the order of their refusals.
use Rattle.std.specs.Prelude.{◌≡◌, ℕ, ◌+◌, ⊤, min, false, List, [], ◌∷◌, ◌++◌, flat_map, length, map}
use Rattle.answer_lines.specs.declared.answer.Line.{Line}
use Rattle.model_conf.specs.ModelText.{ModelParts}
use Rattle.perm_base.specs.declared.shapes.Shapes.{Shapes}
use Rattle.policy_table.specs.Tables.{Policy}
use Rattle.script_read.specs.Said.{Said}
use Rattle.session_meaning.specs.Replies.{IsReplyAt, is_decided}
use Rattle.session_meaning.specs.Versions.{out, published}

-- the greatest number of a line: 2^32 - 1
abbrev pub most_number : ℕ
most_number = 4294967295

-- the number of the line behind so many items: they count from 1, and all that would have a greater number have the greatest
abbrev pub number_behind : ℕ → ℕ
number_behind count = min (count + 1) most_number

-- the patterns that were refused for all items, one after the other
abbrev pub all_refused : List (List (List ℕ)) → List (List ℕ)
all_refused refused = flat_map (λ (patterns : List (List ℕ)). patterns) refused

-- none for any of these items
abbrev pub none_refused : List Said → List (List (List ℕ))
none_refused items = map (λ (item : Said). []) items

module _ (model : ModelParts) (shapes : Shapes) (opening : Policy) where
  -- the line of an item behind others, where a request is answered at this version of these tables, and these patterns were refused
  -- for it: none where nothing is decided
  pub record IsLineAt (version : ℕ) (tables : Policy) (before : List Said) (item : Said) (refused : List (List ℕ)) (line : Line) : Type 0 where
    pub number : line.number ≡ number_behind (length before)
    pub answer : IsReplyAt model shapes opening refused before version tables item line.answer
    pub unasked : is_decided model item ≡ false → refused ≡ []

  -- the same by what is out
  abbrev pub IsLine : List Said → Said → List (List ℕ) → Line → Type 0
  IsLine before item refused line = IsLineAt (out shapes opening before) (published shapes opening before) before item refused line

  -- the lines of items behind others, one each in their order
  abbrev pub AreLines : List Said → List Said → List (List (List ℕ)) → List Line → Type 0
  AreLines before [] [] [] = ⊤
  AreLines before (item ∷ items) (refused ∷ others) (line ∷ lines) = IsLine before item refused line × AreLines (before ++ item ∷ []) items others lines
  AreLines before _ _ _ = ⊥

  -- the lines of a whole script
  unfoldable pub IsPlain : List Said → List (List (List ℕ)) → List Line → Type 0
  IsPlain items refused lines = AreLines [] items refused lines
