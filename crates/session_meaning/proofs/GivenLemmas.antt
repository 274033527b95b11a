-- The edits that items give.
use Rattle.std.proofs.Common.{◌≡◌, ℕ, ◌≤◌, Bool, true, false, eqb, List, [], ◌∷◌, ◌++◌, append_assoc, append-nil, length, length-append, take, Some, None, Ok, Err, refl, sym, ap, ◌∙◌, arith}
use Rattle.std.specs.Prelude.{if◌then◌else◌}
use Rattle.std.specs.List.{fold}
use Rattle.std.proofs.lemmas.Bool.{eqb-false}
use Rattle.std.proofs.lemmas.List.{take-append-le}
use Rattle.std.proofs.lemmas.List.Sums.{fold-append}
use Rattle.edit_calls.specs.Answers.{CallAnswer, answer, while_few}
use Rattle.edit_calls.specs.declared.refused.CallRefused.TheVariants.{Full}
use Rattle.perm_base.specs.declared.shapes.Shapes.{Shapes}
use Rattle.policy_table.specs.Changes.{replay}
use Rattle.policy_table.specs.Tables.{Policy}
use Rattle.policy_table.specs.declared.change.Change.{Change}
use Rattle.policy_table.specs.declared.limit.Limit.TheVariants.{Edits}
use Rattle.script_read.specs.Said.{Said}
use Rattle.script_read.specs.Said as said
use Rattle.version_log.specs.Log.{most_versions}
use Rattle.session_meaning.specs.Given.{call_answer, given, with_edit, with_item}

-- edits, and others behind them
abbrev pub Begins : List (List Change) → List (List Change) → Type 0
Begins front whole = (rest : List (List Change)) × (whole ≡ front ++ rest)

none_behind : (edits : List (List Change)) → Begins edits edits
none_behind edits = ([], sym (append-nil edits))

edit_behind : (edits : List (List Change)) (answered : CallAnswer) → Begins edits (with_edit edits answered)
edit_behind edits (Ok (Some edit)) = (edit ∷ [], refl)
edit_behind edits (Ok None) = none_behind edits
edit_behind edits (Err refused) = none_behind edits

-- a further edit is given while there are few
few_edit : (edits : List (List Change)) (answered : CallAnswer) → length edits ≤ most_versions → length (with_edit edits (while_few most_versions (length edits) answered)) ≤ most_versions
few_edit edits (Ok None) few = few
few_edit edits (Err refused) few = few
few_edit edits (Ok (Some edit)) few = by (eqb (length edits) most_versions) refl
  where
    by : (test : Bool) → eqb (length edits) most_versions ≡ test → length (with_edit edits (if test then Err (Full Edits) else Ok (Some edit))) ≤ most_versions
    by true e = few
    by false e = omega (arith, few, eqb-false (length edits) most_versions e, length-append edits (edit ∷ []))

module _ (shapes : Shapes) (opening : Policy) where
  item_behind : (edits : List (List Change)) (item : Said) → Begins edits (with_item shapes opening edits item)
  item_behind edits (said.edits call) = edit_behind edits (call_answer shapes opening edits call)
  item_behind edits _ = none_behind edits

  items_behind : (edits : List (List Change)) (items : List Said) → Begins edits (fold (with_item shapes opening) edits items)
  items_behind edits [] = none_behind edits
  items_behind edits (item ∷ items) =
      let one = item_behind edits item in
      let others = items_behind (with_item shapes opening edits item) items in
      (one.0 ++ others.0, others.1 ∙ ap (λ (l : List (List Change)). l ++ others.0) one.1 ∙ append_assoc edits one.0 others.0)

  few_item : (edits : List (List Change)) (item : Said) → length edits ≤ most_versions → length (with_item shapes opening edits item) ≤ most_versions
  few_item edits (said.edits call) few = few_edit edits (answer shapes (replay edits opening) call) few
  few_item edits _ few = few

  few_items : (edits : List (List Change)) (items : List Said) → length edits ≤ most_versions → length (fold (with_item shapes opening) edits items) ≤ most_versions
  few_items edits [] few = few
  few_items edits (item ∷ items) few = few_items (with_item shapes opening edits item) items (few_item edits item few)

  pub given_none : given shapes opening [] ≡ []
  unfolding given
  given_none = refl

  -- one item more gives its own edit: at a call the one of its answer, and else none
  pub given_more : (before : List Said) (item : Said) → given shapes opening (before ++ item ∷ []) ≡ with_item shapes opening (given shapes opening before) item
  unfolding given
  given_more before item = fold-append (with_item shapes opening) [] before (item ∷ [])

  -- the edits of a front stay given
  pub given_both : (front back : List Said) → Begins (given shapes opening front) (given shapes opening (front ++ back))
  unfolding given
  given_both front back =
      let more = items_behind (fold (with_item shapes opening) [] front) back in
      (more.0, fold-append (with_item shapes opening) [] front back ∙ more.1)

  -- and no version of them changes
  pub given_front : (front back : List Said) (version : ℕ) → version ≤ length (given shapes opening front) → take version (given shapes opening (front ++ back)) ≡ take version (given shapes opening front)
  given_front front back version within =
      let more = given_both front back in
      ap (take version) more.1 ∙ take-append-le version (given shapes opening front) more.0 within

  -- there are never more than may be
  pub given_few : (items : List Said) → length (given shapes opening items) ≤ most_versions
  unfolding given
  given_few items = few_items [] items (omega arith)
