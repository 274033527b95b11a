-- The version that is out, and the published edits.
use Rattle.std.proofs.Common.{◌≡◌, ℕ, ◌-◌, ◌≤◌, false, not, List, [], ◌∷◌, ◌++◌, length, length-append, take, drop, refl, sym, ap, ◌∙◌, arith}
use Rattle.std.specs.List.{before_last, suffix_len}
use Rattle.std.proofs.lemmas.List.{take-append-drop}
use Rattle.perm_base.proofs.CallerLemmas.{front_of, last_before, last_here}
use Rattle.perm_base.specs.declared.shapes.Shapes.{Shapes}
use Rattle.policy_table.specs.Tables.{Policy}
use Rattle.policy_table.specs.declared.change.Change.{Change}
use Rattle.script_read.specs.Said.{Said}
use Rattle.script_read.specs.Said as said
use Rattle.session_meaning.specs.Desks.{history}
use Rattle.session_meaning.specs.Given.{given}
use Rattle.session_meaning.specs.Versions.{is_publish, out}
use Rattle.session_meaning.proofs.GivenLemmas.{Begins, given_both, given_none}

module _ (shapes : Shapes) (opening : Policy) where
  -- ---- one item more

  pub out_publish : (before : List Said) → out shapes opening (before ++ said.publishes ∷ []) ≡ length (given shapes opening before)
  unfolding out
  out_publish before = ap (λ (l : List Said). length (given shapes opening l)) (last_here is_publish before said.publishes refl)

  pub out_same : (before : List Said) (item : Said) → is_publish item ≡ false → out shapes opening (before ++ item ∷ []) ≡ out shapes opening before
  unfolding out
  out_same before item other = ap (λ (l : List Said). length (given shapes opening l)) (last_before is_publish before item other)

  -- ---- the published edits

  -- the edits given at the last publish are the first of all
  first_given : (items : List Said) → Begins (given shapes opening (before_last is_publish items)) (given shapes opening items)
  first_given items =
      let at : ℕ = length items - suffix_len (λ (y : Said). not (is_publish y)) items - 1 in
      let more = given_both shapes opening (take at items) (drop at items) in
      (more.0, ap (given shapes opening) (sym (take-append-drop at items)) ∙ more.1)

  -- the version that is out has edits that are given
  pub out_among : (items : List Said) → out shapes opening items ≤ length (given shapes opening items)
  unfolding out
  out_among items =
      let more = first_given items in
      omega (arith, ap (λ (l : List (List Change)). length l) more.1, length-append (given shapes opening (before_last is_publish items)) more.0)

  -- the published edits are those given at the last publish
  history_is : (items : List Said) → history shapes opening items ≡ given shapes opening (before_last is_publish items)
  unfolding out
  history_is items =
      let more = first_given items in
      ap (take (length (given shapes opening (before_last is_publish items)))) more.1 ∙ front_of (given shapes opening (before_last is_publish items)) more.0

  pub history_none : history shapes opening [] ≡ []
  history_none = history_is [] ∙ given_none shapes opening

  -- a publish publishes all edits that are given
  pub history_publish : (before : List Said) → history shapes opening (before ++ said.publishes ∷ []) ≡ given shapes opening before
  history_publish before = history_is (before ++ said.publishes ∷ []) ∙ ap (given shapes opening) (last_here is_publish before said.publishes refl)

  -- all else leaves them
  pub history_same : (before : List Said) (item : Said) → is_publish item ≡ false → history shapes opening (before ++ item ∷ []) ≡ history shapes opening before
  history_same before item other =
      history_is (before ++ item ∷ []) ∙ ap (given shapes opening) (last_before is_publish before item other) ∙ sym (history_is before)
