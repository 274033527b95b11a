-- Worked rules of a column.
use Rattle.std.proofs.Common.{◌≡◌, inl, ℕ, pos, true, List, [], ◌∷◌, Some, Ok, refl}
use Rattle.effect_fold.specs.declared.fault.Cause.TheVariants.{Kind, NoAttribute, RuleText}
use Rattle.matcher_read.specs.Expression.{Expression, binary, evaluated, whole}
use Rattle.matcher_read.specs.Expression as said
use Rattle.matcher_read.specs.declared.tree.Operator.TheVariants.{Greater, Plus}
use Rattle.model_conf.specs.RuleText.{IsNoRuleText}
use Rattle.perm_value.specs.Datum.{Datum}
use Rattle.perm_value.specs.Datum as datum
use Rattle.matcher_meaning.specs.Answers.{Evaluation, fails}
use Rattle.matcher_meaning.specs.Cases.{Case, asked_value, row_text}
use Rattle.matcher_meaning.specs.Comes.{ComesTo, RuleComesTo}
use Rattle.matcher_meaning.specs.Meaning.{along}

pub a_truth : (case : Case) (age : List ℕ) → asked_value case age ≡ Some (datum.whole (pos 20)) → RuleComesTo case 1 (binary 7 Greater (said.request 1 age []) (whole 9 (pos 18))) (Ok (datum.truth true))
a_truth case age is =
    let value : ◌≡◌ {A = Evaluation} (Ok (datum.whole (pos 20))) (along 1 (asked_value case age) []) = rw is refl in
    (Ok (datum.truth true), (Ok (datum.whole (pos 20)), value, (Ok (datum.whole (pos 18)), refl, refl)), refl)

pub another_kind : (case : Case) → RuleComesTo case 1 (binary 3 Plus (whole 1 (pos 1)) (whole 5 (pos 1))) (fails Kind 1)
another_kind case = (Ok (datum.whole (pos 2)), (Ok (datum.whole (pos 1)), refl, (Ok (datum.whole (pos 1)), refl, refl)), refl)

pub no_attribute : (case : Case) (sub age bytes : List ℕ) → asked_value case sub ≡ Some (datum.text bytes)
    → RuleComesTo case 4 (binary 11 Greater (said.request 1 sub (age ∷ [])) (whole 13 (pos 18))) (fails NoAttribute 4)
no_attribute case sub age bytes is =
    let value : ◌≡◌ {A = Evaluation} (fails NoAttribute 4) (along 4 (asked_value case sub) (age ∷ [])) = rw is refl in
    (fails NoAttribute 4, (fails NoAttribute 4, value, refl), refl)

pub no_rule : (case : Case) (column : List ℕ) → IsNoRuleText case.model (row_text case column) → ComesTo case (evaluated 6 column) (fails RuleText 6)
no_rule case column none = inl (none, refl)
