use Rattle.std.proofs.Common.{rules, ◌≡◌, ◌∙◌, List, Bool, Ok, Err, true, false, sym, ap, subst, ℕ, Option}
use Rattle.std.specs.Prelude.{option_copied}
use Rattle.effect_fold.specs.declared.outcome.Outcome.TheVariants.{Unmatched}
use Rattle.perm_value.specs.Datum.{truth}
use Rattle.matcher_code.specs.RunEnds.{IsAnswer}
use Rattle.matcher_code.specs.declared.no_truth.NoTruth.{NoTruth}
use Rattle.matcher_meaning.specs.Cases.{at_row}
use Rattle.matcher_meaning.specs.Perm.{outcome_of}
use Rattle.regex_gate.specs.Refusals.{RefusedOnly}
use Rattle.decision.specs.Helps.Asked.{case_in}
use Rattle.decision.specs.Helps.Outcomes.{SaysTruth, word_of_row}
use Rattle.decision.proofs.OutcomeLemmas.{comes_to, comes_to_fault}
use Rattle.decision.proofs.outcome.outcome.Goals as goal

pub returns-in-Ok-true-clause-comes : goal.returns-in-Ok-true-clause-comes
returns-in-Ok-true-clause-comes g c =
    let is : c.in-Ok-true.field-0 ≡ true = search rules in
    comes_to (case_in c.args.asking.now) (RefusedOnly (g.P.Finder.refusals c.args.finder.now) (g.P.Finder.refusals c.truth.new.finder)) (option_copied c.args.row) c.in-Ok-true.field-0 c.matched.result c.in-Ok-true.ensures.truth
    (c.matched.ensures ∙ ap (outcome_of (Ok true)) c.word_of_row.ensures ∙ ap (λ (b : Bool). outcome_of (Ok b) (word_of_row c.args.asking.now.model.now.policy (option_copied c.args.row))) (sym is))

pub returns-in-Ok-false-clause-comes : goal.returns-in-Ok-false-clause-comes
returns-in-Ok-false-clause-comes g c =
    let is : c.in-Ok-false.field-0 ≡ false = search rules in
    comes_to (case_in c.args.asking.now) (RefusedOnly (g.P.Finder.refusals c.args.finder.now) (g.P.Finder.refusals c.truth.new.finder)) (option_copied c.args.row) c.in-Ok-false.field-0 Unmatched c.in-Ok-false.ensures.truth
    (ap (λ (b : Bool). outcome_of (Ok b) (word_of_row c.args.asking.now.model.now.policy (option_copied c.args.row))) (sym is))

pub returns-in-Err-Fault-clause-comes : goal.returns-in-Err-Fault-clause-comes
returns-in-Err-Fault-clause-comes g c =
    let Refused : Option (List ℕ) → Type 0 = RefusedOnly (g.P.Finder.refusals c.args.finder.now) (g.P.Finder.refusals c.truth.new.finder) in
    comes_to_fault (case_in c.args.asking.now) Refused (option_copied c.args.row) c.in-Err-Fault.fault
    (subst (λ (why : NoTruth). IsAnswer {X = Bool} (SaysTruth (at_row (case_in c.args.asking.now) (option_copied c.args.row))) truth Refused (Err why)) c.in-Err-Fault.field-0-is c.in-Err-Fault.ensures.truth)
