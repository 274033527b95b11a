use Rattle.std.proofs.Common.{◌≡◌, ◌∙◌, Bool, None, Ok, Option, Some, ap, false, refl, subst, true}
use Rattle.std.specs.Prelude.{IfSome}
use Rattle.matcher_meaning.specs.Perm.{outcome_of}
use Rattle.decision.specs.Helps.Asked.{case_in}
use Rattle.decision.specs.Helps.PlainParts.{IsToldBy}
use Rattle.decision.proofs.outcome.outcome_told.Goals as goal

pub returns-then-not-truth : goal.returns-then-not-truth
returns-then-not-truth c =
    let told : IsToldBy (case_in c.args.asking.now) c.args.row.now c.args.parts false = subst (IsToldBy (case_in c.args.asking.now) c.args.row.now c.args.parts) c.if-not-truth.true c.in-Some.ensures in
    (Ok false, c.requires.parts c.args.row.now None false told, refl)

pub returns : goal.returns
returns c =
    let told : IsToldBy (case_in c.args.asking.now) c.args.row.now c.args.parts true = subst (IsToldBy (case_in c.args.asking.now) c.args.row.now c.args.parts) c.if-not-truth.false c.in-Some.ensures in
    (Ok true, c.requires.parts c.args.row.now None true told, c.matched.ensures ∙ ap (outcome_of (Ok true)) c.word_of_row.ensures)
