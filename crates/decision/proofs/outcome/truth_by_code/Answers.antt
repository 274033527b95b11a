use Rattle.std.specs.Prelude.{ℕ, Bool, List, Option, Err, option_copied}
use Rattle.perm_value.specs.Datum as datums
use Rattle.regex_gate.specs.Refusals.{RefusedOnly}
use Rattle.matcher_meaning.specs.Cases.{at_row}
use Rattle.decision.specs.Helps.Asked.{case_in}
use Rattle.decision.proofs.OutcomeLemmas.{answer_used, stop_given, truth_given}
use Rattle.decision.specs.Helps.Outcomes.{SaysTruth}
use Rattle.decision.proofs.outcome.truth_by_code.Goals as goal

pub returns-in-Ok-clause-truth : goal.returns-in-Ok-clause-truth
returns-in-Ok-clause-truth g c =
    let Refused : Option (List ℕ) → Type 0 = RefusedOnly (g.P.Finder.refusals c.args.finder.now) (g.P.Finder.refusals c.run.new.finder) in
    truth_given (at_row (case_in c.args.asking.now) (option_copied c.args.row)) c.args.asking.now.code.now _ _ _ _ c.requires.program Refused c.in-Ok.value c.truth_in.result c.truth_in.ensures c.in-Ok.ensures.value

pub returns-in-Err-clause-truth : goal.returns-in-Err-clause-truth
returns-in-Err-clause-truth g c =
    let Refused : Option (List ℕ) → Type 0 = RefusedOnly (g.P.Finder.refusals c.args.finder.now) (g.P.Finder.refusals c.run.new.finder) in
    stop_given (at_row (case_in c.args.asking.now) (option_copied c.args.row)) c.args.asking.now.code.now _ _ _ _ c.requires.program Refused c.in-Err.stop c.in-Err.ensures.value

pub returns-in-Err-clause-used : goal.returns-in-Err-clause-used
returns-in-Err-clause-used g c =
    let Refused : Option (List ℕ) → Type 0 = RefusedOnly (g.P.Finder.refusals c.args.finder.now) (g.P.Finder.refusals c.run.new.finder) in
    answer_used {X = Bool} (SaysTruth (at_row (case_in c.args.asking.now) (option_copied c.args.row))) (λ b. datums.truth b) (g.P.Finder.refusals c.args.finder.now) (g.P.Finder.refusals c.run.new.finder) (Err c.in-Err.stop)
    (stop_given (at_row (case_in c.args.asking.now) (option_copied c.args.row)) c.args.asking.now.code.now _ _ _ _ c.requires.program Refused c.in-Err.stop c.in-Err.ensures.value)
