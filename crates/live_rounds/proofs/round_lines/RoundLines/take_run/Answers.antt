use Rattle.std.proofs.Common.{◌<◌, ◌^◌, List, arith, false, subst}
use Rattle.std.proofs.lemmas.Bool.{ltb-false, ltb-true}
use Rattle.std.specs.Prelude.{nat_lt}
use Rattle.answer_lines.specs.Printed.{PrintedLine}
use Rattle.live_rounds.proofs.MergingLemmas.{run_end, run_fits, run_on, run_within}
use Rattle.live_rounds.specs.Helps.MergedItems.{AreSomePrinted, merged_kinds}
use Rattle.live_rounds.proofs.round_lines.RoundLines.take_run.Goals as goal

-- no item is left
pub returns-in_default : goal.returns-in_default
returns-in_default c =
    let at = c.self.inside in
    subst (λ (l : List PrintedLine). AreSomePrinted false l l c.args.lines.now c.args.lines.now) c.self.view_is
    (run_end at.number at.kinds at.asked at.others c.args.lines.now c.in_default.ensures)

-- what is printed for a run
pub print_run-requires : goal.print_run-requires
print_run-requires c = c.in-Some.ensures.some

pub pass-requires : goal.pass-requires
pass-requires c =
    let at = c.self.inside in
    run_within c.in-Some.run'.asks c.in_ok-count.count c.in-Some.run'.count c.saturating_add-number.result at.kinds at.asked c.print_run.new.asked at.others c.print_run.new.others c.args.lines.now c.print_run.new.lines c.in-Some.ensures c.in_ok-count.ensures

pub overflow_cast-count : goal.overflow_cast-count
overflow_cast-count c =
    let at = c.self.inside in
    let few : c.in_ok-count.count < 2 ^ 32 = run_fits c.in-Some.run'.asks c.in_ok-count.count c.in-Some.run'.count c.saturating_add-number.result at.asked c.print_run.new.asked at.others c.print_run.new.others c.args.lines.now c.print_run.new.lines c.in_ok-count.ensures (omega (arith, c.saturating_add-number.ensures)) in
    omega (arith, few)

pub returns : goal.returns
returns c =
    let at = c.self.inside in
    let run = c.in-Some.run' in
    let count = c.in_ok-count.count in
    subst (λ (l : List PrintedLine). AreSomePrinted (nat_lt 0 count) l (merged_kinds c.saturating_add-self-inside.result c.pass.new.self c.print_run.new.asked c.print_run.new.others) c.args.lines.now c.print_run.new.lines) c.self.view_is
    (run_on at.number c.saturating_add-number.result c.saturating_add-self-inside.result count run.count at.kinds c.pass.new.self c.saturating_add-number.ensures c.saturating_add-self-inside.ensures c.pass.ensures (nat_lt 0 count)
    (λ is. ltb-true 0 count is) (λ is. let none = ltb-false 0 count is in omega (arith, none)) run.asks at.asked c.print_run.new.asked at.others c.print_run.new.others c.args.lines.now c.print_run.new.lines c.in-Some.ensures c.in_ok-count.ensures)
