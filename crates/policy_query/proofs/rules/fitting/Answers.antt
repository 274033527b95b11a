use Rattle.std.proofs.Common.{◌+◌, ap, arith, sym, ◌∙◌, filter, length, rules}
use Rattle.std.proofs.lemmas.List.{take_all}
use Rattle.policy_table.proofs.CallerLemmas.{fewer, next_row, no_more_rows}
use Rattle.policy_table.specs.Filters.{fits_filter}
use Rattle.policy_table.specs.Tables.{Fields}
use Rattle.policy_query.proofs.RowLemmas.{kept_row, passed_row}
use Rattle.policy_query.proofs.rules.fitting.Goals as goal

pub loop-rule-init : goal.loop-rule-init
loop-rule-init c = (0, search rules, search rules)

pub loop-rule-preserved : goal.loop-rule-preserved
loop-rule-preserved c =
    let test = λ (rule : Fields). fits_filter rule c.args.at c.args.values.now in
    let n = c.loop-rule.invariant.0 in
    let row = next_row c.args.rules c.loop-rule.rule-iterator c.next.new.self n c.in-Some.rule.now c.loop-rule.invariant.1 c.in-Some.ensures.steps in
    (n + 1, row.behind, passed_row test c.args.rules n c.in-Some.rule.now c.loop-rule.fitting.items row.within row.is (sym c.fits_filter.ensures ∙ c.if-fits_filter.false) c.loop-rule.invariant.2)

pub loop-rule-preserved-in_ok-push : goal.loop-rule-preserved-in_ok-push
loop-rule-preserved-in_ok-push c =
    let test = λ (rule : Fields). fits_filter rule c.args.at c.args.values.now in
    let n = c.loop-rule.invariant.0 in
    let row = next_row c.args.rules c.loop-rule.rule-iterator c.next.new.self n c.in-Some.rule.now c.loop-rule.invariant.1 c.in-Some.ensures.steps in
    (n + 1, row.behind, kept_row test c.args.rules n c.in-Some.rule.now c.loop-rule.fitting.items _ row.within row.is (sym c.fits_filter.ensures ∙ c.if-fits_filter.true) c.loop-rule.invariant.2 (search rules))

pub from_vec-requires : goal.from_vec-requires
from_vec-requires c =
    let test = λ (rule : Fields). fits_filter rule c.args.at c.args.values.now in
    let n = c.loop-rule.invariant.0 in
    let past = no_more_rows c.args.rules c.loop-rule.rule-iterator n c.loop-rule.invariant.1 c.in-None.ensures.steps.0 in
    let all = c.loop-rule.invariant.2 ∙ ap (filter test) (take_all n c.args.rules past) in
    omega (arith, c.loop-rule.fitting.ok.0, ap length all, fewer test c.args.rules, c.requires.few)

pub returns : goal.returns
returns c =
    let n = c.loop-rule.invariant.0 in
    let past = no_more_rows c.args.rules c.loop-rule.rule-iterator n c.loop-rule.invariant.1 c.in-None.ensures.steps.0 in
    c.from_vec.ensures ∙ c.loop-rule.invariant.2 ∙ ap (filter (λ (rule : Fields). fits_filter rule c.args.at c.args.values.now)) (take_all n c.args.rules past)
