use Rattle.std.proofs.Common.{◌+◌, ap, arith, ◌∙◌, filter, rules}
use Rattle.std.proofs.lemmas.Grind.{common_steps}
use Rattle.std.proofs.lemmas.List.{take_all}
use Rattle.std.proofs.lemmas.List.Elements.{filter_more}
use Rattle.policy_table.proofs.CallerLemmas.{next_row, no_more_rows}
use Rattle.role_domain.specs.Relations.{has_pattern}
use Rattle.role_domain.proofs.ExactLemmas.{no_patterns}
use Rattle.role_domain.proofs.patterns.patterns_of.Goals as goal

pub returns-in-Exact : goal.returns-in-Exact
returns-in-Exact c = no_patterns c.args.fit c.args.rows c.new-found.result.items c.in-Exact.is c.new-found.ensures.items

pub loop-row-init : goal.loop-row-init
loop-row-init c = (0, search rules, search rules)

pub loop-row-preserved : goal.loop-row-preserved
loop-row-preserved c =
    let n = c.loop-row.invariant.0 in
    let row = next_row c.args.rows c.loop-row.row-iterator c.next.new.self n c.in-Some.row.now c.loop-row.invariant.1 c.in-Some.ensures.steps in
    let more = filter_more (has_pattern c.args.fit) c.args.rows n c.in-Some.row.now row.within in
    (n + 1, row.behind, grind (arith, common_steps, more, row.is, c.loop-row.invariant.2))

pub loop-row-preserved-in_ok-push : goal.loop-row-preserved-in_ok-push
loop-row-preserved-in_ok-push c =
    let n = c.loop-row.invariant.0 in
    let row = next_row c.args.rows c.loop-row.row-iterator c.next.new.self n c.in-Some.row.now c.loop-row.invariant.1 c.in-Some.ensures.steps in
    let more = filter_more (has_pattern c.args.fit) c.args.rows n c.in-Some.row.now row.within in
    (n + 1, row.behind, grind (arith, common_steps, more, row.is, c.loop-row.invariant.2))

pub returns : goal.returns
returns c =
    let past = no_more_rows c.args.rows c.loop-row.row-iterator c.loop-row.invariant.0 c.loop-row.invariant.1 c.in-None.ensures.steps.0 in
    c.loop-row.invariant.2 ∙ ap (filter (has_pattern c.args.fit)) (take_all c.loop-row.invariant.0 c.args.rows past)
