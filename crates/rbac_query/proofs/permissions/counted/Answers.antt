use Rattle.std.proofs.Common.{◌+◌, ap, arith, ◌∙◌, filter, length, rules}
use Rattle.std.specs.Option.{option_copied}
use Rattle.std.proofs.lemmas.Grind.{common_steps}
use Rattle.std.proofs.lemmas.List.{take_all}
use Rattle.std.proofs.lemmas.List.Elements.{filter_more}
use Rattle.policy_table.proofs.CallerLemmas.{fewer, next_row, no_more_rows}
use Rattle.rbac_query.specs.Helps.Tests.{is_counted}
use Rattle.rbac_query.proofs.permissions.counted.Goals as goal

pub loop-rule-init : goal.loop-rule-init
loop-rule-init c = (0, search rules, search rules)

pub loop-rule-preserved : goal.loop-rule-preserved
loop-rule-preserved c =
    let test = is_counted c.args.name.now c.args.roles.now.keys c.args.subject c.args.column (option_copied c.args.domain) in
    let n = c.loop-rule.invariant.0 in
    let row = next_row c.args.rules c.loop-rule.rule-iterator c.next.new.self n c.in-Some.rule.now c.loop-rule.invariant.1 c.in-Some.ensures.steps in
    let more = filter_more test c.args.rules n c.in-Some.rule.now row.within in
    (n + 1, row.behind, grind (arith, common_steps, more, row.is, c.loop-rule.invariant.2))

pub loop-rule-preserved-then-is_of : goal.loop-rule-preserved-then-is_of
loop-rule-preserved-then-is_of c =
    let test = is_counted c.args.name.now c.args.roles.now.keys c.args.subject c.args.column (option_copied c.args.domain) in
    let n = c.loop-rule.invariant.0 in
    let row = next_row c.args.rules c.loop-rule.rule-iterator c.next.new.self n c.in-Some.rule.now c.loop-rule.invariant.1 c.in-Some.ensures.steps in
    let more = filter_more test c.args.rules n c.in-Some.rule.now row.within in
    (n + 1, row.behind, grind (arith, common_steps, more, row.is, c.loop-rule.invariant.2))

pub from_vec-requires : goal.from_vec-requires
from_vec-requires c =
    let test = is_counted c.args.name.now c.args.roles.now.keys c.args.subject c.args.column (option_copied c.args.domain) in
    let n = c.loop-rule.invariant.0 in
    let past = no_more_rows c.args.rules c.loop-rule.rule-iterator n c.loop-rule.invariant.1 c.in-None.ensures.steps.0 in
    let all = c.loop-rule.invariant.2 ∙ ap (filter test) (take_all n c.args.rules past) in
    omega (arith, c.loop-rule.counted.ok.0, ap length all, fewer test c.args.rules, c.requires.few)

pub returns : goal.returns
returns c =
    let n = c.loop-rule.invariant.0 in
    let past = no_more_rows c.args.rules c.loop-rule.rule-iterator n c.loop-rule.invariant.1 c.in-None.ensures.steps.0 in
    c.from_vec.ensures ∙ c.loop-rule.invariant.2
    ∙ ap (filter (is_counted c.args.name.now c.args.roles.now.keys c.args.subject c.args.column (option_copied c.args.domain))) (take_all n c.args.rules past)
