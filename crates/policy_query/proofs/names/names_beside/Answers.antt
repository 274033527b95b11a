use Rattle.std.proofs.Common.{◌≡◌, ℕ, ◌+◌, ◌∙◌, IfOk, List, ap, arith, length, rules, subst, sym}
use Rattle.std.specs.List.{list_any}
use Rattle.std.specs.Option.{option_copied}
use Rattle.std.proofs.lemmas.List.{take_all}
use Rattle.perm_base.specs.LineEnds.{has_line_end}
use Rattle.policy_table.proofs.CallerLemmas.{different_none, next_row, no_more_rows}
use Rattle.policy_query.specs.Names.{names_beside}
use Rattle.policy_query.proofs.NameLemmas.{Keys, few_names, names_next, names_same, shown, whole_next}
use Rattle.policy_query.proofs.names.names_beside.Goals as goal

pub loop-rule-init : goal.loop-rule-init
loop-rule-init c = (0, search rules, ap shown c.new-names.ensures.empty ∙ sym different_none, ap (λ (keys : Keys). list_any has_line_end (shown keys)) c.new-names.ensures.empty)

pub loop-rule-preserved : goal.loop-rule-preserved
loop-rule-preserved c =
    let a = c.args in
    let at = c.loop-rule.invariant.0 in
    let rule = c.in-Some.rule.now in
    let row = next_row a.rules c.loop-rule.rule-iterator c.next.new.self at rule c.loop-rule.invariant.1 c.in-Some.ensures.steps in (
      at + 1,
      row.behind,
      names_same a.asked a.told a.name.now (option_copied a.domain) a.rules at rule row.here c.loop-rule.names.keys (sym c.is_asked.ensures ∙ c.if-is_asked.false) c.loop-rule.invariant.2,
      c.loop-rule.invariant.3,
    )

pub loop-rule-preserved-then-is_asked : goal.loop-rule-preserved-then-is_asked
loop-rule-preserved-then-is_asked c =
    let a = c.args in
    let at = c.loop-rule.invariant.0 in
    let rule = c.in-Some.rule.now in
    let row = next_row a.rules c.loop-rule.rule-iterator c.next.new.self at rule c.loop-rule.invariant.1 c.in-Some.ensures.steps in (
      at + 1,
      row.behind,
      names_next a.asked a.told a.name.now (option_copied a.domain) a.rules at rule row.here c.loop-rule.names.keys c.insert.new.self.keys c.text.result (search rules) c.text.ensures.value c.loop-rule.invariant.2 (search rules),
      whole_next c.loop-rule.names.keys c.insert.new.self.keys c.text.result c.loop-rule.invariant.3 c.text.ensures.whole_line (search rules),
    )

pub rule_of-requires-clause-few : goal.rule_of-requires-clause-few
rule_of-requires-clause-few c =
    let a = c.args in
    let at = c.loop-rule.invariant.0 in
    let past = no_more_rows a.rules c.loop-rule.rule-iterator at c.loop-rule.invariant.1 c.in-None.ensures.steps.0 in
    let all = c.loop-rule.invariant.2 ∙ ap (names_beside a.asked a.told a.name.now (option_copied a.domain)) (take_all at a.rules past) in
    omega (arith, few_names a.asked a.told a.name.now (option_copied a.domain) a.rules c.loop-rule.names.keys all c.requires.few, ap length c.as_slice.ensures.keys)

pub returns : goal.returns
returns c =
    let a = c.args in
    let at = c.loop-rule.invariant.0 in
    let past = no_more_rows a.rules c.loop-rule.rule-iterator at c.loop-rule.invariant.1 c.in-None.ensures.steps.0 in
    let all = c.loop-rule.invariant.2 ∙ ap (names_beside a.asked a.told a.name.now (option_copied a.domain)) (take_all at a.rules past) in
    subst (λ (l : List (List ℕ)). IfOk c.rule_of.result (λ (names : List (List ℕ)). names ≡ l)) (ap shown c.as_slice.ensures.keys ∙ all) c.rule_of.ensures
