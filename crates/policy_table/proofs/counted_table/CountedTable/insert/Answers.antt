use Rattle.std.proofs.Common.{arith, ap, refl, ◌∙◌, subst, sym, true, List}
use Rattle.policy_table.specs.Changes.{inserted}
use Rattle.policy_table.specs.Helps.Rows.{RiseWhere, Rows}
use Rattle.policy_table.specs.Limits.{domains_of}
use Rattle.policy_table.specs.Tables.{Fields}
use Rattle.policy_table.proofs.CountedLemmas.{can_count, counted_pushed}
use Rattle.policy_table.proofs.counted_table.CountedTable.insert.Goals as goal

pub insert-requires : goal.insert-requires
insert-requires c = subst (λ (r : Rows). RiseWhere c.args.ranked r.rules) (sym c.self.view_is) c.requires

pub add-requires : goal.add-requires
add-requires c = can_count c.self.inside.table.rules _ (c.self.invariant c.if-not-self.false) (omega (arith, c.len-few.ensures.value, c.len-few.ensures.few))

pub push-requires-clause-rising : goal.push-requires-clause-rising
push-requires-clause-rising c =
    subst (λ (rules : List Fields). RiseWhere c.args.ranked rules) (sym c.reserve.ensures.rules)
    (subst (λ (r : Rows). RiseWhere c.args.ranked r.rules) (sym c.self.view_is) c.requires)

pub invariant_of-self-2 : goal.invariant_of-self-2
invariant_of-self-2 c =
    let rules = c.self.inside.table.rules in
    λ counted. counted_pushed c.args.ranked true c.args.rule c.domain_or.result.now rules _ _ refl c.domain_or.ensures (c.push.ensures.rules ∙ ap (inserted c.args.ranked c.args.rule) c.reserve.ensures.rules)
    (c.in_ok-add.ensures.counted (domains_of rules) (c.self.invariant counted))
