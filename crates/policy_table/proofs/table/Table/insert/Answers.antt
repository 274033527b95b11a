use Rattle.std.proofs.Common.{[], ◌∷◌, ◌++◌, ap, sym, subst, refl, ◌∙◌}
use Rattle.policy_table.specs.Changes.{inserted}
use Rattle.policy_table.specs.Helps.Rows.{RiseWhere}
use Rattle.policy_table.specs.Tables.{stands}
use Rattle.policy_table.proofs.EditLemmas.{unless_stands, where_stands}
use Rattle.policy_table.proofs.table.Table.insert.Goals as goal

pub returns-then-has-clause-rules : goal.returns-then-has-clause-rules
returns-then-has-clause-rules c = where_stands (stands c.args.rule c.args.self.now.rules) _ _ _ (sym c.has.ensures ∙ c.if-has.true) refl

pub returns-then-has-clause-slots : goal.returns-then-has-clause-slots
returns-then-has-clause-slots c = where_stands (stands c.args.rule c.args.self.now.rules) _ _ _ (sym c.has.ensures ∙ c.if-has.true) refl

pub push-requires-clause-rising : goal.push-requires-clause-rising
push-requires-clause-rising c = subst (λ l. RiseWhere c.args.ranked l) (sym c.in_ok-reserve.ensures.rules) c.requires

pub push-requires-clause-absent : goal.push-requires-clause-absent
push-requires-clause-absent c = ap (stands c.args.rule) c.in_ok-reserve.ensures.rules ∙ sym c.has.ensures ∙ c.if-has.false

pub returns-clause-rules : goal.returns-clause-rules
returns-clause-rules c =
    unless_stands (stands c.args.rule c.args.self.now.rules) _ _ _ (sym c.has.ensures ∙ c.if-has.false) (c.push.ensures.rules ∙ ap (inserted c.args.ranked c.args.rule) c.in_ok-reserve.ensures.rules)

pub returns-clause-slots : goal.returns-clause-slots
returns-clause-slots c =
    unless_stands (stands c.args.rule c.args.self.now.rules) _ _ _ (sym c.has.ensures ∙ c.if-has.false) (c.push.ensures.slots ∙ ap (λ l. l ++ c.args.rule ∷ []) c.in_ok-reserve.ensures.slots)
