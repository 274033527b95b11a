use Rattle.std.proofs.Common.{◌∙◌, ◌++◌, ◌∷◌, [], ap, arith, subst, sym, take}
use Rattle.std.proofs.lemmas.List.{take_all, take_more}
use Rattle.policy_table.specs.Tables.{Fields}
use Rattle.policy_index.specs.Indexed.{IsIndexOf}
use Rattle.policy_index.specs.Keys.{KeyParts}
use Rattle.policy_index.proofs.FinderLemmas.{none_indexed}
use Rattle.policy_index.proofs.filter_index.FilterIndex.make.Goals as goal

pub loop-rule-init : goal.loop-rule-init
loop-rule-init c = record {
  plain = ap (λ (k : KeyParts). k.pattern) (c.empty-index.ensures.key ∙ c.new.ensures);
  rows = none_indexed c.empty-index.result c.empty-index.ensures.marks;
}

pub loop-rule-preserved : goal.loop-rule-preserved
loop-rule-preserved c =
    let longer =
    take_more c.by_slot-rule-items.result.now c.loop-rule.rule-index c.rule-item.result c.loop-rule-test.true ∙ ap (λ (r : Fields). take c.loop-rule.rule-index c.by_slot-rule-items.result.now ++ r ∷ []) (sym c.rule-item.is) in
    record {
      plain = ap (λ (k : KeyParts). k.pattern) c.append.ensures.key ∙ c.loop-rule.invariant.plain;
      rows = subst (IsIndexOf c.append.new.self) (sym longer) (c.append.ensures.rows c.if-not-append.false (take c.loop-rule.rule-index c.by_slot-rule-items.result.now) c.loop-rule.invariant.rows);
    }

pub returns : goal.returns
returns c = record {
  plain = c.loop-rule.invariant.plain;
  index = subst (IsIndexOf c.loop-rule.index) (take_all c.loop-rule.rule-index c.by_slot-rule-items.result.now (omega (arith, c.loop-rule-test.false)) ∙ c.by_slot-rule-items.ensures.value) c.loop-rule.invariant.rows;
}
