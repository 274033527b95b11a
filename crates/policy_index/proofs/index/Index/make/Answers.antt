use Rattle.std.proofs.Common.{◌≡◌, ◌∙◌, ◌++◌, ◌∷◌, [], List, ap, arith, length, sym, subst, take, true}
use Rattle.std.proofs.lemmas.List.{length-map, length-take-le, take_all, take_more}
use Rattle.perm_base.specs.declared.shapes.TableId.TheVariants.{P}
use Rattle.policy_table.specs.Slots.{slots}
use Rattle.policy_table.specs.Tables.{Fields, rows, stands}
use Rattle.policy_index.specs.Hashes.{mark_of, marks_of}
use Rattle.policy_index.specs.Indexed.{Indexed}
use Rattle.policy_index.specs.Keys.{HaveColumns, KeyParts, is_below}
use Rattle.policy_index.specs.declared.mark.Mark.{Mark}
use Rattle.policy_index.proofs.CommitLemmas.{columns_by_slot, marks_push}
use Rattle.policy_index.proofs.index.Index.make.Goals as goal

pub loop-rule-init : goal.loop-rule-init
loop-rule-init c = record { key = c.empty-index.ensures.key; marks = c.empty-index.ensures.marks }

-- the slots of the tables have the columns, since all rows have
pub mark_of-mark-requires : goal.mark_of-mark-requires
mark_of-mark-requires c =
    let by_slot : List Fields = c.by_slot-rule-items.result.now in
    let have : HaveColumns c.args.key by_slot =
    columns_by_slot c.args.key by_slot (rows c.args.tables.now.policy P) (λ rule. ap (λ (l : List Fields). stands rule l) c.by_slot-rule-items.ensures.value ∙ c.by_slot-rule-items.ensures.stand.all rule) c.requires in
    subst (λ (k : KeyParts). is_below (length c.rule-item.result) k ≡ true) (sym (ap (λ (i : Indexed). i.key) c.index.view_is ∙ c.loop-rule.invariant.key))
    (subst (λ (r : Fields). is_below (length r) c.args.key ≡ true) (sym c.rule-item.is) (have c.loop-rule.rule-index _ c.loop-rule-test.true))

pub add-requires : goal.add-requires
add-requires c =
    omega (
      arith,
      ap length c.loop-rule.invariant.marks,
      length-map (take c.loop-rule.rule-index c.by_slot-rule-items.result.now) (mark_of c.args.key),
      length-take-le c.loop-rule.rule-index c.by_slot-rule-items.result.now (omega (arith, c.loop-rule-test.true)),
      ap length c.by_slot-rule-items.ensures.value,
      c.by_slot-rule-items.ensures.few,
      c.loop-rule-test.true,
    )

pub loop-rule-preserved : goal.loop-rule-preserved
loop-rule-preserved c =
    let key : c.index.inside.key ≡ c.args.key = ap (λ (i : Indexed). i.key) c.index.view_is ∙ c.loop-rule.invariant.key in
    record {
      key = c.add.ensures.key ∙ c.loop-rule.invariant.key;
      marks =
          c.in_ok-add.ensures.marks
          ∙ ap (λ (l : List Mark). l ++ c.mark_of-mark.result ∷ []) c.loop-rule.invariant.marks
          ∙ ap (λ (m : Mark). marks_of c.args.key (take c.loop-rule.rule-index c.by_slot-rule-items.result.now) ++ m ∷ []) (c.mark_of-mark.ensures ∙ ap (λ (k : KeyParts). mark_of k c.rule-item.result) key)
          ∙ sym (marks_push c.args.key (take c.loop-rule.rule-index c.by_slot-rule-items.result.now) c.rule-item.result)
          ∙ ap (marks_of c.args.key) (sym (take_more c.by_slot-rule-items.result.now c.loop-rule.rule-index c.rule-item.result c.loop-rule-test.true ∙ ap (λ (r : Fields). take c.loop-rule.rule-index c.by_slot-rule-items.result.now ++ r ∷ []) (sym c.rule-item.is)));
    }

pub returns-clause-rows : goal.returns-clause-rows
returns-clause-rows c = record {
  few = c.by_slot-rule-items.ensures.few;
  columns =
      subst (λ (k : KeyParts). HaveColumns k (slots c.args.tables.now P)) (sym c.loop-rule.invariant.key)
      (columns_by_slot c.args.key (slots c.args.tables.now P) (rows c.args.tables.now.policy P) c.by_slot-rule-items.ensures.stand.all c.requires);
  marks =
      c.loop-rule.invariant.marks
      ∙ ap (marks_of c.args.key) (take_all c.loop-rule.rule-index c.by_slot-rule-items.result.now (omega (arith, c.loop-rule-test.false)) ∙ c.by_slot-rule-items.ensures.value)
      ∙ ap (λ (k : KeyParts). marks_of k (slots c.args.tables.now P)) (sym c.loop-rule.invariant.key);
}
