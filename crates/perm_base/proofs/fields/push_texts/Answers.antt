use Rattle.std.proofs.Common.{◌≡◌, ◌<◌, length, Some, ap, ◌∙◌, arith}
use Rattle.std.specs.Prelude.{slice_get}
use Rattle.std.specs.String.{string_bytes}
use Rattle.perm_base.proofs.FieldLemmas.{pushed_first, pushed_more, text_at}
use Rattle.perm_base.proofs.fields.push_texts.Goals as goal
use Rattle.perm_base.proofs.fields.push_texts.Goals.{then-at-gt0+in_ok-push_str, else-at-gt0}

pub loop-at-preserved : goal.loop-at-preserved
loop-at-preserved c =
    let old = string_bytes c.args.text.now in
    let within : c.loop-at.at < length c.args.rule.now = omega (arith, ap length c.fields-field-items.ensures.value) in
    let here : slice_get c.args.rule.now c.loop-at.at ≡ Some c.as_str.result.now = text_at c.args.rule.now c.fields-field-items.result.now c.loop-at.at c.field-item.result c.as_str.result.now c.fields-field-items.ensures.value within c.field-item.is c.as_str.ensures in
    elim c.if-at-gt0.branch [
      | then-at-gt0+in_ok-push_str w ↦ pushed_more c.args.rule.now c.loop-at.at old _ _ _ c.as_str.result.now within here w.if-at-gt0.true c.loop-at.invariant (ap string_bytes w.text-is ∙ w.in_ok-push_str.ensures.bytes) c.in_ok-push_str-2.ensures.bytes
      | else-at-gt0 w ↦
          let first : c.loop-at.at ≡ 0 = omega arith in
          pushed_first c.args.rule.now c.loop-at.at old _ _ c.as_str.result.now within here first (ap string_bytes w.text-is ∙ c.loop-at.invariant) c.in_ok-push_str-2.ensures.bytes
    ]
