use Rattle.std.proofs.Common.{◌≡◌, ◌<◌, length, map, Some, ap, ◌∙◌, arith}
use Rattle.std.specs.Prelude.{slice_get, option_map}
use Rattle.std.specs.String.{string_bytes}
use Rattle.std.proofs.lemmas.List.{length-map}
use Rattle.std.proofs.lemmas.Option.{slice_get-map}
use Rattle.perm_base.specs.FieldLine.{printed_field}
use Rattle.perm_base.proofs.FieldLemmas.{pushed_first, pushed_more, text_at}
use Rattle.perm_base.proofs.quoted_print.push_fields.Goals as goal
use Rattle.perm_base.proofs.quoted_print.push_fields.Goals.{then-at-gt0+in_ok-push_str, else-at-gt0}

pub loop-at-preserved : goal.loop-at-preserved
loop-at-preserved c =
    let fields = map printed_field c.args.rule.now in
    let old = string_bytes c.args.text.now in
    let inside : c.loop-at.at < length c.args.rule.now = omega (arith, ap length c.fields-field-items.ensures.value) in
    let within : c.loop-at.at < length fields = omega (arith, length-map c.args.rule.now printed_field) in
    let field : slice_get c.args.rule.now c.loop-at.at ≡ Some c.as_str.result.now = text_at c.args.rule.now c.fields-field-items.result.now c.loop-at.at c.field-item.result c.as_str.result.now c.fields-field-items.ensures.value inside c.field-item.is c.as_str.ensures in
    let here : slice_get fields c.loop-at.at ≡ Some (printed_field c.as_str.result.now) = slice_get-map printed_field c.args.rule.now c.loop-at.at ∙ ap (option_map printed_field) field in
    elim c.if-at-gt0.branch [
      | then-at-gt0+in_ok-push_str w ↦ pushed_more fields c.loop-at.at old _ _ _ (printed_field c.as_str.result.now) within here w.if-at-gt0.true c.loop-at.invariant (ap string_bytes w.text-is ∙ w.in_ok-push_str.ensures.bytes) c.in_ok-push_field.ensures.printed
      | else-at-gt0 w ↦
          let first : c.loop-at.at ≡ 0 = omega arith in
          pushed_first fields c.loop-at.at old _ _ (printed_field c.as_str.result.now) within here first (ap string_bytes w.text-is ∙ c.loop-at.invariant) c.in_ok-push_field.ensures.printed
    ]
