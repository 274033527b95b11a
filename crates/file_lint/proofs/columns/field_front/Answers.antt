use Rattle.std.proofs.Common.{length, ap, ◌∙◌, ◌+◌, arith}
use Rattle.file_lint.specs.Columns.{field_front}
use Rattle.file_lint.specs.declared.columns.Within.TheVariants.{Front}
use Rattle.file_lint.proofs.ColumnLemmas.{front_past, front_reached, front_step}
use Rattle.file_lint.proofs.columns.field_front.Goals as goal

pub loop-left-init : goal.loop-left-init
loop-left-init c = record {
  front = omega (arith, ap (field_front c.args.before Front) c.as_bytes-rest.ensures.value);
  all = omega (arith, ap (λ text. length text) c.as_bytes-rest.ensures.value);
}

pub loop-left-preserved : goal.loop-left-preserved
loop-left-preserved c = record {
  front = rw (c.fields_left-left.ensures, c.ends_field.ensures, c.behind_byte-within.ensures)
      (front_step c.loop-left.rest.now c.in-Some.behind.now c.in-Some.byte.now c.loop-left.passed c.loop-left.left c.loop-left.within (field_front c.args.before Front c.args.line.now) (omega arith) c.in-Some.ensures.cases.0 c.loop-left.invariant.front);
  all = omega (arith, c.in-Some.ensures.cases.1, c.loop-left.invariant.all);
}

pub returns-in_default-clause-value : goal.returns-in_default-clause-value
returns-in_default-clause-value c = front_past c.loop-left.rest.now c.loop-left.passed c.loop-left.left c.loop-left.within (field_front c.args.before Front c.args.line.now) (omega arith) c.in_default.ensures.cases c.loop-left.invariant.front

pub returns-clause-value : goal.returns-clause-value
returns-clause-value c =
    ap (λ n. c.loop-left.passed + n) c.blanks_before.ensures.value
    ∙ front_reached c.loop-left.rest.now c.loop-left.passed c.loop-left.left c.loop-left.within (field_front c.args.before Front c.args.line.now) (omega arith) c.loop-left.invariant.front
