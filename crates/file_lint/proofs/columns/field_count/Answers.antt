use Rattle.std.proofs.Common.{◌+◌, length, ap, arith}
use Rattle.file_lint.specs.Columns.{field_count}
use Rattle.file_lint.specs.declared.columns.Within.TheVariants.{Front}
use Rattle.file_lint.proofs.ColumnLemmas.{count_end, count_step}
use Rattle.file_lint.proofs.columns.field_count.Goals as goal

pub loop-byte-init : goal.loop-byte-init
loop-byte-init c = record {
  counted = ap (λ text. 1 + field_count Front text) c.as_bytes-rest.ensures.value;
  few = omega (arith, ap (λ text. length text) c.as_bytes-rest.ensures.value);
}

pub loop-byte-preserved : goal.loop-byte-preserved
loop-byte-preserved c = record {
  counted = rw (c.ended-count.ensures.value, c.ends_field.ensures, c.behind_byte-within.ensures)
      (count_step c.loop-byte.rest.now c.in-Some.behind.now c.in-Some.byte.now c.loop-byte.count c.loop-byte.within (1 + field_count Front c.args.line.now) c.in-Some.ensures.cases.0 c.loop-byte.invariant.counted);
  few = omega (arith, c.ended-count.ensures.few, c.in-Some.ensures.cases.1, c.loop-byte.invariant.few);
}

pub returns : goal.returns
returns c = count_end c.loop-byte.rest.now c.loop-byte.count c.loop-byte.within (field_count Front c.args.line.now) c.in_default.ensures.cases c.loop-byte.invariant.counted
