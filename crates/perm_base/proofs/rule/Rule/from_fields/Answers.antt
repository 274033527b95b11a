use Rattle.std.proofs.Common.{arith, sym}
use Rattle.perm_base.specs.LineEnds.{has_line_end}
use Rattle.text_parts.proofs.CallerLemmas.{position-None}
use Rattle.perm_base.proofs.rule.Rule.from_fields.Goals as goal

pub invariant_of-result : goal.invariant_of-result
invariant_of-result c = record {
  few = omega arith;
  whole_lines = position-None has_line_end c.args.fields.items (rw (← c.deref.ensures.value) (sym c.in-None.ensures));
}
