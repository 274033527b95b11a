use Rattle.std.proofs.Common.{ap, ◌∙◌}
use Rattle.std.specs.Str.{bytes_eq}
use Rattle.matcher_code.proofs.comparison.compared.Goals as goal

pub returns : goal.returns
returns c = record {
  column = c.in_ok-column.column;
  field = c.in_ok-field.field;
  bytes = c.in_ok-text.text.now;
  asks = c.in_ok-column.ensures;
  there = c.in_ok-text.ensures;
  rest = c.in_ok-field.ensures;
  told = c.eq.ensures ∙ ap (bytes_eq c.in_ok-text.text.now) c.field_of.ensures;
}
