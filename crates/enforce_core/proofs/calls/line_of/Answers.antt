use Rattle.std.proofs.Common.{sym, ◌∙◌}
use Rattle.enforce_core.proofs.calls.line_of.Goals as goal

pub print_line-requires : goal.print_line-requires
print_line-requires c = record { printable = sym c.is_printable.ensures ∙ c.if-not-is_printable.false }

pub returns : goal.returns
returns c = c.in-Ok.ensures.printed
