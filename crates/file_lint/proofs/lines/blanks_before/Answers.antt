use Rattle.std.proofs.Common.{arith}
use Rattle.std.proofs.lemmas.List.Sums.{prefix_len-le-length}
use Rattle.text_parts.specs.Blanks.{is_blank}
use Rattle.file_lint.proofs.lines.blanks_before.Goals as goal

pub returns-clause-within : goal.returns-clause-within
returns-clause-within c = omega (arith, c.blank_count.ensures, prefix_len-le-length is_blank c.args.text.now)
