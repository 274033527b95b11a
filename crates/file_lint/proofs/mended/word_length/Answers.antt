use Rattle.std.proofs.Common.{arith}
use Rattle.std.proofs.lemmas.List.Sums.{prefix_len-le-length}
use Rattle.text_parts.specs.Names.{is_word}
use Rattle.file_lint.proofs.mended.word_length.Goals as goal

pub returns-clause-within : goal.returns-clause-within
returns-clause-within c = omega (arith, c.word_count.ensures, prefix_len-le-length is_word c.args.text.now)
