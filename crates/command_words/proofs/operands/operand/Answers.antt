use Rattle.std.proofs.Common.{◌∙◌}
use Rattle.clap.specs.Words.{found_of}
use Rattle.command_words.proofs.ReadLemmas.{no_operand, some_operand}
use Rattle.command_words.proofs.operands.operand.Goals as goal

pub returns-in_err-words : goal.returns-in_err-words
returns-in_err-words c = rw c.from_residual.ensures (no_operand (found_of c.args.matches.now) c.get_strs.result c.get_strs.ensures c.args.at c.in_err-words.was)

pub returns : goal.returns
returns c = c.word_at.ensures ∙ some_operand (found_of c.args.matches.now) c.get_strs.result c.get_strs.ensures c.args.at c.in_ok-words.words c.in_ok-words.was
