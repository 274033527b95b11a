use Rattle.std.proofs.Common.{arith}
use Rattle.std.proofs.lemmas.Str.Pattern.{strip_suffix_char}
use Rattle.model_conf.proofs.OpenLemmas.{open_by}
use Rattle.model_conf.proofs.joined_lines.open_front.Goals as goal

pub returns : goal.returns
returns c = open_by c.args.text.now c.before_blanks.result.now c.strip_suffix.result c.before_blanks.ensures (strip_suffix_char 92 c.before_blanks.result.now c.strip_suffix.result c.strip_suffix.ensures.cases (omega arith))
