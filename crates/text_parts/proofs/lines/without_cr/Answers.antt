use Rattle.std.proofs.Common.{Some, None, sym, ap, ◌∙◌, arith}
use Rattle.std.proofs.lemmas.Str.Pattern.{strip_suffix_char}
use Rattle.text_parts.specs.Lines.{without_cr}
use Rattle.text_parts.proofs.CallerLemmas.{without_cr-cr, without_cr-other}
use Rattle.text_parts.proofs.lines.without_cr.Goals as goal

pub returns-in-Some : goal.returns-in-Some
returns-in-Some c = sym (ap without_cr (strip_suffix_char 13 c.args.line.now (Some c.in-Some.line) c.in-Some.ensures.cases (omega arith)) ∙ without_cr-cr c.in-Some.line.now)

pub returns-in-None : goal.returns-in-None
returns-in-None c = sym (without_cr-other c.args.line.now (strip_suffix_char 13 c.args.line.now None c.in-None.ensures.cases (omega arith)))
