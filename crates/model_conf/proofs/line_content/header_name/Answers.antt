use Rattle.std.proofs.Common.{Some, None, arith}
use Rattle.std.proofs.lemmas.Str.Pattern.{strip_prefix_char, strip_suffix_char}
use Rattle.model_conf.proofs.SectionLemmas.{header_by}
use Rattle.model_conf.proofs.line_content.header_name.Goals as goal

pub returns-in_err-strip_prefix : goal.returns-in_err-strip_prefix
returns-in_err-strip_prefix c = rw c.from_residual.ensures (λ name e. strip_prefix_char 91 c.args.text.now None c.in_err-strip_prefix.ensures.cases (omega arith) _ e)

pub returns : goal.returns
returns c =
    header_by c.args.text.now c.in_ok-strip_prefix.field-0.now c.strip_suffix.result (strip_prefix_char 91 c.args.text.now (Some c.in_ok-strip_prefix.field-0) c.in_ok-strip_prefix.ensures.cases (omega arith))
    (strip_suffix_char 93 c.in_ok-strip_prefix.field-0.now c.strip_suffix.result c.strip_suffix.ensures.cases (omega arith))
