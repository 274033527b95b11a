use Rattle.std.proofs.Common.{sym, ◌∙◌}
use Rattle.model_conf.specs.Statements.{as_header, as_pair, as_nothing}
use Rattle.model_conf.proofs.line_content.read_said.Goals as goal

pub returns-in-Some : goal.returns-in-Some
returns-in-Some c = record {
  left = c.without_comment.result.now;
  uncommented = c.without_comment.ensures;
  says = as_header c.in-Some.name.now (sym c.trimmed-text.ensures ∙ c.in-Some.ensures);
}

pub returns-in-Some-cut_at : goal.returns-in-Some-cut_at
returns-in-Some-cut_at c = rw (c.trimmed.ensures, c.trimmed-in-Some-cut_at.ensures) (record {
  left = c.without_comment.result.now;
  uncommented = c.without_comment.ensures;
  says = as_pair c.in-Some-cut_at.key.now c.in-Some-cut_at.value.now (λ name e. c.in_default.ensures name (c.trimmed-text.ensures ∙ e)) c.in-Some-cut_at.ensures.first (sym c.trimmed-text.ensures ∙ c.in-Some-cut_at.ensures.parts);
})

pub returns-in-None : goal.returns-in-None
returns-in-None c = record {
  left = c.without_comment.result.now;
  uncommented = c.without_comment.ensures;
  says = as_nothing (λ name e. c.in_default.ensures name (c.trimmed-text.ensures ∙ e)) (rw (← c.trimmed-text.ensures) c.in-None.ensures.none);
}
