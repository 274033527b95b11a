use Rattle.std.proofs.Common.{ap, sym, ◌∙◌}
use Rattle.matcher_read.specs.Tokens.{is_eval}
use Rattle.matcher_read.specs.Helps.TokenLists.{token_of}
use Rattle.matcher_read.proofs.PieceLemmas.{eval_word}
use Rattle.matcher_read.proofs.forms.is_eval.Goals as goal

pub returns-in-Called : goal.returns-in-Called
returns-in-Called c = c.eq.ensures ∙ sym (eval_word c.in-Called.name.now) ∙ ap (λ token. is_eval (token_of token)) (sym c.in-Called.is)
