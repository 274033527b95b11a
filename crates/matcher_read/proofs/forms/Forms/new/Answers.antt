use Rattle.std.proofs.Common.{ℕ, Option, ap, ◌∙◌, subst, sym}
use Rattle.matcher_read.specs.Helps.Cuts.{Cut, cut}
use Rattle.matcher_read.specs.Tokens.{IsCut, as_read, with_evals}
use Rattle.matcher_read.proofs.CuttingLemmas.{cut-is, cut-one}
use Rattle.matcher_read.proofs.FormLemmas.{evals_are}
use Rattle.matcher_read.proofs.forms.Forms.new.Goals as goal

pub returns-clause-found : goal.returns-clause-found
returns-clause-found c =
    let tokens = (cut 1 c.args.text.now).tokens in
    let stray = c.forms_of.ensures.stray ∙ c.tokens_from.ensures.stray in
    (tokens, subst (λ (o : Option ℕ). IsCut 1 c.args.text.now tokens o) (sym stray) (cut-is 1 c.args.text.now), c.forms_of.ensures.tokens ∙ evals_are c.tokens_from.result.tokens ∙ ap with_evals c.tokens_from.ensures.tokens)

pub returns-clause-only : goal.returns-clause-only
returns-clause-only c = λ tokens stray is.
    let same = cut-one is in (
      c.forms_of.ensures.tokens ∙ evals_are c.tokens_from.result.tokens ∙ ap with_evals c.tokens_from.ensures.tokens ∙ ap (λ (parts : Cut). as_read parts.tokens) same,
      c.forms_of.ensures.stray ∙ c.tokens_from.ensures.stray ∙ ap (λ (parts : Cut). parts.stray) same,
    )
