use Rattle.std.proofs.Common.{◌≡◌, ◌∷◌, ap, ◌∙◌, rules}
use Rattle.std.specs.Prelude.{bytes_eq, codes}
use Rattle.lint_run.proofs.LintLemmas.{named_none, named_so}
use Rattle.lint_run.proofs.job.asks_for_lint.Goals as goal

pub returns-in_default : goal.returns-in_default
returns-in_default c = named_none c.args.words.now c.in_default.ensures.cases

pub returns : goal.returns
returns c =
    let is : c.args.words.now ≡ c.in-Some.name.now ∷ c.in-Some._others.now = search rules in
    c.is_lint.ensures ∙ ap (λ t. bytes_eq t (codes "lint")) c.as_str.ensures.value ∙ named_so c.args.words.now c.in-Some._others.now c.in-Some.name.now is
