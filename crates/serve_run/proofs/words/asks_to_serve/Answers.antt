use Rattle.std.proofs.Common.{◌≡◌, ◌∷◌, ap, ◌∙◌, rules}
use Rattle.std.specs.Prelude.{bytes_eq, codes}
use Rattle.serve_run.proofs.WordLemmas.{serve_none, serve_some}
use Rattle.serve_run.proofs.words.asks_to_serve.Goals as goal

pub returns-in_default : goal.returns-in_default
returns-in_default c = serve_none c.args.words.now c.in_default.ensures.cases

pub returns : goal.returns
returns c =
    let is : c.args.words.now ≡ c.in-Some.name.now ∷ c.in-Some._others.now = search rules in
    c.is_serve.ensures ∙ ap (λ t. bytes_eq t (codes "serve")) c.as_str.ensures.value ∙ serve_some c.args.words.now c.in-Some._others.now c.in-Some.name.now is
