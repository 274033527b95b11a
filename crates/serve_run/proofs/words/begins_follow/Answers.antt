use Rattle.std.proofs.Common.{◌≡◌, ◌∷◌, ap, ◌∙◌, rules}
use Rattle.std.specs.Prelude.{bytes_eq, codes}
use Rattle.serve_run.proofs.WordLemmas.{begins_some, follow_none}
use Rattle.serve_run.proofs.words.begins_follow.Goals as goal

pub returns-in_default : goal.returns-in_default
returns-in_default c = (follow_none c.args.words.now c.in_default.ensures.cases).1

pub returns : goal.returns
returns c =
    let is : c.args.words.now ≡ c.in-Some.word.now ∷ c.in-Some._others.now = search rules in
    c.is_follow.ensures ∙ ap (λ t. bytes_eq t (codes "--follow")) c.as_str.ensures.value ∙ begins_some c.args.words.now c.in-Some._others.now c.in-Some.word.now is
