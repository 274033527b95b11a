use Rattle.std.proofs.Common.{◌≡◌, ◌∷◌, ◌∙◌, rules}
use Rattle.serve_run.proofs.WordLemmas.{follow_none, follow_some}
use Rattle.serve_run.proofs.words.asks_to_follow.Goals as goal

pub returns-in_default : goal.returns-in_default
returns-in_default c = (follow_none c.args.words.now c.in_default.ensures.cases).0

pub returns : goal.returns
returns c =
    let is : c.args.words.now ≡ c.in-Some._name.now ∷ c.in-Some.others.now = search rules in
    c.begins_follow.ensures ∙ follow_some c.args.words.now c.in-Some.others.now c.in-Some._name.now is
