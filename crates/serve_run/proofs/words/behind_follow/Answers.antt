use Rattle.std.proofs.Common.{◌≡◌, ◌∷◌, true, false, sym, ap, ◌∙◌, rules}
use Rattle.std.specs.Prelude.{bytes_eq, codes}
use Rattle.command_words.specs.Items.{texts}
use Rattle.serve_run.proofs.WordLemmas.{behind_some, follow_none}
use Rattle.serve_run.proofs.words.behind_follow.Goals as goal

pub returns-in_default : goal.returns-in_default
returns-in_default c = (follow_none c.args.words.now c.in_default.ensures.cases).2

pub returns-then-is_follow : goal.returns-then-is_follow
returns-then-is_follow c =
    let is : c.args.words.now ≡ c.in-Some.word.now ∷ c.in-Some.others.now = search rules in
    behind_some c.args.words.now c.in-Some.others.now c.in-Some.word.now true is (ap (λ t. bytes_eq t (codes "--follow")) (sym c.as_str.ensures.value) ∙ sym c.is_follow.ensures ∙ c.if-is_follow.true)

pub returns : goal.returns
returns c =
    let is : c.args.words.now ≡ c.in-Some.word.now ∷ c.in-Some.others.now = search rules in
    ap texts is ∙ behind_some c.args.words.now c.in-Some.others.now c.in-Some.word.now false is (ap (λ t. bytes_eq t (codes "--follow")) (sym c.as_str.ensures.value) ∙ sym c.is_follow.ensures ∙ c.if-is_follow.false)
