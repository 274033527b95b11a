use Rattle.std.proofs.Common.{◌++◌, ℕ, Option, append-nil, ap, sym, ◌∙◌}
use Rattle.policy_query.specs.Helps.Named.{place_list}
use Rattle.policy_query.proofs.named.push_place.Goals as goal

pub returns-in_default : goal.returns-in_default
returns-in_default c = sym (append-nil c.args.places.now.items) ∙ ap (λ (o : Option ℕ). c.args.places.now.items ++ place_list o) (sym c.in_default.is ∙ c.number_of.ensures)

pub returns : goal.returns
returns c =
    let pushed = c.in_ok-push.ensures.items in
    pushed ∙ ap (λ (o : Option ℕ). c.args.places.now.items ++ place_list o) (sym c.in-Some.is ∙ c.number_of.ensures)
