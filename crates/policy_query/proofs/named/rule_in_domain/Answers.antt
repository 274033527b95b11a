use Rattle.std.proofs.Common.{◌≡◌, ◌∷◌, ◌++◌, [], List, ℕ, ap, arith, length, length-append, ◌∙◌}
use Rattle.policy_query.proofs.FoundLemmas.{if_some, made_of}
use Rattle.policy_query.proofs.named.rule_in_domain.Goals as goal

pub rule_from-requires : goal.rule_from-requires
rule_from-requires c =
    let longer : c.push.new.self.items ≡ c.args.fields.items ++ c.in-Some.last ∷ [] = c.in_ok-push.ensures.items in
    omega (arith, c.push.new.self.ok.0, ap (λ (l : List (List ℕ)). length l) longer, length-append c.args.fields.items (c.in-Some.last ∷ []), c.requires)

pub returns : goal.returns
returns c =
    let longer : c.push.new.self.items ≡ c.args.fields.items ++ c.in-Some.last ∷ [] = c.in_ok-push.ensures.items in
    let last : c.in-Some.last ≡ c.args.domain.now = if_some _ c.in-Some.last c.in-Some.is (λ text. text ≡ c.args.domain.now) c.in_ok-last.ensures in
    made_of c.rule_from.result c.push.new.self.items (c.args.fields.items ++ c.args.domain.now ∷ []) (longer ∙ ap (λ (d : List ℕ). c.args.fields.items ++ d ∷ []) last) c.rule_from.ensures
