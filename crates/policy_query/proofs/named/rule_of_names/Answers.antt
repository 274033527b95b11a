use Rattle.std.proofs.Common.{◌≡◌, ◌∷◌, ◌++◌, [], IfOk, List, ℕ, Option, Some, ap, arith, length, subst, sym, ◌∙◌}
use Rattle.std.specs.Option.{option_copied}
use Rattle.std.specs.Prelude.{IfSome}
use Rattle.policy_table.specs.Tables.{Fields}
use Rattle.policy_query.specs.Helps.Named.{rule_of_names}
use Rattle.policy_query.proofs.FoundLemmas.{if_some, made_of}
use Rattle.policy_query.proofs.named.rule_of_names.Goals as goal

-- the pair of names
pair : (user role first : List ℕ) (fields : List (List ℕ)) (made : Option (List ℕ)) → made ≡ Some first → IfSome made (λ text. text ≡ user) → fields ≡ first ∷ role ∷ [] → fields ≡ user ∷ role ∷ []
pair user role first fields made is told are = are ∙ ap (λ (u : List ℕ). u ∷ role ∷ []) (if_some made first is (λ text. text ≡ user) told)

pub rule_from-requires : goal.rule_from-requires
rule_from-requires c = let two = ap (λ (l : List (List ℕ)). length l) c.in_ok-fields.ensures in omega (arith, c.in_ok-fields.fields.ok.0, two)

pub returns-in_default-domain : goal.returns-in_default-domain
returns-in_default-domain c =
    made_of c.rule_from.result c.in_ok-fields.fields.items (rule_of_names c.args.user.now c.args.role.now (option_copied c.args.domain))
    (pair c.args.user.now c.args.role.now c.in-Some.first c.in_ok-fields.fields.items _ c.in-Some.is c.in_ok-first.ensures c.in_ok-fields.ensures ∙ ap (rule_of_names c.args.user.now c.args.role.now) (sym (ap option_copied c.in_default-domain.is))) c.rule_from.ensures

pub rule_in_domain-requires : goal.rule_in_domain-requires
rule_in_domain-requires c = ap (λ (l : List (List ℕ)). length l) c.in_ok-fields.ensures

pub returns : goal.returns
returns c =
    let user = c.args.user.now in
    let role = c.args.role.now in
    let names : c.in_ok-fields.fields.items ++ c.in-Some-domain.bytes.now ∷ [] ≡ rule_of_names user role (option_copied c.args.domain) =
    ap (λ (l : List (List ℕ)). l ++ c.in-Some-domain.bytes.now ∷ []) (pair user role c.in-Some.first c.in_ok-fields.fields.items _ c.in-Some.is c.in_ok-first.ensures c.in_ok-fields.ensures) ∙ ap (rule_of_names user role) (sym (ap option_copied c.in-Some-domain.is)) in
    subst (λ (fields : Fields). IfOk c.rule_in_domain.result (λ made. IfSome made (λ rule. rule ≡ fields))) names c.rule_in_domain.ensures
