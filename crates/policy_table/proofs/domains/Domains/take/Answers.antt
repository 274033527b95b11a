use Rattle.std.proofs.Common.{◌≡◌, ℕ, ◌+◌, ◌-◌, ◌∷◌, Option, None, Some, ap, arith, refl, ◌∙◌, subst, sym}
use Rattle.std.specs.Prelude.{IsSome, unwrap_or}
use Rattle.std.specs.Map.{lookup}
use Rattle.std.specs.Option.{option_copied_mut}
use Rattle.std.specs.Str.{bytes_eq}
use Rattle.policy_table.specs.Helps.Domains.{AreCounted, Counted, count_of}
use Rattle.policy_table.proofs.DomainLemmas.{counted_some, taken}
use Rattle.policy_table.proofs.domains.Domains.take.Goals as goal

pub returns-then-count-eq1-clause-counted : goal.returns-then-count-eq1-clause-counted
returns-then-count-eq1-clause-counted c =
    λ texts are. taken texts c.args.domain.now None _ _ (subst (AreCounted (c.args.domain.now ∷ texts)) (sym c.self.view_is) are)
    (ap (λ (d : Counted). count_of d c.args.domain.now) c.self.view_is ∙ sym c.count-count.ensures ∙ c.if-count-eq1.true) c.swap_remove-last.ensures.updates.0
    c.bytes.result.now c.bytes.ensures.value c.without-self-inside.ensures

pub returns-in-Some-clause-counted : goal.returns-in-Some-clause-counted
returns-in-Some-clause-counted c =
    λ texts are.
    let counted = counted_some texts c.args.domain.now c.args.self.now are in
    let left : ℕ = c.count-count.result - 1 in
    let some : IsSome (lookup (bytes_eq c.args.domain.now) c.self.inside.counts.entries) = subst IsSome (sym (ap option_copied_mut c.in-Some.is) ∙ c.get_mut.ensures.value) refl in
    let less : c.count-count.result ≡ left + 1 = omega (arith, counted, c.count-count.ensures) in
    taken texts c.args.domain.now (Some left) _ _ (subst (AreCounted (c.args.domain.now ∷ texts)) (sym c.self.view_is) are)
    (ap (λ (d : Counted). count_of d c.args.domain.now) c.self.view_is ∙ sym c.count-count.ensures ∙ less) ((c.get_mut.follows.holds left).3 some).0
    c.bytes.result.now c.bytes.ensures.value c.without-self-inside.ensures

pub returns-in_default-clause-counted : goal.returns-in_default-clause-counted
returns-in_default-clause-counted c =
    λ texts are.
    let counted = counted_some texts c.args.domain.now c.args.self.now are in
    let none : count_of c.args.self.now c.args.domain.now ≡ 0 =
    ap (λ (d : Counted). count_of d c.args.domain.now) (sym c.self.view_is)
    ∙ ap (λ (o : Option ℕ). unwrap_or o 0) (sym c.get_mut.ensures.value ∙ ap option_copied_mut c.in_default.is) in
    absurd (omega (arith, counted, none))
