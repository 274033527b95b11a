use Rattle.std.proofs.Common.{◌≡◌, ℕ, ◌+◌, ◌<◌, ◌^◌, Option, ap, arith, refl, ◌∙◌, subst, sym}
use Rattle.std.specs.Prelude.{IsSome, unwrap_or}
use Rattle.policy_table.specs.Helps.Domains.{AreCounted, Counted, count_of, pattern_count}
use Rattle.policy_table.proofs.DomainLemmas.{added_again}
use Rattle.policy_table.proofs.domains.Domains.add_again.Goals as goal

pub overflow_add-count : goal.overflow_add-count
overflow_add-count c =
    let there : c.in-Some.count.now ≡ count_of c.args.self.now c.args.domain.now = ap (λ (o : Option ℕ). unwrap_or o 0) c.in-Some.ensures.value ∙ ap (λ (d : Counted). count_of d c.args.domain.now) c.self.view_is in
    omega (arith, there, c.requires.each c.args.domain.now)

pub with_again-self-inside-requires : goal.with_again-self-inside-requires
with_again-self-inside-requires c = λ fit. subst (λ (d : Counted). pattern_count d.patterns fit + 1 < 2 ^ 64) (sym c.self.view_is) (c.requires.patterns fit)

pub returns-in-Some-clause-counted : goal.returns-in-Some-clause-counted
returns-in-Some-clause-counted c =
    λ yes texts are.
    let more : ℕ = c.in-Some.count.now + 1 in
    added_again texts c.args.domain.now c.in-Some.count.now _ _ (subst (AreCounted texts) (sym c.self.view_is) are) (sym c.in-Some.ensures.value) c.self.invariant
    ((c.get_mut.follows.holds more).3 (subst IsSome c.in-Some.ensures.value refl)).0
    c.bytes.result.now c.bytes.ensures.value c.with_again-self-inside.ensures
