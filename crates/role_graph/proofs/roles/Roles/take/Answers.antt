use Rattle.std.proofs.Common.{◌≡◌, ℕ, ◌-◌, inl, List, cond, refl, Option, None, Some, ap, arith, ◌∙◌, subst, sym}
use Rattle.std.specs.Prelude.{IsSome, unwrap_or}
use Rattle.std.specs.Option.{option_copied_mut}
use Rattle.std.specs.Str.{bytes_eq}
use Rattle.role_graph.specs.Helps.Roles.{Counted, count_of, nodes_of, number_in}
use Rattle.role_graph.specs.Keyed.{found}
use Rattle.role_graph.proofs.Keyed.{seen_after, seen_at}
use Rattle.role_graph.proofs.Tallies.{number_found, still_names, still_some, taken_one}
use Rattle.role_graph.proofs.roles.Roles.take.Goals as goal

pub invariant_of-self : goal.invariant_of-self
invariant_of-self c =
    let start : List (List ℕ × ℕ) = c.self.inside.counts.entries in
    let updates : (q : List ℕ) → found c.swap_remove-last.new.self.entries q ≡ cond (bytes_eq q c.args.role.now) None (found start q) =
    λ q. seen_after c.args.role.now c.args.role.now q c.self.inside.counts.entries c.swap_remove-last.new.self.entries start None refl refl c.swap_remove-last.ensures.updates.3 c.swap_remove-last.ensures.updates.1 in (
      still_some c.args.role.now None start c.swap_remove-last.new.self.entries (λ none. cc) updates c.self.invariant.0,
      still_names c.args.role.now None start c.swap_remove-last.new.self.entries (omega arith) updates c.self.invariant.1,
    )

pub invariant_of-self-in-Some : goal.invariant_of-self-in-Some
invariant_of-self-in-Some c =
    let left : ℕ = c.count-count.result - 1 in
    let start : List (List ℕ × ℕ) = c.self.inside.counts.entries in
    let some : IsSome _ = subst IsSome c.in-Some.ensures.value refl in
    let wrote = (c.get_mut.follows.holds left).3 some in
    let count : c.count-count.result ≡ number_in start c.args.role.now = c.count-count.ensures ∙ ap (λ (d : Counted). count_of d c.args.role.now) (sym c.self.view_is) in
    let updates : (q : List ℕ) → found (c.get_mut.follows.lender left).entries q ≡ cond (bytes_eq q c.args.role.now) (Some left) (found start q) =
    λ q. seen_after c.args.role.now c.args.role.now q c.self.inside.counts.entries (c.get_mut.follows.lender left).entries start (Some left) refl refl wrote.3 wrote.1 in (
      still_some c.args.role.now (Some left) start (c.get_mut.follows.lender left).entries
          (λ zero. let none : left ≡ 0 = ap (λ (o : Option ℕ). unwrap_or o 0) zero in absurd (omega (arith, none, c.requires, c.count-count.ensures, c.if-count-eq1.false))) updates c.self.invariant.0,
      still_names c.args.role.now (Some left) start (c.get_mut.follows.lender left).entries (omega (arith, count)) updates c.self.invariant.1,
    )

pub returns-then-count-eq1-clause-counted : goal.returns-then-count-eq1-clause-counted
returns-then-count-eq1-clause-counted c = λ name.
    taken_one c.args.role.now name None c.args.self.now c.swap_remove-last.new.self.entries (sym c.count-count.ensures ∙ c.if-count-eq1.true)
    (λ q. seen_after c.args.role.now c.args.role.now q c.self.inside.counts.entries c.swap_remove-last.new.self.entries c.args.self.now.entries None (ap (λ (d : Counted). d.entries) c.self.view_is) refl c.swap_remove-last.ensures.updates.3 c.swap_remove-last.ensures.updates.1)

pub returns-in-Some-clause-counted : goal.returns-in-Some-clause-counted
returns-in-Some-clause-counted c = λ name.
    let left : ℕ = c.count-count.result - 1 in
    let some : IsSome _ = subst IsSome c.in-Some.ensures.value refl in
    let wrote = (c.get_mut.follows.holds left).3 some in
    taken_one c.args.role.now name (Some left) c.args.self.now (c.get_mut.follows.lender left).entries (omega (arith, c.requires, c.count-count.ensures))
    (λ q. seen_after c.args.role.now c.args.role.now q c.self.inside.counts.entries (c.get_mut.follows.lender left).entries c.args.self.now.entries (Some left) (ap (λ (d : Counted). d.entries) c.self.view_is) refl wrote.3 wrote.1)

pub returns-in-Some-clause-places : goal.returns-in-Some-clause-places
returns-in-Some-clause-places c =
    inl ((c.get_mut.follows.holds (c.count-count.result - 1)).1 ∙ ap (λ (d : Counted). nodes_of d) c.self.view_is)

pub returns-in_default-clause-counted : goal.returns-in_default-clause-counted
returns-in_default-clause-counted c = λ name.
    let none : unwrap_or None 0 ≡ count_of c.args.self.now c.args.role.now =
    number_found c.args.self.now.entries c.args.role.now None
    (seen_at c.args.role.now c.self.inside.counts.entries c.args.self.now.entries None (ap (λ (d : Counted). d.entries) c.self.view_is) (sym (ap option_copied_mut c.in_default.is) ∙ c.get_mut.ensures.value)) in
    absurd (omega (arith, c.requires, none))
