use Rattle.std.proofs.Common.{◌≡◌, ◌+◌, ◌++◌, ◌∙◌, List, ℕ, Option, Some, cond, refl, ap, subst, arith}
use Rattle.std.specs.Prelude.{unwrap_or}
use Rattle.std.specs.Str.{bytes_eq}
use Rattle.std.specs.Map.{keys_of}
use Rattle.role_graph.specs.Keyed.{found}
use Rattle.role_graph.specs.Helps.Roles.{Counted, count_of, nodes_of}
use Rattle.role_graph.proofs.Keyed.{seen_after}
use Rattle.role_graph.proofs.Tallies.{added_one, more_names, more_places, still_some}
use Rattle.role_graph.proofs.roles.Roles.add.Goals as goal

pub returns-clause-counted : goal.returns-clause-counted
returns-clause-counted c = λ name.
    added_one c.args.role name (c.count-count.result + 1) c.args.self.now c.insert.new.self.entries
    (ap (λ n. n + 1) (c.count-count.ensures ∙ ap (λ (r : List ℕ). count_of c.args.self.now r) c.bytes.ensures))
    (λ q. seen_after c.args.role c.args.role q c.self.inside.counts.entries c.insert.new.self.entries c.args.self.now.entries (Some (c.count-count.result + 1)) (ap (λ (d : Counted). d.entries) c.self.view_is) refl
    c.in-Ok.ensures.updates.3 c.in-Ok.ensures.updates.1)

pub returns-clause-places : goal.returns-clause-places
returns-clause-places c =
    subst (λ (d : Counted). (more : List (List ℕ)) × (keys_of c.insert.new.self.entries ≡ nodes_of d ++ more)) c.self.view_is
    (more_places c.self.inside.counts c.args.role (c.count-count.result + 1) c.insert.new.self.entries c.in-Ok.ensures.entries)

pub invariant_of-self : goal.invariant_of-self
invariant_of-self c =
    let count : ℕ = c.count-count.result + 1 in
    let start : List (List ℕ × ℕ) = c.self.inside.counts.entries in
    let updates : (q : List ℕ) → found c.insert.new.self.entries q ≡ cond (bytes_eq q c.args.role) (Some count) (found start q) =
    λ q. seen_after c.args.role c.args.role q c.self.inside.counts.entries c.insert.new.self.entries start (Some count) refl refl c.in-Ok.ensures.updates.3 c.in-Ok.ensures.updates.1 in (
      still_some c.args.role (Some count) start c.insert.new.self.entries (λ zero. let none : count ≡ 0 = ap (λ (o : Option ℕ). unwrap_or o 0) zero in absurd (omega (arith, none))) updates c.self.invariant.0,
      more_names c.args.role count start c.insert.new.self.entries c.requires.whole_line updates c.self.invariant.1,
    )
