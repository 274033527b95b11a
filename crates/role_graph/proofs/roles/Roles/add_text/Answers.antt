use Rattle.std.proofs.Common.{◌≡◌, ◌+◌, ◌∙◌, List, ℕ, Option, None, Some, cond, refl, ap, subst, sym, arith}
use Rattle.std.specs.Prelude.{IsSome, unwrap_or}
use Rattle.std.specs.Str.{bytes_eq}
use Rattle.perm_base.specs.LineEnds.{has_line_end}
use Rattle.role_graph.specs.Helps.Roles.{Counted, count_of}
use Rattle.role_graph.specs.Keyed.{found}
use Rattle.role_graph.proofs.Keyed.{seen_after, seen_at}
use Rattle.role_graph.proofs.Tallies.{added_one, more_names, number_found, still_some}
use Rattle.role_graph.proofs.roles.Roles.add_text.Goals as goal

pub overflow_add-count : goal.overflow_add-count
overflow_add-count c =
    let there : c.in-Some.count.now ≡ count_of c.args.self.now c.as_bytes.result.now = number_found c.args.self.now.entries c.as_bytes.result.now (Some c.in-Some.count.now) (seen_at c.as_bytes.result.now c.self.inside.counts.entries c.args.self.now.entries _ (ap (λ (d : Counted). d.entries) c.self.view_is) c.in-Some.ensures.value) in
    omega (arith, there, c.requires.few, ap (count_of c.args.self.now) c.as_bytes.ensures.value)

pub invariant_of-self : goal.invariant_of-self
invariant_of-self c =
    let more : ℕ = c.in-Some.count.now + 1 in
    let start : List (List ℕ × ℕ) = c.self.inside.counts.entries in
    let wrote = (c.get_mut.follows.holds more).3 (subst IsSome c.in-Some.ensures.value refl) in
    let updates : (q : List ℕ) → found (c.get_mut.follows.lender more).entries q ≡ cond (bytes_eq q c.as_bytes.result.now) (Some more) (found start q) =
    λ q. seen_after c.as_bytes.result.now c.as_bytes.result.now q c.self.inside.counts.entries (c.get_mut.follows.lender more).entries start (Some more) refl refl wrote.3 wrote.1 in (
      still_some c.as_bytes.result.now (Some more) start (c.get_mut.follows.lender more).entries (λ zero. let none : more ≡ 0 = ap (λ (o : Option ℕ). unwrap_or o 0) zero in absurd (omega (arith, none))) updates c.self.invariant.0,
      more_names c.as_bytes.result.now more start (c.get_mut.follows.lender more).entries (ap has_line_end c.as_bytes.ensures.value ∙ c.requires.whole_line) updates c.self.invariant.1,
    )

pub returns-in-Some : goal.returns-in-Some
returns-in-Some c = λ name.
    let more : ℕ = c.in-Some.count.now + 1 in
    let wrote = (c.get_mut.follows.holds more).3 (subst IsSome c.in-Some.ensures.value refl) in
    let there : c.in-Some.count.now ≡ count_of c.args.self.now c.as_bytes.result.now = number_found c.args.self.now.entries c.as_bytes.result.now (Some c.in-Some.count.now) (seen_at c.as_bytes.result.now c.self.inside.counts.entries c.args.self.now.entries _ (ap (λ (d : Counted). d.entries) c.self.view_is) c.in-Some.ensures.value) in
    added_one c.as_bytes.result.now name more c.args.self.now (c.get_mut.follows.lender more).entries (ap (λ (n : ℕ). n + 1) there)
    (λ q. seen_after c.as_bytes.result.now c.as_bytes.result.now q c.self.inside.counts.entries (c.get_mut.follows.lender more).entries c.args.self.now.entries (Some more) (ap (λ (d : Counted). d.entries) c.self.view_is) refl wrote.3 wrote.1)
    ∙ ap (λ (role : List ℕ). count_of c.args.self.now name + cond (bytes_eq name role) 1 0) c.as_bytes.ensures.value

pub invariant_of-self-2 : goal.invariant_of-self-2
invariant_of-self-2 c =
    let start : List (List ℕ × ℕ) = c.self.inside.counts.entries in
    let key : List ℕ = c.in_ok-from_str.field-0 in
    let updates : (q : List ℕ) → found c.insert.new.self.entries q ≡ cond (bytes_eq q key) (Some 1) (found start q) =
    λ q. seen_after key key q c.get_mut.follows.lender-at-none.entries c.insert.new.self.entries start (Some 1) (ap (λ m. m.entries) c.get_mut.follows.holds-at-none) refl c.in_ok-_none.ensures.updates.3 c.in_ok-_none.ensures.updates.1 in (
      still_some key (Some 1) start c.insert.new.self.entries (λ zero. let none : 1 ≡ 0 = ap (λ (o : Option ℕ). unwrap_or o 0) zero in absurd (omega (arith, none))) updates c.self.invariant.0,
      more_names key 1 start c.insert.new.self.entries
          (ap has_line_end c.in_ok-from_str.ensures ∙ c.requires.whole_line) updates c.self.invariant.1,
    )

pub returns : goal.returns
returns c = λ name.
    let none : 0 ≡ count_of c.args.self.now c.as_bytes.result.now = number_found c.args.self.now.entries c.as_bytes.result.now None (seen_at c.as_bytes.result.now c.self.inside.counts.entries c.args.self.now.entries _ (ap (λ (d : Counted). d.entries) c.self.view_is) c.in_default.ensures.value) in
    added_one c.as_bytes.result.now name 1 c.args.self.now c.insert.new.self.entries (ap (λ (n : ℕ). n + 1) none)
    (λ q. seen_after c.as_bytes.result.now c.in_ok-from_str.field-0 q c.get_mut.follows.lender-at-none.entries c.insert.new.self.entries c.args.self.now.entries (Some 1) (ap (λ m. m.entries) c.get_mut.follows.holds-at-none ∙ ap (λ (d : Counted). d.entries) c.self.view_is) (c.in_ok-from_str.ensures ∙ sym c.as_bytes.ensures.value) c.in_ok-_none.ensures.updates.3 c.in_ok-_none.ensures.updates.1)
    ∙ ap (λ (role : List ℕ). count_of c.args.self.now name + cond (bytes_eq name role) 1 0) c.as_bytes.ensures.value
