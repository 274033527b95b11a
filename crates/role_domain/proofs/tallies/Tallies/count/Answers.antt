use Rattle.std.proofs.Common.{◌≡◌, ◌+◌, ℕ, Some, if◌then◌else◌, refl, ap, subst, ◌∙◌, arith}
use Rattle.std.specs.Prelude.{IsSome}
use Rattle.std.specs.Str.{bytes_eq}
use Rattle.role_domain.specs.Helps.Tallies.{own_at}
use Rattle.role_domain.specs.declared.tally.Tally.{Tally}
use Rattle.role_domain.proofs.Keyed.{seen_after, seen_by}
use Rattle.role_domain.proofs.TallyLemmas.{own_found, own_more, rows_found, rows_stay, touched_there}
use Rattle.role_domain.proofs.tallies.Tallies.count.Goals as goal

pub unreachable-requires : goal.unreachable-requires
unreachable-requires c =
    touched_there c.args.self.now c.touch.new.self c.args.text.now c.in_ok-touch.ensures.texts
    (seen_by c.args.text.now c.as_bytes.result.now c.self.inside.entries.entries c.touch.new.self _ c.as_bytes.ensures.value c.self.view_is c.in_default.ensures.value)

pub overflow_add-tally : goal.overflow_add-tally
overflow_add-tally c =
    let here : c.in-Some.tally.now.own ≡ own_at c.touch.new.self c.args.text.now = own_found c.touch.new.self c.args.text.now c.in-Some.tally.now (seen_by c.args.text.now c.as_bytes.result.now c.self.inside.entries.entries c.touch.new.self _ c.as_bytes.ensures.value c.self.view_is c.in-Some.ensures.value) in
    omega (arith, here, c.in_ok-touch.ensures.own c.args.text.now)

pub returns-clause-own : goal.returns-clause-own
returns-clause-own c = λ other.
    let after : Tally = record { own = c.in-Some.tally.now.own + 1; rows = c.in-Some.tally.now.rows } in
    let updates = (c.get_mut.follows.holds after).3 (subst IsSome c.in-Some.ensures.value refl) in
    own_more c.touch.new.self (c.get_mut.follows.lender after).entries c.args.text.now after (λ name. seen_after c.args.text.now c.as_bytes.result.now name c.self.inside.entries.entries (c.get_mut.follows.lender after).entries c.touch.new.self (Some after) c.self.view_is c.as_bytes.ensures.value updates.3 updates.1)
    (ap (λ (n : ℕ). n + 1) (own_found c.touch.new.self c.args.text.now c.in-Some.tally.now (seen_by c.args.text.now c.as_bytes.result.now c.self.inside.entries.entries c.touch.new.self _ c.as_bytes.ensures.value c.self.view_is c.in-Some.ensures.value))) other
    ∙ ap (λ (n : ℕ). n + (if bytes_eq other c.args.text.now then 1 else 0)) (c.in_ok-touch.ensures.own other)

pub returns-clause-rows : goal.returns-clause-rows
returns-clause-rows c = λ other.
    let after : Tally = record { own = c.in-Some.tally.now.own + 1; rows = c.in-Some.tally.now.rows } in
    let updates = (c.get_mut.follows.holds after).3 (subst IsSome c.in-Some.ensures.value refl) in
    rows_stay c.touch.new.self (c.get_mut.follows.lender after).entries c.args.text.now after (λ name. seen_after c.args.text.now c.as_bytes.result.now name c.self.inside.entries.entries (c.get_mut.follows.lender after).entries c.touch.new.self (Some after) c.self.view_is c.as_bytes.ensures.value updates.3 updates.1)
    (rows_found c.touch.new.self c.args.text.now c.in-Some.tally.now (seen_by c.args.text.now c.as_bytes.result.now c.self.inside.entries.entries c.touch.new.self _ c.as_bytes.ensures.value c.self.view_is c.in-Some.ensures.value)) other
    ∙ c.in_ok-touch.ensures.rows other
