use Rattle.std.proofs.Common.{[], ◌∷◌, ◌++◌, List, Some, if◌then◌else◌, refl, ap, subst, ◌∙◌}
use Rattle.std.specs.Prelude.{IsSome}
use Rattle.std.specs.Str.{bytes_eq}
use Rattle.policy_table.specs.Tables.{Fields}
use Rattle.role_domain.specs.Relations.{pair_of}
use Rattle.role_domain.specs.declared.tally.Tally.{Tally}
use Rattle.role_domain.proofs.Keyed.{seen_after, seen_by}
use Rattle.role_domain.proofs.TallyLemmas.{own_found, own_stays, rows_found, rows_more, touched_there}
use Rattle.role_domain.proofs.tallies.Tallies.push.Goals as goal

pub unreachable-requires : goal.unreachable-requires
unreachable-requires c =
    touched_there c.args.self.now c.touch.new.self c.args.text.now c.in_ok-touch.ensures.texts
    (seen_by c.args.text.now c.as_bytes.result.now c.self.inside.entries.entries c.touch.new.self _ c.as_bytes.ensures.value c.self.view_is c.in_default.ensures.value)

pub returns-clause-own : goal.returns-clause-own
returns-clause-own c = λ other.
    let after : Tally = record { own = c.in-Some.tally.now.own; rows = c.push.new.self } in
    let updates = (c.get_mut.follows.holds after).3 (subst IsSome c.in-Some.ensures.value refl) in
    own_stays c.touch.new.self (c.get_mut.follows.lender after).entries c.args.text.now after (λ name. seen_after c.args.text.now c.as_bytes.result.now name c.self.inside.entries.entries (c.get_mut.follows.lender after).entries c.touch.new.self (Some after) c.self.view_is c.as_bytes.ensures.value updates.3 updates.1)
    (own_found c.touch.new.self c.args.text.now c.in-Some.tally.now (seen_by c.args.text.now c.as_bytes.result.now c.self.inside.entries.entries c.touch.new.self _ c.as_bytes.ensures.value c.self.view_is c.in-Some.ensures.value)) other
    ∙ c.in_ok-touch.ensures.own other

pub returns-clause-rows : goal.returns-clause-rows
returns-clause-rows c = λ other.
    let after : Tally = record { own = c.in-Some.tally.now.own; rows = c.push.new.self } in
    let updates = (c.get_mut.follows.holds after).3 (subst IsSome c.in-Some.ensures.value refl) in
    rows_more c.touch.new.self (c.get_mut.follows.lender after).entries c.args.text.now after (λ name. seen_after c.args.text.now c.as_bytes.result.now name c.self.inside.entries.entries (c.get_mut.follows.lender after).entries c.touch.new.self (Some after) c.self.view_is c.as_bytes.ensures.value updates.3 updates.1) (pair_of c.args.row.now)
    (c.in_ok-push.ensures.items ∙ ap (λ (pair : Fields). c.in-Some.tally.now.rows.items ++ pair ∷ []) c.in_ok-pair.ensures
    ∙ ap (λ (rows : List Fields). rows ++ pair_of c.args.row.now ∷ []) (rows_found c.touch.new.self c.args.text.now c.in-Some.tally.now (seen_by c.args.text.now c.as_bytes.result.now c.self.inside.entries.entries c.touch.new.self _ c.as_bytes.ensures.value c.self.view_is c.in-Some.ensures.value))) other
    ∙ ap (λ (rows : List Fields). if bytes_eq other c.args.text.now then rows ++ pair_of c.args.row.now ∷ [] else rows) (c.in_ok-touch.ensures.rows other)
