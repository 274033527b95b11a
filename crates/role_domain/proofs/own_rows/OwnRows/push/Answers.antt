use Rattle.std.proofs.Common.{◌∙◌, ◌++◌, ◌∷◌, [], List, Some, refl, ap, subst}
use Rattle.std.specs.Prelude.{IsSome}
use Rattle.std.specs.Borrow.{Bor}
use Rattle.std.specs.Global.{Vec}
use Rattle.policy_table.specs.Tables.{Fields}
use Rattle.role_domain.proofs.Keyed.{seen_after, seen_at}
use Rattle.role_domain.proofs.OwnLemmas.{rows_next, rows_nowhere, rows_there}
use Rattle.role_meaning.specs.Links.{domain_of}
use Rattle.role_domain.proofs.own_rows.OwnRows.push.Goals as goal

pub returns-in-Some : goal.returns-in-Some
returns-in-Some c = λ all rest have.
    let row : Bor Fields = c.args.row in
    let after : Vec (Bor Fields) = c.push.new.self in
    let wrote = (c.get_mut.follows.holds after).3 (subst IsSome c.in-Some.ensures.value refl) in
    rows_next all rest row c.args.self.now (c.get_mut.follows.lender after).entries c.in-Some.own.now.items after
    (rows_there all (row.now ∷ rest) c.domain_of-text.result.now (domain_of row.now) c.args.self.now c.in-Some.own.now c.domain_of-text.ensures
    (seen_at c.domain_of-text.result.now c.self.inside.entries.entries c.args.self.now _ c.self.view_is c.in-Some.ensures.value) have)
    c.in_ok-push.ensures.items
    (λ name. seen_after (domain_of row.now) c.domain_of-text.result.now name c.self.inside.entries.entries (c.get_mut.follows.lender after).entries c.args.self.now (Some after) c.self.view_is c.domain_of-text.ensures wrote.3 wrote.1) have

pub returns : goal.returns
returns c = λ all rest have.
    let row : Bor Fields = c.args.row in
    rows_next all rest row c.args.self.now c.insert.new.self.entries [] c.push-2.new.self
    (rows_nowhere all (row.now ∷ rest) c.domain_of-text.result.now (domain_of row.now) c.args.self.now c.domain_of-text.ensures
    (seen_at c.domain_of-text.result.now c.self.inside.entries.entries c.args.self.now _ c.self.view_is c.in_default.ensures.value) have)
    (c.in_ok-push-2.ensures.items ∙ ap (λ (l : List (Bor Fields)). l ++ row ∷ []) c.in_ok-first.ensures.items)
    (λ name. seen_after (domain_of row.now) c.in_ok-from_str.field-0 name c.get_mut.follows.lender-at-none.entries c.insert.new.self.entries c.args.self.now (Some c.push-2.new.self) (ap (λ m. m.entries) c.get_mut.follows.holds-at-none ∙ c.self.view_is) (c.in_ok-from_str.ensures ∙ c.domain_text.ensures) c.in_ok-_none.ensures.updates.3 c.in_ok-_none.ensures.updates.1)
    have
