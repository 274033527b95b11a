use Rattle.std.proofs.Common.{Some, ◌∙◌}
use Rattle.role_domain.proofs.Keyed.{seen_after, seen_by}
use Rattle.role_domain.proofs.TallyLemmas.{own_nowhere, own_stays, rows_nowhere, rows_stay, there_already, touched_text}
use Rattle.role_domain.proofs.tallies.Tallies.touch.Goals as goal

pub returns-in-Some-clause-texts : goal.returns-in-Some-clause-texts
returns-in-Some-clause-texts c =
    there_already c.args.self.now c.args.text.now c.in-Some._there.now (seen_by c.args.text.now c.as_bytes.result.now c.self.inside.entries.entries c.args.self.now _ c.as_bytes.ensures.value c.self.view_is c.in-Some.ensures.value)

pub returns-clause-texts : goal.returns-clause-texts
returns-clause-texts c =
    touched_text c.args.self.now c.insert.new.self.entries c.args.text.now (record { own = 0; rows = c.new.result })
    (λ other. seen_after c.args.text.now c.in_ok-from_str.field-0 other c.self.inside.entries.entries c.insert.new.self.entries c.args.self.now (Some (record { own = 0; rows = c.new.result })) c.self.view_is c.in_ok-from_str.ensures c.in_ok-_none.ensures.updates.3 c.in_ok-_none.ensures.updates.1)

pub returns-clause-own : goal.returns-clause-own
returns-clause-own c =
    own_stays c.args.self.now c.insert.new.self.entries c.args.text.now (record { own = 0; rows = c.new.result })
    (λ other. seen_after c.args.text.now c.in_ok-from_str.field-0 other c.self.inside.entries.entries c.insert.new.self.entries c.args.self.now (Some (record { own = 0; rows = c.new.result })) c.self.view_is c.in_ok-from_str.ensures c.in_ok-_none.ensures.updates.3 c.in_ok-_none.ensures.updates.1)
    (own_nowhere c.args.self.now c.args.text.now (seen_by c.args.text.now c.as_bytes.result.now c.self.inside.entries.entries c.args.self.now _ c.as_bytes.ensures.value c.self.view_is c.in_default.ensures.value))

pub returns-clause-rows : goal.returns-clause-rows
returns-clause-rows c =
    rows_stay c.args.self.now c.insert.new.self.entries c.args.text.now (record { own = 0; rows = c.new.result })
    (λ other. seen_after c.args.text.now c.in_ok-from_str.field-0 other c.self.inside.entries.entries c.insert.new.self.entries c.args.self.now (Some (record { own = 0; rows = c.new.result })) c.self.view_is c.in_ok-from_str.ensures c.in_ok-_none.ensures.updates.3 c.in_ok-_none.ensures.updates.1)
    (c.new.ensures.items ∙ rows_nowhere c.args.self.now c.args.text.now (seen_by c.args.text.now c.as_bytes.result.now c.self.inside.entries.entries c.args.self.now _ c.as_bytes.ensures.value c.self.view_is c.in_default.ensures.value))
