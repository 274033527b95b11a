use Rattle.perm_value.proofs.fields.request_of_fields.Goals as goal

pub returns-clause-only : goal.returns-clause-only
returns-clause-only c = c.request_over_fields.ensures.only
