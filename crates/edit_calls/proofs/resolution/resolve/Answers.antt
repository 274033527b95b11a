use Rattle.std.proofs.Common.{sym, ◌∙◌}
use Rattle.edit_calls.proofs.ResolveLemmas.{fitted, may_be_made}
use Rattle.edit_calls.proofs.resolution.resolve.Goals as goal

pub edit_by-requires-clause-fitted : goal.edit_by-requires-clause-fitted
edit_by-requires-clause-fitted c = fitted c.args.shapes.now c.args.tables.now.policy c.args.call.now c.requires.valid c.requires.sound.shaped (sym c.refusal.ensures ∙ c.in_default.is)

pub passed_after-requires-clause-possible : goal.passed_after-requires-clause-possible
passed_after-requires-clause-possible c =
    may_be_made c.args.shapes.now c.args.tables.now.policy c.args.call.now c.in-Some-2.edit c.requires.valid c.kept.ensures (sym c.refusal.ensures ∙ c.in_default.is) (sym c.in_ok-edit.ensures ∙ c.in-Some-2.is)

pub returns-in-None-clause-applies : goal.returns-in-None-clause-applies
returns-in-None-clause-applies c =
    may_be_made c.args.shapes.now c.args.tables.now.policy c.args.call.now c.in-Some-2.edit c.requires.valid c.kept.ensures (sym c.refusal.ensures ∙ c.in_default.is) (sym c.in_ok-edit.ensures ∙ c.in-Some-2.is)
