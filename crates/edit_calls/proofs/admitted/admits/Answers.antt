use Rattle.std.proofs.Common.{sym, ◌∙◌}
use Rattle.edit_calls.proofs.AdmitLemmas.{fitting_shapes}
use Rattle.edit_calls.proofs.admitted.admits.Goals as goal

pub passed_after-requires-clause-shaped : goal.passed_after-requires-clause-shaped
passed_after-requires-clause-shaped c =
    fitting_shapes c.args.shapes.now c.args.tables.now.policy c.in_ok-whole.whole (sym c.are_fitting.ensures ∙ c.if-not-are_fitting.false) c.requires.shaped
