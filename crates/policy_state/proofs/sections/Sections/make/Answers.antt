use Rattle.std.proofs.Common.{◌+◌, sym, subst, take}
use Rattle.std.proofs.lemmas.List.{take_more}
use Rattle.policy_state.specs.Helps.Kept.{AreSectionsOf}
use Rattle.policy_state.proofs.SectionLemmas.{have_columns, have_few_patterns, sections_more}
use Rattle.policy_state.proofs.sections.Sections.make.Goals as goal

pub make-requires-clause-columns : goal.make-requires-clause-columns
make-requires-clause-columns c =
    have_columns c.args.shapes.now c.args.tables.now.policy c.as_slice-roles.result.now c.loop-shape.shape-index _ c.as_slice-roles.ensures.value c.as_slice-roles.ensures.roles c.requires.sound c.loop-shape-test.true

pub make-requires-clause-patterns : goal.make-requires-clause-patterns
make-requires-clause-patterns c =
    have_few_patterns c.args.shapes.now c.args.tables.now.policy c.as_slice-roles.result.now c.loop-shape.shape-index _ c.as_slice-roles.ensures.value c.as_slice-roles.ensures.roles c.requires.sound c.loop-shape-test.true

pub loop-shape-preserved : goal.loop-shape-preserved
loop-shape-preserved c =
    subst (AreSectionsOf c.args.shapes.now.limit (take (c.loop-shape.shape-index + 1) c.as_slice-roles.result.now) c.args.tables.now.policy) (sym c.in_ok-push.ensures.items)
    (sections_more c.args.shapes.now.limit (take c.loop-shape.shape-index c.as_slice-roles.result.now) (take (c.loop-shape.shape-index + 1) c.as_slice-roles.result.now) c.args.tables.now.policy c.loop-shape.sections.items _
    c.in_ok-make.field-0 (take_more c.as_slice-roles.result.now c.loop-shape.shape-index _ c.loop-shape-test.true) c.in_ok-make.ensures.shape c.in_ok-make.ensures.limit c.in_ok-make.ensures.section c.loop-shape.invariant)
