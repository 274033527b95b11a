use Rattle.std.proofs.Common.{All, sym, subst}
use Rattle.edit_calls.specs.Admitted.{AreAdmitted}
use Rattle.policy_state.specs.Helps.Kept.{CanTake}
use Rattle.policy_state.specs.States.{State, tables}
use Rattle.policy_state.proofs.AdmittedLemmas.{all_apply, all_fitting}
use Rattle.policy_state.proofs.IndexLemmas.{all_fit_index}
use Rattle.policy_state.proofs.SectionLemmas.{all_can_take}
use Rattle.policy_state.proofs.StateLemmas.{few_after}
use Rattle.policy_table.specs.Changes.{flat}
use Rattle.policy_table.specs.Tables.{Policy}
use Rattle.policy_state.proofs.state.PolicyState.prepare_parts.Goals as goal

pub prepare-requires-clause-possible : goal.prepare-requires-clause-possible
prepare-requires-clause-possible c =
    all_apply c.self.inside.shapes c.self.inside.tables.policy c.args.edits.now
    (subst (λ (s : State). AreAdmitted s.shapes (tables s) c.args.edits.now) (sym c.self.view_is) c.requires.admitted)

pub prepare-requires-clause-few : goal.prepare-requires-clause-few
prepare-requires-clause-few c =
    few_after c.self.inside.shapes (c.admitted_edits_keep_sound.ensures.sound c.self.inside.shapes) c.self.inside.tables.policy c.args.edits.now c.kept.ensures.lists.counted c.self.invariant.sound
    (subst (λ (s : State). AreAdmitted s.shapes (tables s) c.args.edits.now) (sym c.self.view_is) c.requires.admitted)

pub prepare_index-requires : goal.prepare_index-requires
prepare_index-requires c =
    all_fit_index c.self.inside.shapes c.self.inside.index (flat c.args.edits.now) c.self.invariant.below
    (all_fitting c.self.inside.shapes c.self.inside.tables.policy c.args.edits.now
    (subst (λ (s : State). AreAdmitted s.shapes (tables s) c.args.edits.now) (sym c.self.view_is) c.requires.admitted))

pub prepare-requires-2-clause-each : goal.prepare-requires-2-clause-each
prepare-requires-2-clause-each c =
    subst (λ (p : Policy). All (CanTake c.args.edits.now p) c.self.inside.sections) (sym c.in_ok-tables.ensures.unchanged)
    (all_can_take c.self.inside.shapes (c.admitted_edits_keep_sound.ensures.sound c.self.inside.shapes) c.self.inside.tables.policy c.args.edits.now c.self.inside.sections c.self.invariant.valid.roles c.self.invariant.sound
    (subst (λ (s : State). AreAdmitted s.shapes (tables s) c.args.edits.now) (sym c.self.view_is) c.requires.admitted) c.self.invariant.sections)
