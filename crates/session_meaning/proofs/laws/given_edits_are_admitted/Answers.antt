use Rattle.session_meaning.proofs.AdmittedLemmas.{edit_admitted, version_kept, version_sound}
use Rattle.session_meaning.proofs.laws.given_edits_are_admitted.Goals as goal

pub returns-clause-admitted : goal.returns-clause-admitted
returns-clause-admitted c shapes opening items at edit valid order =
    edit_admitted (record { made = c.edits_apply.ensures; admitted = c.edits_are_admitted.ensures; applied = c.admitted_edits_keep_sound.ensures.applies; sound = c.admitted_edits_keep_sound.ensures.sound })
    shapes opening valid order items at edit

pub returns-clause-sound : goal.returns-clause-sound
returns-clause-sound c shapes opening items version valid order =
    version_sound (record { made = c.edits_apply.ensures; admitted = c.edits_are_admitted.ensures; applied = c.admitted_edits_keep_sound.ensures.applies; sound = c.admitted_edits_keep_sound.ensures.sound })
    shapes opening valid order items version

pub returns-clause-kept : goal.returns-clause-kept
returns-clause-kept c shapes opening items version valid order =
    version_kept (record { made = c.edits_apply.ensures; admitted = c.edits_are_admitted.ensures; applied = c.admitted_edits_keep_sound.ensures.applies; sound = c.admitted_edits_keep_sound.ensures.sound })
    shapes opening valid order items version
