use Rattle.edit_calls.proofs.AdmitLemmas.{admitted_applies, admitted_sound}
use Rattle.edit_calls.proofs.laws.admitted_edits_keep_sound.Goals as goal

pub returns-clause-applies : goal.returns-clause-applies
returns-clause-applies c = admitted_applies

pub returns-clause-sound : goal.returns-clause-sound
returns-clause-sound c = admitted_sound
