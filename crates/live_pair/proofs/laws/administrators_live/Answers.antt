use Rattle.live_pair.proofs.LifeLemmas.{lived_edit, lived_publish}
use Rattle.live_pair.proofs.laws.administrators_live.Goals as goal

pub returns-clause-edit : goal.returns-clause-edit
returns-clause-edit c = lived_edit

pub returns-clause-publish : goal.returns-clause-publish
returns-clause-publish c = lived_publish
