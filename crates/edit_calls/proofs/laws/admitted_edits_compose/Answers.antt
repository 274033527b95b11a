use Rattle.edit_calls.proofs.FrontLemmas.{all_admitted, back_admitted, front_admitted}
use Rattle.edit_calls.proofs.laws.admitted_edits_compose.Goals as goal

pub returns-clause-parts : goal.returns-clause-parts
returns-clause-parts c = λ shapes policy front back are. (front_admitted shapes policy front back are, back_admitted shapes policy front back are)

pub returns-clause-whole : goal.returns-clause-whole
returns-clause-whole c = all_admitted
