use Rattle.log_ship.proofs.TakeLemmas.{reading_once, some_reading}
use Rattle.log_ship.proofs.laws.texts_read_in_one_way.Goals as goal

pub returns-clause-some : goal.returns-clause-some
returns-clause-some c = λ text. some_reading text (c.every_text_is_an_edit_or_at_fault.ensures text)

pub returns-clause-once : goal.returns-clause-once
returns-clause-once c = reading_once
