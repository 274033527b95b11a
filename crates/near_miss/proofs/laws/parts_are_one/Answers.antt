use Rattle.near_miss.proofs.OneLemmas.{parts_one}
use Rattle.near_miss.proofs.laws.parts_are_one.Goals as goal

pub returns : goal.returns
returns c model first second = parts_one c.text_says_one_model.ensures model first second
