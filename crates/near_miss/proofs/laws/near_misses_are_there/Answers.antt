use Rattle.std.specs.List.{Contains}
use Rattle.near_miss.proofs.OneLemmas.{misses_there}
use Rattle.near_miss.proofs.laws.near_misses_are_there.Goals as goal

pub returns : goal.returns
returns c shapes policy request refused parts most = misses_there shapes policy request c.case_answer_is_there.ensures.truth (Contains refused) parts most
