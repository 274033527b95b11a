use Rattle.std.proofs.Common.{rules, tests}
use Rattle.std.proofs.lemmas.Iterator.{YieldsList-from_slice}
use Rattle.std.proofs.lemmas.Iterator.Search.{position_from_yields_List}
use Rattle.perm_base.specs.FieldSteps.{ends_plain}
use Rattle.perm_base.proofs.line_ends.first_end.Goals as goal

pub returns : goal.returns
returns c = position_from_yields_List ends_plain _ _ _ c.position.ensures.ran (YieldsList-from_slice _ c.iter.ensures.rest) (λ x b q k. search (rules, tests))
