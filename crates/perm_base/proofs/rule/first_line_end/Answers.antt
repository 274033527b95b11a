use Rattle.std.proofs.Common.{rules, tests}
use Rattle.std.proofs.lemmas.Iterator.{YieldsList-from_slice}
use Rattle.std.proofs.lemmas.Iterator.Search.{position_from_yields_List}
use Rattle.perm_base.specs.LineEnds.{has_line_end}
use Rattle.perm_base.proofs.rule.first_line_end.Goals as goal

pub returns : goal.returns
returns c = position_from_yields_List has_line_end _ _ _ c.position.ensures.ran (YieldsList-from_slice c.args.fields.now c.iter.ensures.rest) (λ x b q k. search (rules, tests))
