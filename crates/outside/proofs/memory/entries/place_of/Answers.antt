use Rattle.std.proofs.Common.{rules, tests}
use Rattle.std.proofs.lemmas.Iterator.{YieldsList-from_slice}
use Rattle.std.proofs.lemmas.Iterator.Search.{position_from_yields_List}
use Rattle.outside.specs.Helps.Entries.{has_name}
use Rattle.outside.proofs.memory.entries.place_of.Goals as goal

pub returns : goal.returns
returns c = position_from_yields_List (has_name c.args.name.now) _ _ _ c.position.ensures.ran (YieldsList-from_slice c.args.entries.now c.iter.ensures.rest) (λ x b q k. search (rules, tests))
