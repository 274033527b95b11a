use Rattle.std.proofs.Common.{rules, tests}
use Rattle.std.specs.Str.{bytes_eq}
use Rattle.std.proofs.lemmas.Iterator.{YieldsList-from_slice}
use Rattle.std.proofs.lemmas.Iterator.Search.{position_from_yields_List}
use Rattle.perm_base.proofs.rule.Rule.place_of.Goals as goal

pub returns-in_err-at : goal.returns-in_err-at
returns-in_err-at c =
    let found = position_from_yields_List (bytes_eq c.args.name.now) _ _ _ c.position.ensures.ran (YieldsList-from_slice c.deref.result.now c.iter.ensures.rest) (λ x b q k. search (rules, tests)) in
    search rules

pub returns : goal.returns
returns c =
    let found = position_from_yields_List (bytes_eq c.args.name.now) _ _ _ c.position.ensures.ran (YieldsList-from_slice c.deref.result.now c.iter.ensures.rest) (λ x b q k. search (rules, tests)) in
    search rules
