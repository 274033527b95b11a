use Rattle.std.proofs.Common.{ℕ, List, Bor, rules, tests}
use Rattle.std.proofs.lemmas.Iterator.{YieldsList-from_slice}
use Rattle.std.proofs.lemmas.Iterator.Search.{all_from_yields_List}
use Rattle.text_parts.specs.Names.{is_identifier}
use Rattle.model_conf.proofs.ColumnLemmas.{named_by_test}
use Rattle.model_conf.proofs.columns.are_identifiers.Goals as goal

pub returns : goal.returns
returns c =
    let all = all_from_yields_List (λ (n : Bor (List ℕ)). is_identifier n.now) _ _ c.all.result c.all.ensures.ran (YieldsList-from_slice c.args.names.now c.iter.ensures.rest) (λ x b q k. search (rules, tests)) in
    named_by_test c.args.names.now c.all.result all
