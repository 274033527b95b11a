use Rattle.std.proofs.Common.{ℕ, List, Bor, rules, tests}
use Rattle.std.specs.Str.{bytes_eq}
use Rattle.std.proofs.lemmas.Iterator.{YieldsList-from_slice}
use Rattle.std.proofs.lemmas.Iterator.Search.{any_from_yields_List}
use Rattle.model_conf.proofs.ColumnLemmas.{has_by_test}
use Rattle.model_conf.proofs.columns.has_name.Goals as goal

pub returns : goal.returns
returns c =
    let any = any_from_yields_List (λ (n : Bor (List ℕ)). bytes_eq n.now c.args.name.now) _ _ c.any.result c.any.ensures.ran (YieldsList-from_slice c.args.names.now c.iter.ensures.rest) (λ x b q k. search (rules, tests)) in
    has_by_test c.args.names.now c.args.name.now c.any.result any
