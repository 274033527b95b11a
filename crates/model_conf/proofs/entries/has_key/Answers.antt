use Rattle.std.proofs.Common.{◌∙◌, rules, tests}
use Rattle.std.specs.Str.{bytes_eq}
use Rattle.std.proofs.lemmas.Iterator.{YieldsList-from_slice}
use Rattle.std.proofs.lemmas.Iterator.Search.{any_from_yields_List}
use Rattle.model_conf.specs.declared.entries.Entry.{Entry}
use Rattle.model_conf.proofs.EntryLemmas.{is_key-seen}
use Rattle.model_conf.proofs.entries.has_key.Goals as goal

pub returns : goal.returns
returns c =
    any_from_yields_List (λ (e : Entry). bytes_eq e.key.now c.args.key.now) _ _ c.any.result c.any.ensures.ran (YieldsList-from_slice c.args.entries.now c.iter.ensures.rest) (λ x b q k. search (rules, tests))
    ∙ is_key-seen c.args.entries.now c.args.key.now
