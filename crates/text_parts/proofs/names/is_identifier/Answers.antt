use Rattle.std.proofs.Common.{rules, tests, ap, ◌∙◌, arith}
use Rattle.std.proofs.lemmas.Iterator.{YieldsList-from_slice}
use Rattle.std.proofs.lemmas.Iterator.Search.{all_from_yields_List}
use Rattle.text_parts.specs.Names.{is_identifier, is_word}
use Rattle.text_parts.proofs.CallerLemmas.{is_identifier-front}
use Rattle.text_parts.proofs.names.is_identifier.Goals as goal

pub returns-then-is_letter : goal.returns-then-is_letter
returns-then-is_letter c =
    let all = all_from_yields_List is_word _ _ c.all.result c.all.ensures.ran (YieldsList-from_slice _ c.iter.ensures.rest) (λ x b q k. search (rules, tests)) in
    is_identifier-front c.as_bytes.result.now c.all.result (omega arith) (search (rules, tests)) all ∙ ap is_identifier c.as_bytes.ensures.value
