use Rattle.std.proofs.Common.{◌≡◌, ◌+◌, eqb, None, Some, sym, ◌∙◌, rules, tests}
use Rattle.std.specs.List.{position}
use Rattle.std.proofs.lemmas.Iterator.{YieldsList-from_slice}
use Rattle.std.proofs.lemmas.Iterator.Search.{position_from_yields_List}
use Rattle.std.proofs.lemmas.List.{take_rest}
use Rattle.ip_match.proofs.PartLemmas.{parts_at, parts_whole}
use Rattle.ip_match.proofs.parts.cut.Goals as goal

pub returns-in_err-at-clause-parts : goal.returns-in_err-at-clause-parts
returns-in_err-at-clause-parts c =
    let found : c.position.result ≡ position (λ byte. eqb byte c.args.separator) c.args.text.now = position_from_yields_List (λ byte. eqb byte c.args.separator) _ _ c.position.result c.position.ensures.ran (YieldsList-from_slice _ c.iter.ensures.rest) (λ x b q k. search (rules, tests)) in
    let none : c.position.result ≡ None = cc in
    rw c.from_residual.ensures (parts_whole c.args.separator c.args.text.now (sym found ∙ none))

pub returns-clause-parts : goal.returns-clause-parts
returns-clause-parts c =
    let found : c.position.result ≡ position (λ byte. eqb byte c.args.separator) c.args.text.now = position_from_yields_List (λ byte. eqb byte c.args.separator) _ _ c.position.result c.position.ensures.ran (YieldsList-from_slice _ c.iter.ensures.rest) (λ x b q k. search (rules, tests)) in
    let some : c.position.result ≡ Some c.in_ok-at.at = cc in
    let cut = parts_at c.args.separator c.args.text.now c.in_ok-at.at (sym found ∙ some) in
    rw (take_rest c.args.text.now (c.in_ok-at.at + 1)) cut.1
