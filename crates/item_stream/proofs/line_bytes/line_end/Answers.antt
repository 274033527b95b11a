use Rattle.std.proofs.Common.{eqb, sym, ◌∙◌, rules, tests}
use Rattle.std.proofs.lemmas.Iterator.{YieldsList-from_slice}
use Rattle.std.proofs.lemmas.Iterator.Search.{position_from_yields_List}
use Rattle.text_parts.proofs.CallerLemmas.{position-None, position-none_before}
use Rattle.item_stream.proofs.KeepLemmas.{cut_there, cut_within}
use Rattle.item_stream.proofs.line_bytes.line_end.Goals as goal

pub returns-in_err-at-clause-none : goal.returns-in_err-at-clause-none
returns-in_err-at-clause-none c =
    let place = position_from_yields_List (λ b. eqb b 10) _ _ c.position.result c.position.ensures.ran (YieldsList-from_slice c.args.piece.now c.iter.ensures.rest) (λ x b q k. search (rules, tests)) in
    rw c.from_residual.ensures (position-None (λ b. eqb b 10) c.args.piece.now (sym place ∙ c.in_err-at.was))

pub returns-clause-within : goal.returns-clause-within
returns-clause-within c =
    let place = position_from_yields_List (λ b. eqb b 10) _ _ c.position.result c.position.ensures.ran (YieldsList-from_slice c.args.piece.now c.iter.ensures.rest) (λ x b q k. search (rules, tests)) in
    cut_within c.args.piece.now c.in_ok-at.at (sym place ∙ c.in_ok-at.was)

pub returns-clause-first : goal.returns-clause-first
returns-clause-first c =
    let place = position_from_yields_List (λ b. eqb b 10) _ _ c.position.result c.position.ensures.ran (YieldsList-from_slice c.args.piece.now c.iter.ensures.rest) (λ x b q k. search (rules, tests)) in
    position-none_before (λ b. eqb b 10) c.args.piece.now c.in_ok-at.at (sym place ∙ c.in_ok-at.was)

pub returns-clause-parts : goal.returns-clause-parts
returns-clause-parts c =
    let place = position_from_yields_List (λ b. eqb b 10) _ _ c.position.result c.position.ensures.ran (YieldsList-from_slice c.args.piece.now c.iter.ensures.rest) (λ x b q k. search (rules, tests)) in
    cut_there c.args.piece.now c.in_ok-at.at (sym place ∙ c.in_ok-at.was)
