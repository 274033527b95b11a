use Rattle.std.proofs.Common.{Option, Some, ℕ, map, refl, subst, sym}
use Rattle.perm_value.specs.Seen.{datum}
use Rattle.decision.specs.Helps.FoundRows.{IsDomainOf}
use Rattle.decision.proofs.GatherLemmas.{text_there}
use Rattle.decision.proofs.found_rows.domain_at.Goals as goal

pub returns : goal.returns
returns c =
    let values = map datum c.args.request.now in
    let text = c.in-Some-text_at.text.now in
    subst (λ (place : Option (Option ℕ)). IsDomainOf values place (Some text)) (sym c.in-Some.is) (text, text_there values c.in-Some.place text (sym c.in-Some-text_at.ensures), refl)
