use Rattle.std.proofs.Common.{◌≡◌, Bool, true, [], ◌∷◌, codes, sym, ap, ◌∙◌}
use Rattle.std.specs.Prelude.{if◌then◌else◌}
use Rattle.file_lint.specs.ModelWarnings.{is_unranked, priority_words, warning_at}
use Rattle.file_lint.specs.Places.{place_of_value}
use Rattle.file_lint.specs.declared.places.Place.{Place}
use Rattle.file_lint.proofs.ToldLemmas.{one_told}
use Rattle.file_lint.proofs.model_warnings.push_column_warnings.Goals as goal

pub returns : goal.returns
returns c =
    let at = place_of_value (codes "p") 0 c.args.text.now in
    let told = warning_at at priority_words in
    let is : is_unranked c.args.model.now ≡ true = sym c.is_unranked.ensures ∙ c.if-not-is_unranked.false in
    let made : c.in_ok-warning.warning ≡ told = c.in_ok-warning.ensures ∙ ap (λ (place : Place). warning_at place priority_words) c.place_of_value-at.ensures in
    one_told c.args.found.now.items c.push.new.self.items _ told c.in_ok-warning.warning (ap (λ (b : Bool). if b then told ∷ [] else []) is) made c.in_ok-push.ensures.items
