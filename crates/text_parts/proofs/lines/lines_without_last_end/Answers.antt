use Rattle.std.proofs.Common.{ℕ, List, ◌++◌, ap, ◌∙◌}
use Rattle.std.proofs.lemmas.List.Elements.{recursion_from_All}
use Rattle.text_parts.proofs.CallerLemmas.{lines_of-last, lines_of-with_ends}
use Rattle.text_parts.proofs.lines.lines_without_last_end.Goals as goal

pub returns : goal.returns
returns c = λ texts last lines none some. lines_of-with_ends texts last (recursion_from_All _ _ lines) ∙ ap (λ (back : List (List ℕ)). texts ++ back) (lines_of-last last some none)
