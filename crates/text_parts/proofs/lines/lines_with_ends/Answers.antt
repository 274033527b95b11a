use Rattle.std.proofs.Common.{◌∙◌, []}
use Rattle.std.proofs.lemmas.List.{append-nil}
use Rattle.std.proofs.lemmas.List.Elements.{recursion_from_All}
use Rattle.text_parts.specs.Lines.{lines_of, with_ends}
use Rattle.text_parts.proofs.CallerLemmas.{lines_of-with_ends}
use Rattle.text_parts.proofs.lines.lines_with_ends.Goals as goal

pub returns : goal.returns
unfolding lines_of
returns c = λ texts lines. rw (← append-nil (with_ends texts)) (lines_of-with_ends texts [] (recursion_from_All _ _ lines) ∙ append-nil texts)
