use Rattle.std.proofs.Common.{[]}
use Rattle.std.specs.Prelude.{flat_map}
use Rattle.std.proofs.lemmas.List.Concat.{flat_map-append}
use Rattle.version_log.specs.EditText.{change_items, item_lines, items_of}
use Rattle.answer_lines.proofs.laws.edits_are_told_line_by_line.Goals as goal

pub returns : goal.returns
returns c = λ edit. flat_map-append item_lines (flat_map change_items edit) (items_of [])
