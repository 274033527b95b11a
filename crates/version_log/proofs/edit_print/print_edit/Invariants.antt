use Rattle.std.proofs.Common.{◌≡◌, take}
use Rattle.std.specs.Prelude.{flat_map}
use Rattle.std.specs.List.{AllByRecursion}
use Rattle.std.specs.String.{string_bytes}
use Rattle.version_log.proofs.PrintLemmas.{changes_text}
use Rattle.version_log.specs.EditText.{IsWhole, change_items}
use Rattle.version_log.proofs.edit_print.print_edit.Given as goal

abbrev pub invariant-loop-change : goal.invariant-loop-change
invariant-loop-change l = record {
  lines : string_bytes l.text ≡ changes_text (take l.change-index l.change-items);
  whole : AllByRecursion IsWhole (flat_map change_items (take l.change-index l.change-items));
}
