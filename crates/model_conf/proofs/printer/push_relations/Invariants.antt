use Rattle.std.proofs.Common.{◌≡◌, ◌++◌, map, take}
use Rattle.std.specs.Prelude.{string_bytes}
use Rattle.text_parts.specs.Lines.{with_ends}
use Rattle.model_conf.specs.Printed.{key_line, relation_entry}
use Rattle.model_conf.proofs.printer.push_relations.Given as goal

abbrev pub invariant-loop-shape : goal.invariant-loop-shape
invariant-loop-shape l = string_bytes l.text ≡ string_bytes l.initial.text ++ with_ends (map key_line (map relation_entry (take l.shape-index l.relations)))
