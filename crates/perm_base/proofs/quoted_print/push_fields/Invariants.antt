use Rattle.std.proofs.Common.{◌≡◌, ◌++◌, map, take}
use Rattle.std.specs.String.{string_bytes}
use Rattle.perm_base.specs.Fields.{joined}
use Rattle.perm_base.specs.FieldLine.{printed_field}
use Rattle.perm_base.proofs.quoted_print.push_fields.Given as goal

abbrev pub invariant-loop-at : goal.invariant-loop-at
invariant-loop-at l = string_bytes l.text ≡ string_bytes l.initial.text ++ joined (take l.at (map printed_field l.rule))
