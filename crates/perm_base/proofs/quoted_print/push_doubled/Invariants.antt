use Rattle.std.proofs.Common.{◌≡◌, ◌++◌, length}
use Rattle.std.specs.String.{string_bytes}
use Rattle.std.specs.Str.{IsUtf8}
use Rattle.perm_base.specs.FieldLine.{doubled}
use Rattle.perm_base.specs.Fields.{IsBehind}
use Rattle.perm_base.proofs.quoted_print.push_doubled.Given as goal

abbrev pub invariant-loop-before : goal.invariant-loop-before
invariant-loop-before l = record { same : string_bytes l.text ++ doubled l.rest ≡ string_bytes l.initial.text ++ doubled l.field; utf8 : IsUtf8 l.rest; kept : IsBehind (string_bytes l.initial.text) (string_bytes l.text) }

abbrev pub decreases-loop-before : goal.decreases-loop-before
decreases-loop-before l = length l.rest
