use Rattle.std.proofs.Common.{◌≤◌, length, map, take}
use Rattle.std.specs.Str.{IsUtf8}
use Rattle.perm_value.specs.Seen.{datum}
use Rattle.perm_value.proofs.FieldLemmas.{AreCut}
use Rattle.perm_value.proofs.fields.values_over.Given as goal

abbrev pub invariant-loop-at : goal.invariant-loop-at
invariant-loop-at l = record { cut : AreCut l.line l.rest l.at (map datum (take l.at l.values.items)); within : l.at ≤ length l.values.items; utf8 : IsUtf8 l.rest }
