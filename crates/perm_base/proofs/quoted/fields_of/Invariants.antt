use Rattle.std.proofs.Common.{◌≡◌, ◌-◌, length}
use Rattle.std.specs.Str.{IsUtf8}
use Rattle.perm_base.specs.FieldSteps.{more_fields, fields_within, fields_of}
use Rattle.perm_base.proofs.quoted.fields_of.Given as goal

abbrev pub invariant-loop-at : goal.invariant-loop-at
invariant-loop-at l = record { same : more_fields l.fields.items (fields_within (34 - l.at) (length l.line) l.rest) ≡ fields_of l.line; utf8 : IsUtf8 l.rest }
