use Rattle.std.proofs.Common.{◌≡◌, length}
use Rattle.std.specs.String.{string_bytes}
use Rattle.std.specs.Str.{IsUtf8}
use Rattle.perm_base.specs.FieldSteps.{more_quoted, quoted_text}
use Rattle.perm_base.proofs.quoted.quoted_text.Given as goal

abbrev pub invariant-loop-before : goal.invariant-loop-before
invariant-loop-before l = record { same : quoted_text l.inside ≡ more_quoted (string_bytes l.text) (quoted_text l.rest); utf8 : IsUtf8 l.rest }

abbrev pub decreases-loop-before : goal.decreases-loop-before
decreases-loop-before l = length l.rest
