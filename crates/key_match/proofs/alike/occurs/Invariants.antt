use Rattle.std.proofs.Common.{◌≡◌, ◌-◌, length}
use Rattle.std.specs.List.{list_any}
use Rattle.key_match.specs.Helps.Tokens.{pieces_at}
use Rattle.key_match.specs.Divisions.{has_name}
use Rattle.key_match.specs.declared.token.Dialect.TheVariants.{Brace}
use Rattle.key_match.proofs.alike.occurs.Given as goal

abbrev pub invariant-loop-reading : goal.invariant-loop-reading
invariant-loop-reading l = list_any (has_name l.name) (pieces_at Brace l.pattern l.at) ≡ list_any (has_name l.name) (pieces_at Brace l.pattern l.fn.from)

abbrev pub decreases-loop-reading : goal.decreases-loop-reading
decreases-loop-reading l = length l.pattern - l.at
