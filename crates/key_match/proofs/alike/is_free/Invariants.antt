use Rattle.std.proofs.Common.{◌≡◌, ◌-◌, length}
use Rattle.key_match.specs.Helps.Tokens.{pieces_at}
use Rattle.key_match.specs.Helps.Given.{is_free_of}
use Rattle.key_match.specs.declared.token.Dialect.TheVariants.{Brace}
use Rattle.key_match.proofs.alike.is_free.Given as goal

abbrev pub invariant-loop-reading : goal.invariant-loop-reading
invariant-loop-reading l = is_free_of l.given (pieces_at Brace l.pattern l.at) ≡ is_free_of l.given (pieces_at Brace l.pattern l.fn.from)

abbrev pub decreases-loop-reading : goal.decreases-loop-reading
decreases-loop-reading l = length l.pattern - l.at
