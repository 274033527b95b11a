use Rattle.std.proofs.Common.{◌+◌, ◌-◌, ◌*◌, length}
use Rattle.key_match.specs.Pieces.{Segment}
use Rattle.key_match.specs.Helps.Tokens.{piece_of, pieces_at}
use Rattle.key_match.specs.declared.token.Dialect.TheVariants.{Brace}
use Rattle.key_match.proofs.Tried.{AreTried}
use Rattle.key_match.proofs.alike.+search.Given as goal

abbrev pub decreases-fits_given : goal.decreases-fits_given
decreases-fits_given l = 2 * (length l.pattern.now - l.from.pattern)

abbrev pub decreases-fits_new_name : goal.decreases-fits_new_name
decreases-fits_new_name l = 2 * (length l.pattern.now - l.next) + 1

abbrev pub decreases-fits_some_end : goal.decreases-fits_some_end
decreases-fits_some_end l = 2 * (length l.pattern.now - l.reading.next) + 1

abbrev pub invariant-fits_new_name-loop-ends : goal.invariant-fits_new_name-loop-ends
invariant-fits_new_name-loop-ends l = AreTried l.given (Segment l.name) (pieces_at Brace l.pattern l.next) l.key l.from l.ends l.end

abbrev pub decreases-fits_new_name-loop-ends : goal.decreases-fits_new_name-loop-ends
decreases-fits_new_name-loop-ends l = l.ends.most - l.end

abbrev pub invariant-fits_some_end-loop-ends : goal.invariant-fits_some_end-loop-ends
invariant-fits_some_end-loop-ends l = AreTried l.given (piece_of l.reading.token) (pieces_at Brace l.pattern l.reading.next) l.key l.from l.ends l.end

abbrev pub decreases-fits_some_end-loop-ends : goal.decreases-fits_some_end-loop-ends
decreases-fits_some_end-loop-ends l = l.ends.most - l.end
