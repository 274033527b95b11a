use Rattle.std.proofs.Common.{arith}
use Rattle.live_rounds.proofs.PostLemmas.{kept_none, kept_whole}
use Rattle.live_rounds.proofs.dismissal.kept_of.Goals as goal

-- the seat's version is not above that one
pub returns-then-reached-version : goal.returns-then-reached-version
returns-then-reached-version g c = kept_whole c.args.seat.now c.version-reached.result c.args.version c.args.replies c.version-reached.ensures.version c.if-reached-version.true

-- it is above it
pub returns : goal.returns
returns g c = kept_none c.args.seat.now c.version-reached.result c.args.version c.args.replies c.new.result c.version-reached.ensures.version (omega (arith, c.if-reached-version.false)) c.new.ensures
