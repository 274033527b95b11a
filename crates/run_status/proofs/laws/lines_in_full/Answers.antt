use Rattle.std.proofs.Common.{refl}
use Rattle.std.specs.Fmt.{digits}
use Rattle.run_status.proofs.laws.lines_in_full.Goals as goal

-- each line computes, once its numbers are digits
pub returns : goal.returns
unfolding digits
returns c = record { words = refl; unreadable = refl; too_long = refl; report = refl; missing = refl; shape = refl; effect = refl; column = refl; matcher = refl; call = refl; end = refl; option = refl; quote = refl; table = refl; batch = refl; packet = refl; cause = refl }
