use Rattle.std.proofs.Common.{◌≡◌, length}
use Rattle.command_words.specs.Helps.Seen.{entries_of}
use Rattle.command_words.specs.Values.{fits_in, fits_of}
use Rattle.command_words.proofs.FitLemmas.{AreApart, onto}
use Rattle.command_words.proofs.lists.fits_of.Given as goal

abbrev pub invariant-loop-rest : goal.invariant-loop-rest
invariant-loop-rest l = (fits_of l.fn.list ≡ onto l.fits (fits_in (entries_of l.rest))) × AreApart l.fits

abbrev pub decreases-loop-rest : goal.decreases-loop-rest
decreases-loop-rest l = length (entries_of l.rest)
