use Rattle.std.proofs.Common.{◌≡◌, drop}
use Rattle.model_conf.specs.Shapes.{fit_of}
use Rattle.model_conf.proofs.shapes.fit_of.Given as goal

abbrev pub invariant-loop-number : goal.invariant-loop-number
invariant-loop-number l = fit_of (drop l.number-index l.fits) l.relation ≡ fit_of l.fits l.relation
