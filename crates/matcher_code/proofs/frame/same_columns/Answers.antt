use Rattle.std.proofs.Common.{sym}
use Rattle.std.proofs.lemmas.Slice.Eq.{bytes_eq-Decides, slice_eq-Decides}
use Rattle.matcher_code.proofs.frame.same_columns.Goals as goal

pub returns : goal.returns
returns c = λ is. sym ((slice_eq-Decides bytes_eq-Decides c.args.columns.now c.args.others.now c.eq.result c.eq.ensures).0 is)
