use Rattle.std.proofs.Common.{sym}
use Rattle.std.proofs.lemmas.Slice.Eq.{slice_eq-Decides}
use Rattle.matcher_code.proofs.FrameLemmas.{shape-Decides}
use Rattle.matcher_code.proofs.frame.same_relations.Goals as goal

pub returns : goal.returns
returns c = λ is. sym ((slice_eq-Decides shape-Decides c.args.relations.now c.args.others.now c.eq.result c.eq.ensures).0 is)
