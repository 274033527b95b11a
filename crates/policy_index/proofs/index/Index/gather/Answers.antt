use Rattle.policy_index.proofs.FindLemmas.{adds_rows}
use Rattle.policy_index.proofs.index.Index.gather.Goals as goal

pub returns : goal.returns
returns c = λ by_slot texts is key. adds_rows c.args.self.now.key texts c.args.asked.now c.args.hash c.args.self.now.marks by_slot _ _ key is.marks c.in_ok-gather_marks.ensures
