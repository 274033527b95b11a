use Rattle.std.proofs.Common.{Some, None}
use Rattle.file_lint.proofs.CutLemmas.{cut_back, cut_front, front_within, none_back, whole_front}
use Rattle.file_lint.proofs.lines.cut_at.Goals as goal

pub returns-in_default-clause-front : goal.returns-in_default-clause-front
returns-in_default-clause-front c = whole_front c.args.sign c.args.text.now c.in_default.ensures.cases c.requires

pub returns-in_default-clause-back : goal.returns-in_default-clause-back
returns-in_default-clause-back c = none_back c.args.sign c.args.text.now c.in_default.ensures.cases c.requires

pub returns-clause-front : goal.returns-clause-front
returns-clause-front c = cut_front c.args.sign c.args.text.now (c.in-Some.front, c.in-Some.back) c.in-Some.ensures.cases c.requires

pub returns-clause-back : goal.returns-clause-back
returns-clause-back c = cut_back c.args.sign c.args.text.now (c.in-Some.front, c.in-Some.back) c.in-Some.ensures.cases c.requires

pub returns-clause-within : goal.returns-clause-within
returns-clause-within c = front_within c.args.sign c.args.text.now c.in-Some.front.now (cut_front c.args.sign c.args.text.now (c.in-Some.front, c.in-Some.back) c.in-Some.ensures.cases c.requires)
