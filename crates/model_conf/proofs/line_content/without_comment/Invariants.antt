use Rattle.std.proofs.Common.{◌≡◌, ◌++◌, None, take, drop}
use Rattle.model_conf.proofs.CommentLemmas.{uncommented}
use Rattle.model_conf.proofs.line_content.without_comment.Given as goal

abbrev pub invariant-loop-at : goal.invariant-loop-at
invariant-loop-at l = uncommented None l.text ≡ take l.at l.text ++ uncommented l.quote (drop l.at l.text)
