use Rattle.std.proofs.Common.{◌≡◌, ◌==◌, [], List, true, false, not, length, sym, ◌∙◌}
use Rattle.policy_desk.proofs.DraftLemmas.{no_edits}
use Rattle.policy_desk.proofs.questions.has_edits.Goals as goal

pub returns : goal.returns
returns c = λ some. no_edits c.args.edits.now c.is_empty.result c.is_empty.ensures some
