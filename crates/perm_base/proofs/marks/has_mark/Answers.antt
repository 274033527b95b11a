use Rattle.std.proofs.Common.{ap, ◌∙◌}
use Rattle.std.specs.List.{list_any}
use Rattle.perm_base.specs.FieldSteps.{is_mark}
use Rattle.perm_base.proofs.PlainLemmas.{either_mark}
use Rattle.perm_base.proofs.marks.has_mark.Goals as goal

pub returns-then-bytes-lt4 : goal.returns-then-bytes-lt4
returns-then-bytes-lt4 c = c.is_marked.ensures ∙ ap (list_any is_mark) c.as_bytes-bytes.ensures.value ∙ either_mark c.args.text.now

pub returns-then-bytes-lt8 : goal.returns-then-bytes-lt8
returns-then-bytes-lt8 c = c.is_marked_by.ensures ∙ ap (list_any is_mark) c.as_bytes-bytes.ensures.value ∙ either_mark c.args.text.now

pub returns : goal.returns
returns c = c.is_marked_by-2.ensures ∙ ap (list_any is_mark) c.as_bytes-bytes.ensures.value ∙ either_mark c.args.text.now
