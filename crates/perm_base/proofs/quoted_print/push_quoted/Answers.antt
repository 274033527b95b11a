use Rattle.perm_base.proofs.QuotedLemmas.{pushed_quoted}
use Rattle.perm_base.proofs.quoted_print.push_quoted.Goals as goal

pub returns-clause-printed : goal.returns-clause-printed
returns-clause-printed c = pushed_quoted _ _ _ _ c.args.field.now c.requires c.in_ok-push_str.ensures.bytes c.in_ok-push_doubled.ensures.doubled c.in_ok-push_str-2.ensures.bytes
