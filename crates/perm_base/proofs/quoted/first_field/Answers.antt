use Rattle.perm_base.proofs.QuotedLemmas.{first_quoted, first_plain}
use Rattle.perm_base.proofs.quoted.first_field.Goals as goal

pub returns-in-Some : goal.returns-in-Some
returns-in-Some c = rw (first_quoted c.args.size c.args.rest.now c.behind_blanks-field.result.now c.in-Some.inside.now c.behind_blanks-field.ensures c.in-Some.ensures) c.quoted_field.ensures

pub returns-in-None : goal.returns-in-None
returns-in-None c = rw (first_plain c.args.size c.args.rest.now c.behind_blanks-field.result.now c.behind_blanks-field.ensures c.in-None.ensures) c.plain_field.ensures
