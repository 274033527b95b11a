use Rattle.perm_base.proofs.FieldLineLemmas.{given_few, given_found, given_only, given_quote, given_rule, given_some, given_too_many}
use Rattle.perm_base.proofs.quoted.read_fields.Goals as goal

pub returns-clause-found : goal.returns-clause-found
returns-clause-found c = given_found _ c.args.line.now c.fields_of.result c.fields_of.ensures.exact

pub returns-clause-only : goal.returns-clause-only
returns-clause-only c = given_only _ c.args.line.now c.fields_of.result c.fields_of.ensures.exact

pub returns-clause-quote : goal.returns-clause-quote
returns-clause-quote c = λ column is. given_quote _ c.args.line.now c.fields_of.result column c.fields_of.ensures.exact is

pub returns-clause-too_many : goal.returns-clause-too_many
returns-clause-too_many c = λ is. given_too_many _ c.args.line.now c.fields_of.result c.fields_of.ensures.exact is

pub returns-clause-rule : goal.returns-clause-rule
returns-clause-rule c = given_rule _ c.args.line.now c.fields_of.result c.fields_of.ensures.exact

pub returns-clause-some : goal.returns-clause-some
returns-clause-some c = given_some _ c.args.line.now c.fields_of.result c.fields_of.ensures.exact

pub returns-clause-few : goal.returns-clause-few
returns-clause-few c = given_few _ c.args.line.now c.fields_of.result c.fields_of.ensures.exact
