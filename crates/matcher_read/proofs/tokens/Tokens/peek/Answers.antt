use Rattle.matcher_read.proofs.ListLemmas.{digits-is, peek-is}
use Rattle.matcher_read.proofs.tokens.Tokens.peek.Goals as goal

pub returns-clause-token : goal.returns-clause-token
returns-clause-token c = peek-is c.self.inside.current c.self.inside.place c.self.inside.rest.now c.args.self.now c.self.view_is c.self.invariant

pub returns-clause-digits : goal.returns-clause-digits
returns-clause-digits c = digits-is c.self.inside.current c.self.inside.place c.self.inside.rest.now c.self.invariant
