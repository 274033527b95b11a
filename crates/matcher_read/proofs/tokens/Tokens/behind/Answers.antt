use Rattle.std.proofs.Common.{◌∙◌}
use Rattle.std.specs.Prelude.{option_map}
use Rattle.matcher_read.specs.Helps.TokenLists.{placed_of}
use Rattle.matcher_read.proofs.ListLemmas.{advance-is}
use Rattle.matcher_read.proofs.tokens.Tokens.behind.Goals as goal

pub returns-clause-tokens : goal.returns-clause-tokens
returns-clause-tokens c =
    c.tokens_from.ensures.tokens ∙ advance-is (option_map placed_of c.self.inside.current) c.self.inside.place c.self.inside.rest.now c.args.self.now c.self.view_is c.self.invariant
