use Rattle.std.specs.Prelude.{option_map}
use Rattle.matcher_read.specs.Helps.TokenLists.{placed_of}
use Rattle.matcher_read.proofs.ListLemmas.{end-is}
use Rattle.matcher_read.proofs.tokens.Tokens.end.Goals as goal

pub returns : goal.returns
returns c = end-is (option_map placed_of c.self.inside.current) c.self.inside.place c.self.inside.rest.now c.args.self.now c.self.view_is c.self.invariant c.requires
