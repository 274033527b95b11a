use Rattle.std.specs.Option.{option_to_list}
use Rattle.role_graph.proofs.PutLemmas.{apart_front}
use Rattle.role_graph.proofs.edits.Edits.pop.Goals as goal

pub invariant_of-self : goal.invariant_of-self
invariant_of-self c = apart_front c.self.inside.entries.entries c.pop.new.self.entries (option_to_list c.pop.result) c.pop.ensures.entries c.self.invariant
