use Rattle.role_graph.specs.Helps.Kept.{linked_of}
use Rattle.role_graph.proofs.CommitLemmas.{nodes_from}
use Rattle.role_graph.proofs.graph.graph_of.Goals as goal

pub square_of-requires : goal.square_of-requires
square_of-requires c = nodes_from (linked_of c.args.links) c.args.roles c.len-once.ensures.once c.len-once.ensures.some c.requires.counted

pub invariant_of-result : goal.invariant_of-result
invariant_of-result c = record {
  links = c.len-sound.ensures.sound;
  few = c.requires.few;
  some = c.requires.some;
  limited = c.requires.most;
  counted = c.requires.counted;
  number = c.requires.number;
  nodes = nodes_from (linked_of c.args.links) c.args.roles c.len-once.ensures.once c.len-once.ensures.some c.requires.counted;
  exact = c.in_ok-square.ensures;
}
