use Rattle.std.proofs.Common.{take}
use Rattle.role_graph.specs.Helps.Roles.{nodes_of}
use Rattle.role_graph.proofs.LinkedLemmas.{HasNamed}
use Rattle.role_graph.proofs.closure.link_names.Given as goal

abbrev pub invariant-loop-name : goal.invariant-loop-name
invariant-loop-name l = HasNamed (nodes_of l.roles) l.names l.node (take l.name-index l.names) l.fn.square.cells l.square.cells
