use Rattle.std.proofs.Common.{take}
use Rattle.std.specs.Str.{bytes_eq}
use Rattle.indexmap.specs.IndexSet.{contains}
use Rattle.role_graph.specs.Helps.Names.{Adds}
use Rattle.role_graph.proofs.implied.add_new.Given as goal

abbrev pub invariant-loop-role : goal.invariant-loop-role
invariant-loop-role l = Adds l.x (take l.role-index l.roles) (contains bytes_eq l.initial.seen) (contains bytes_eq l.seen) l.initial.fresh.items l.fresh.items
