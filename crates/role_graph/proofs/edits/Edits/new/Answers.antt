use Rattle.std.proofs.Common.{List, map, sym, subst}
use Rattle.role_graph.specs.Helps.Kept.{AreApart, group_of}
use Rattle.role_graph.proofs.Entries.{Entry, kept_none}
use Rattle.role_graph.proofs.edits.Edits.new.Goals as goal

pub invariant_of-result : goal.invariant_of-result
invariant_of-result c = subst (λ (entries : List Entry). AreApart (map group_of entries)) (sym c.new.ensures.empty) kept_none.once
