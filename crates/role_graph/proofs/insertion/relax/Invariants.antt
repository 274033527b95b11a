use Rattle.role_graph.proofs.insertion.relax.Given as goal

abbrev pub ghosts-counted_relax : goal.ghosts-counted_relax
ghosts-counted_relax a = record { name = a.blank.name; parts = a.blank.parts }
