use Rattle.role_graph.proofs.insertion.distance.Given as goal

abbrev pub ghosts-counted_distance : goal.ghosts-counted_distance
ghosts-counted_distance a = record { name = a.blank.name; parts = a.blank.parts }
