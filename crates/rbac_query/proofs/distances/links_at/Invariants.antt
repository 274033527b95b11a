use Rattle.rbac_query.proofs.distances.links_at.Given as goal

abbrev pub ghosts-far : goal.ghosts-far
ghosts-far a = record { name = a.blank.name; parts = a.blank.parts }
