use Rattle.decision.proofs.depths.depth_of.Given as goal

abbrev pub ghosts-depth_in : goal.ghosts-depth_in
ghosts-depth_in a = record { name = a.blank.name; parts = a.blank.parts }
