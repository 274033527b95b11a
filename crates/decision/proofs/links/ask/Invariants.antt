use Rattle.decision.proofs.links.ask.Given as goal

abbrev pub ghosts-linked : goal.ghosts-linked
ghosts-linked a = record { name = a.blank.name; parts = a.blank.parts }
