use Rattle.key_match.specs.declared.part.Choice.TheVariants.{Longest, Shortest}
use Rattle.key_match.proofs.Named.{named_there, named_unique}
use Rattle.key_match.proofs.laws.named_part_is_one.Goals as goal

pub returns-clause-longer_there : goal.returns-clause-longer_there
returns-clause-longer_there c pieces key name = named_there Longest pieces key name

pub returns-clause-shorter_there : goal.returns-clause-shorter_there
returns-clause-shorter_there c pieces key name = named_there Shortest pieces key name

pub returns-clause-longer_unique : goal.returns-clause-longer_unique
returns-clause-longer_unique c pieces key name found other p q = named_unique Longest pieces key name found other p q

pub returns-clause-shorter_unique : goal.returns-clause-shorter_unique
returns-clause-shorter_unique c pieces key name found other p q = named_unique Shortest pieces key name found other p q
