use Rattle.std.proofs.Common.{◌<◌, arith}
use Rattle.std.proofs.lemmas.Bool.{ltb-true}
use Rattle.policy_index.proofs.growth.has_room.Goals as goal

pub returns : goal.returns
returns c = λ less. let below : c.args.rows < 4294967295 = ltb-true c.args.rows 4294967295 less in omega (arith, below)
