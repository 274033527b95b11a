use Rattle.perm_value.proofs.RisingLemmas.{view_names_rise}
use Rattle.perm_value.proofs.value.View.names_rise.Goals as goal

pub returns : goal.returns
returns c = view_names_rise c.args.self.now
