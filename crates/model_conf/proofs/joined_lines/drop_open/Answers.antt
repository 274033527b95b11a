use Rattle.std.proofs.Common.{refl}
use Rattle.model_conf.proofs.OpenLemmas.{closed_as}
use Rattle.model_conf.proofs.joined_lines.drop_open.Goals as goal

pub returns-in_default : goal.returns-in_default
returns-in_default c = (closed_as _ c.as_str.result.now c.as_str.ensures.value c.in_default.ensures, refl)
