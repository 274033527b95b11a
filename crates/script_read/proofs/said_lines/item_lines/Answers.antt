use Rattle.std.proofs.Common.{refl}
use Rattle.script_read.proofs.ItemLemmas.{said_all}
use Rattle.script_read.proofs.said_lines.item_lines.Goals as goal

pub returns : goal.returns
returns c = λ items says. said_all _ items refl says
