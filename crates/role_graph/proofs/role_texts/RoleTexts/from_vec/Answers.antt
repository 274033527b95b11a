use Rattle.std.proofs.Common.{◌∙◌, arith}
use Rattle.role_graph.proofs.TextLemmas.{only_role}
use Rattle.role_graph.proofs.role_texts.RoleTexts.from_vec.Goals as goal

pub returns-then-len-eq1 : goal.returns-then-len-eq1
returns-then-len-eq1 c = c.one.ensures ∙ only_role c.args.roles.items c.swap_remove.result (omega (arith, c.if-len-eq1.true, c.args.roles.ok.0)) c.swap_remove.ensures.value
