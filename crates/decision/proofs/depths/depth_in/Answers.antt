use Rattle.perm_base.specs.declared.shapes.TableId.TheVariants.{G}
use Rattle.policy_state.specs.States.{tables}
use Rattle.policy_table.specs.Tables.{rows}
use Rattle.decision.proofs.DepthLemmas.{depth_in_section}
use Rattle.decision.proofs.depths.depth_in.Goals as goal

pub returns : goal.returns
returns g c = λ shape there.
    depth_in_section c.args.state.now.shapes.roles shape c.section.result.now.shape (rows (tables c.args.state.now) (G 1)) _ _ _ _ _ c.section.ensures.shape c.section.ensures.limit
    (c.depth.ensures.depth (rows (tables c.args.state.now) (G 1)) c.section.ensures.section) there
