use Rattle.std.proofs.Common.{sym, ◌∙◌}
use Rattle.std.specs.Option.{option_copied}
use Rattle.std.proofs.lemmas.Option.{same_Some}
use Rattle.perm_base.specs.declared.shapes.TableId.TheVariants.{G}
use Rattle.policy_state.specs.States.{tables}
use Rattle.policy_state.proofs.QueryLemmas.{copied_some, reach_told, same_shape}
use Rattle.policy_table.specs.Tables.{rows}
use Rattle.policy_state.proofs.state.PolicyState.reach.Goals as goal

pub reach-requires : goal.reach-requires
reach-requires c = sym (copied_some c.args.domain) ∙ same_shape c.args.self.now.shapes c.args.relation (option_copied c.args.domain) c.section.result.now.shape c.requires.asked c.section.ensures.shape

pub returns : goal.returns
returns c = record {
  found = λ shape there.
      reach_told c.reach.result c.section.result.now shape c.args.self.now.shapes.limit (rows (tables c.args.self.now) (G c.args.relation)) (option_copied c.args.domain) c.args.x.now
      (same_Some c.section.result.now.shape shape (sym c.section.ensures.shape ∙ there)) c.section.ensures.limit (c.reach.ensures (rows (tables c.args.self.now) (G c.args.relation)) c.section.ensures.section);
}
