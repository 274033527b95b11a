use Rattle.std.specs.Prelude.{option_copied}
use Rattle.policy_state.specs.States.{tables}
use Rattle.role_domain.specs.Reach.{ReachesName}
use Rattle.decision.proofs.NamedLemmas.{linked_by}
use Rattle.decision.proofs.asked_name.name_in.Goals as goal

pub returns : goal.returns
returns c = record {
  links = λ y.
      linked_by c.args.state.now.shapes (tables c.args.state.now) c.args.relation (option_copied c.args.domain) c.args.name.now y c.requires.asked (ReachesName c.in-Some.reach y)
      (c.in-Some.ensures.found c.requires.asked.shape c.requires.asked.there y);
}
