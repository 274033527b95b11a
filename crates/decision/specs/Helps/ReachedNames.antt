-- What a name reaches that role questions ask about.
use Rattle.std.specs.Prelude.{◌↔◌, ℕ, List, option_copied}
use Rattle.policy_state.specs.States.{State, tables}
use Rattle.role_domain.specs.Reach.{ReachesName}
use Rattle.matcher_meaning.specs.Cases.{IsLinkedBy}
use Rattle.decision.specs.declared.links.AskedName.{AskedName}

-- it reaches the names to which the relation links it in the domain
pub record KnowsLinks (state : State) (known : AskedName) : Type 0 where
  pub links : (y : List ℕ) → ReachesName known.reach y ↔ IsLinkedBy state.shapes (tables state) known.relation known.name.now y (option_copied known.domain)
