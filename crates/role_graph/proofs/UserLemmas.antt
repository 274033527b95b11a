-- Users of groups, none of them twice.
use Rattle.std.proofs.Common.{◌≡◌, ℕ, ◌<◌, List, length, get_or, sym, ◌∙◌, arith}
use Rattle.std.proofs.Math.ListN.{get_or-map}
use Rattle.std.proofs.lemmas.List.{length-map}
use Rattle.role_graph.specs.Groups.{Group}
use Rattle.role_graph.specs.Helps.Kept.{AreApart, users_of}
use Rattle.role_graph.specs.Helps.Walks.{no_group}
use Rattle.role_graph.proofs.BridgeLemmas.{one_node}

-- a user is that of one group
pub user_once : (groups : List Group) (a b : ℕ) → AreApart groups → a < length groups → b < length groups → (get_or groups a no_group).user ≡ (get_or groups b no_group).user → a ≡ b
user_once groups a b apart first second same =
    let user = λ (group : Group). group.user in
    one_node (users_of groups) a b apart (omega (arith, first, length-map groups user)) (omega (arith, second, length-map groups user))
    (get_or-map user groups a no_group ∙ same ∙ sym (get_or-map user groups b no_group))
