use Rattle.std.proofs.Common.{◌≡◌, ◌<◌, ℕ, [], get_or}
use Rattle.role_domain.specs.Helps.Walks.{IsMarked}
use Rattle.role_meaning.specs.Links.{role_of}
use Rattle.role_domain.proofs.walk.has_role.Given as goal

abbrev pub invariant-loop-at : goal.invariant-loop-at
invariant-loop-at l = (place : ℕ) → place < l.at → IsMarked l.marks place → role_of (get_or l.rows place []) ≡ l.name → ⊥
