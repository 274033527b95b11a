use Rattle.std.proofs.Common.{◌<◌, ℕ, Some, [], get_or}
use Rattle.role_domain.specs.Helps.Walks.{IsMarked, inner}
use Rattle.role_meaning.specs.Links.{HasRoles, role_of}
use Rattle.role_domain.proofs.walk.has_top.Given as goal

abbrev pub invariant-loop-at : goal.invariant-loop-at
invariant-loop-at l = (place : ℕ) → place < l.at → IsMarked l.marks place → HasRoles (inner l.terms) l.rows (Some l.text) (role_of (get_or l.rows place []))
