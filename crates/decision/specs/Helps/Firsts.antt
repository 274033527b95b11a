-- The row that stands first by the depth of subjects, among those that were matched or failed.
use Rattle.std.specs.Prelude.{◌≡◌, ℕ, nat_lt, if◌then◌else◌, option_copied, Option, Some, None}
use Rattle.perm_base.specs.RoleShapes.{shape_of}
use Rattle.perm_base.specs.declared.shapes.RoleShape.{RoleShape}
use Rattle.perm_base.specs.declared.shapes.TableId.TheVariants.{G}
use Rattle.effect_fold.specs.declared.outcome.Outcome.{Outcome}
use Rattle.effect_fold.specs.declared.outcome.Outcome.TheVariants.{Unmatched}
use Rattle.effect_fold.specs.Verdict.{settled_by}
use Rattle.effect_fold.specs.declared.verdict.Verdict.{Verdict}
use Rattle.effect_fold.specs.declared.verdict.Verdict.TheVariants.{Deny}
use Rattle.policy_table.specs.Tables.{Fields, rows}
use Rattle.role_meaning.specs.Depths.{IsDepth}
use Rattle.matcher_meaning.specs.Cases.{Case}
use Rattle.matcher_meaning.specs.Order.{IsDepthBy, Numbered}
use Rattle.decision.specs.declared.by_subjects.First.{First}
use Rattle.decision.specs.declared.depths.Known.{Known}

-- the depth of a row of p
abbrev pub IsDepthOf : Case → Fields → ℕ → Type 0
IsDepthOf case fields depth = IsDepthBy case (shape_of case.shapes.roles 1) fields depth

-- it is the depth of this subject in this domain, in the relation `g`
abbrev pub IsKnownIn : Case → Known → Type 0
IsKnownIn case known = (shape : RoleShape) → shape_of case.shapes.roles 1 ≡ Some shape → IsDepth shape (rows case.policy (G 1)) case.shapes.limit (option_copied known.domain) known.subject.now known.depth

-- which of the two stands first, of which the second is the later row: the deeper, and of one depth the earlier
abbrev pub first_of : Option First → First → First
first_of None later = later
first_of (Some earlier) later = if nat_lt earlier.depth later.depth then later else earlier

-- which row stands first with one more behind those before, where it was matched or failed
abbrev pub IsFirstWith : Case → Numbered → Outcome → Option First → Option First → Type 0
IsFirstWith case row Unmatched before after = after ≡ before
IsFirstWith case row outcome before after = (depth : ℕ) × IsDepthOf case row.fields depth × (after ≡ Some (first_of before (record { number = row.number; depth = depth; outcome = outcome })))

-- the verdict of the row that stands first; without one it is deny
abbrev pub verdict_of_first : Option First → Verdict
verdict_of_first None = Deny None
verdict_of_first (Some first) = settled_by (Some first.number) first.outcome
