-- What a row says, what its truth comes to, and a search that was refused (PERM: policy, effect, matchers).
use Rattle.std.specs.Prelude.{ℕ, ◌==◌, Bool, true, false, if◌then◌else◌, List, codes, Option, Some, None, Result, Ok, Err, position}
use Rattle.std.specs.Str.{bytes_eq}
use Rattle.effect_fold.specs.declared.fault.Cause.{Cause}
use Rattle.effect_fold.specs.declared.fault.Cause.TheVariants.{Pattern}
use Rattle.effect_fold.specs.declared.fault.Fault as fault
use Rattle.matcher_read.specs.Expression.{Expression, some_node}
use Rattle.matcher_read.specs.Kinds.{is_of}
use Rattle.matcher_read.specs.declared.kinds.NodeKind.TheVariants.{PolicyColumn}
use Rattle.matcher_meaning.specs.Cases.{field_of}
use Rattle.effect_fold.specs.declared.outcome.Outcome.{Outcome}
use Rattle.effect_fold.specs.declared.outcome.Outcome.TheVariants.{Unmatched, Matched, Failed}
use Rattle.effect_fold.specs.declared.verdict.Verdict.{Verdict}
use Rattle.effect_fold.specs.declared.verdict.Verdict.TheVariants.{Fault}

-- the expression names a column of the policy
abbrev pub names_policy : Expression → Bool
names_policy e = some_node (λ node. is_of node PolicyColumn) e

-- whether a text is `allow` (true) or `deny` (false); None where it is neither
abbrev pub word_of : List ℕ → Option Bool
word_of bytes = if bytes_eq bytes (codes "allow") then Some true else if bytes_eq bytes (codes "deny") then Some false else None

-- the word at the place of a column of words, or allow where there is no such column
abbrev pub word_in : List (List ℕ) → Option ℕ → List (List ℕ) → Option Bool
word_in columns (Some place) row = word_of (field_of columns (Some row) (codes "eft"))
word_in columns None row = Some true

-- what a row says: the word in its column `eft`
abbrev pub row_word : List (List ℕ) → List (List ℕ) → Option Bool
row_word columns row = word_in columns (position (bytes_eq (codes "eft")) columns) row

-- what a truth and a word come to: a fault whatever the word, and no match without a word
abbrev pub outcome_of : Result Bool fault.Fault → Option Bool → Outcome
outcome_of (Err failed) word = Failed failed
outcome_of (Ok false) word = Unmatched
outcome_of (Ok true) None = Unmatched
outcome_of (Ok true) (Some word) = Matched word

-- a search that was refused: at which row, or none, at which place, for which pattern
pub record Refusal : Type 0 where
  pub row : Option ℕ
  pub at : ℕ
  pub pattern : List ℕ

-- both are none, or the same row
abbrev pub same_row : Option ℕ → Option ℕ → Bool
same_row None None = true
same_row (Some number) (Some other) = number == other
same_row _ _ = false

-- what is refused at a row
abbrev pub refused_at : Option Refusal → Option ℕ → Option (ℕ × List ℕ)
refused_at None number = None
refused_at (Some refusal) number = if same_row refusal.row number then Some (refusal.at, refusal.pattern) else None

-- the fault of a search that was refused
abbrev pub refusal_fault : Refusal → Verdict
refusal_fault refusal = Fault refusal.row (record { cause = Pattern; at = refusal.at })

-- a fault that a search which was refused has
abbrev pub is_pattern : Cause → Bool
is_pattern Pattern = true
is_pattern _ = false

-- the verdict is such a fault
abbrev pub is_refusal : Verdict → Bool
is_refusal (Fault row failed) = is_pattern failed.cause
is_refusal _ = false
