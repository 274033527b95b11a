-- How many lines of each kind there are, and the last version that they tell of a publish.
use Rattle.std.specs.Prelude.{ℕ, ◌+◌, Bool, true, false, List, ◌++◌, codes, decimal, fold, length}
use Rattle.answer_lines.specs.Printed.{shown_by}
use Rattle.answer_lines.specs.declared.answer.Line.{Line}
use Rattle.answer_lines.specs.declared.printed.Shown.{Shown}
use Rattle.answer_lines.specs.declared.printed.Shown.TheVariants.{Allow, Deny, Fault, Other, Published, Truth}
use Rattle.demo_run.specs.declared.counts.Counts.{Counts}

abbrev pub none_counted : Counts
none_counted = record { allow = 0; deny = 0; fault = 0; yes = 0; no = 0; version = 0 }

-- one call more, by whether it changed the policy
abbrev pub with_truth : Counts → Bool → Counts
with_truth counts true = record counts { yes = counts.yes + 1 }
with_truth counts false = record counts { no = counts.no + 1 }

-- one answer more, by what it shows
abbrev pub with_shown : Counts → Shown → Counts
with_shown counts (Allow version) = record counts { allow = counts.allow + 1 }
with_shown counts (Deny version) = record counts { deny = counts.deny + 1 }
with_shown counts (Fault version) = record counts { fault = counts.fault + 1 }
with_shown counts (Truth changed) = with_truth counts changed
with_shown counts (Published version) = record counts { version = version }
with_shown counts Other = counts

-- lines behind others, and all
abbrev pub counted_behind : Counts → List Line → Counts
counted_behind counts lines = fold (λ (so_far : Counts) (line : Line). with_shown so_far (shown_by line.answer)) counts lines

abbrev pub counted : List Line → Counts
counted lines = counted_behind none_counted lines

-- the line that tells them: which demonstration it is and how many items it has, the verdicts, and the calls and the last version
abbrev pub head_text : (count items : ℕ) → List ℕ
head_text count items = codes "demo " ++ decimal count ++ codes ": items " ++ decimal items

abbrev pub verdicts_text : Counts → List ℕ
verdicts_text counts = codes ", allow " ++ decimal counts.allow ++ codes ", deny " ++ decimal counts.deny ++ codes ", fault " ++ decimal counts.fault

abbrev pub truths_text : Counts → List ℕ
truths_text counts = codes ", true " ++ decimal counts.yes ++ codes ", false " ++ decimal counts.no ++ codes ", version " ++ decimal counts.version ++ codes "\n"

abbrev pub tally_text : (count items : ℕ) → Counts → List ℕ
tally_text count items counts = head_text count items ++ verdicts_text counts ++ truths_text counts

abbrev pub summary : ℕ → List Line → List ℕ
summary count lines = tally_text count (length lines) (counted lines)
