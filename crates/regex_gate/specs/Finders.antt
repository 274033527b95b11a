-- What a search gives, and what contracts see of the finders.
use Rattle.std.specs.Prelude.{◌≡◌, ℕ, Bool, List, ◌∷◌, ◌++◌, [], Option, Some, None, Result, Ok, Err}
use Rattle.outside.specs.Listed.{Schedule, after_call, after_fault}
use Rattle.regex_gate.specs.Found.{has_match, IsRefusable}
use Rattle.regex_gate.specs.Refusals.{Refusals, after_refusal}
use Rattle.regex_gate.specs.declared.finder.FindStop.{FindStop}
use Rattle.regex_gate.specs.declared.finder.FindStop.TheVariants.{Refused, NoMemory}

-- what a finder answers for a pattern and a text, and what it refused then: the answer is whether there is a match, and a refusal, and it alone, puts the pattern at the end of the log
abbrev pub Finds : (before now : Refusals) (pattern text : List ℕ) → Result Bool FindStop → Type 0
Finds before now pattern text (Ok is_found) = (has_match pattern text ≡ Some is_found) × (now ≡ before)
Finds before now pattern text (Err Refused) = now ≡ after_refusal before pattern
Finds before now pattern text (Err NoMemory) = now ≡ before

-- whether there is a match; or none is told, of a pattern that may be refused
abbrev pub IsSearched : List ℕ → List ℕ → Option Bool → Type 0
IsSearched pattern text (Some is_found) = has_match pattern text ≡ Some is_found
IsSearched pattern text None = IsRefusable pattern

-- a finder that refuses listed calls: its schedule, whose faults are its refusals, and its log
pub record ListedFinder : Type 0 where
  pub schedule : Schedule
  pub patterns : List (List ℕ)

-- what such a finder has refused
abbrev pub refusals_of : ListedFinder → Refusals
refusals_of finder = record { count = finder.schedule.faults; patterns = finder.patterns }

-- such a finder after a call: it counts every call, and a refusal as a fault
abbrev pub after_find : ListedFinder → List ℕ → Result Bool FindStop → ListedFinder
after_find finder pattern (Ok is_found) = record finder { schedule = after_call finder.schedule }
after_find finder pattern (Err Refused) = record { schedule = after_fault (after_call finder.schedule); patterns = finder.patterns ++ pattern ∷ [] }
after_find finder pattern (Err NoMemory) = record finder { schedule = after_call finder.schedule }
