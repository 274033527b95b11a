-- An automaton that is kept for a pattern.
use Rattle.std.specs.Prelude.{◌≡◌, ℕ, ◌<◌, Bool, true, false, List, length, Option, Some, None, All, is_some}
use Rattle.regex_dfa.specs.Search.{end_from}
use Rattle.regex_dfa.specs.declared.dfa.Dfa.{Dfa}
use Rattle.regex_dfa.specs.declared.forward.End.{End}
use Rattle.regex_dfa.specs.declared.forward.End.TheVariants.{At, NoMatch, Idle, GaveUp}
use Rattle.regex_gate.specs.Found.{has_match}

-- the pattern has a match in bytes where the automaton comes to an end in them
abbrev pub IsDfaOf : List ℕ → Dfa → Type 0
IsDfaOf pattern dfa = (text : List ℕ) → All (λ b. b < 256) text → has_match pattern text ≡ Some (is_some (end_from dfa.nfa text (length text) dfa.nfa.unanchored 0))

-- whether a search that stops at the first match has met one; None where it gave up
abbrev pub answer_of : End → Option Bool
answer_of (At end) = Some true
answer_of NoMatch = Some false
answer_of (Idle next) = None
answer_of GaveUp = None
