-- The rule of the book, and what its steps tell.
use Rattle.std.specs.Prelude.{ℕ, ◌≡◌, ◌==◌, true, List, [], ◌∷◌, ◌++◌, length, MatchBool}
use Rattle.logbook.specs.Pages.{Cell, Step, View, Book, Named}
use Rattle.live_pair.specs.declared.edits.HistoryEvent.{HistoryEvent}

-- the first word is the length of the history
abbrev pub IsKept : List Cell → List HistoryEvent → Type 0
IsKept cells log = cells ≡ (length log, true) ∷ (0, true) ∷ []

abbrev pub head_of : Book → Named
head_of book = record { tracked = true; key = 0; book = book }

-- the event was added to all that had been seen; or the history was another
abbrev pub Adds : Step HistoryEvent → View HistoryEvent ℕ → ℕ → View HistoryEvent ℕ → Type 0
Adds step before found after = MatchBool (found == step.old) (after.0 ≡ before.0 ++ step.ask ∷ []) (Unit {0})
