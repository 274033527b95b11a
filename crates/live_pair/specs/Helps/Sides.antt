-- What a copy stands for, and what is known of every beginning of the history.
use Rattle.std.specs.Prelude.{◌≡◌, ℕ, ◌≤◌, Bool, true, false, List, [], ◌∷◌, ◌++◌, length, fold, Option, Some, None}
use Rattle.live_pair.specs.Seats.{start_of, version_of}
use Rattle.live_pair.specs.Story.{edits_in, publishes, unpublished}
use Rattle.live_pair.specs.declared.edits.HistoryEvent.{HistoryEvent}
use Rattle.live_pair.specs.declared.edits.HistoryEvent.TheVariants.{Staged, Publish}
use Rattle.perm_base.specs.declared.shapes.Shapes.{Shapes}
use Rattle.edit_calls.specs.Admitted.{AreAdmitted}
use Rattle.policy_state.specs.States.{State, StandsFor}
use Rattle.policy_table.specs.Changes.{replay}
use Rattle.policy_table.specs.Tables.{Policy}
use Rattle.policy_table.specs.declared.change.Change.{Change}
use Rattle.version_log.specs.Log.{most_versions}

-- the last event
abbrev pub ending : List HistoryEvent → Option HistoryEvent
ending log = fold (λ _ event. Some event) None log

-- a history with the publish that its last edits wait for, where they do
abbrev pub closed_by : Option HistoryEvent → List HistoryEvent → List HistoryEvent
closed_by (Some (Staged edits)) log = log ++ Publish ∷ []
closed_by (Some Publish) log = log
closed_by None log = log

abbrev pub closed : List HistoryEvent → List HistoryEvent
closed log = closed_by (ending log) log

-- nothing was handed over since the last publish
abbrev pub is_published_by : Option HistoryEvent → Bool
is_published_by (Some (Staged edits)) = false
is_published_by (Some Publish) = true
is_published_by None = true

abbrev pub is_published : List HistoryEvent → Bool
is_published log = is_published_by (ending log)

-- where the log of a copy starts, by its publishes: where something was handed over since the last of them, at their version
abbrev pub start_by : Bool → List (List (List Change)) → ℕ
start_by true publishes = start_of publishes
start_by false publishes = version_of publishes

-- the edits that were handed over, in publishes or not
abbrev pub handed : List HistoryEvent → List (List Change)
handed [] = []
handed (Staged edits ∷ log) = edits ++ handed log
handed (Publish ∷ log) = handed log

-- all edits, those of the policy that was opened first
abbrev pub history : List (List Change) → List HistoryEvent → List (List Change)
history first log = first ++ handed log

-- each edit that was handed over is admitted in the tables before it, and there are no more than there may be
pub record AreGiven (shapes : Shapes) (opening : Policy) (first : List (List Change)) (log : List HistoryEvent) : Type 0 where
  pub admitted : AreAdmitted shapes (replay first opening) (handed log)
  pub few : length (history first log) ≤ most_versions

-- the numbers of a history
pub record AreCounted (first : List (List Change)) (log : List HistoryEvent) (entries parts waiting version : ℕ) : Type 0 where
  pub entries_are : entries ≡ length log
  pub parts_are : parts ≡ length (publishes first log)
  pub waiting_is : waiting ≡ length (unpublished first log)
  pub version_is : version ≡ length (edits_in (publishes first log))

-- a policy has these shapes, stands for all edits of a history, and keeps the last of them
pub record IsUpTo (shapes : Shapes) (opening : Policy) (first : List (List Change)) (log : List HistoryEvent) (state : State) : Type 0 where
  pub shapes_are : state.shapes ≡ shapes
  pub stands : StandsFor state opening (history first log)
  pub start : state.log.start ≡ start_by (is_published log) (publishes first log)
