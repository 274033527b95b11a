-- The history of a pair: edits that were handed over, and publishes; and what it comes to.
use Rattle.std.specs.Prelude.{List, [], ◌∷◌, ◌++◌, fold}
use Rattle.policy_table.specs.declared.change.Change.{Change}
use Rattle.live_pair.specs.declared.edits.HistoryEvent.{HistoryEvent}
use Rattle.live_pair.specs.declared.edits.HistoryEvent.TheVariants.{Staged, Publish}

-- whole publishes, each a list of edits, and the edits that are in none yet
pub record Story : Type 0 where
  pub done : List (List (List Change))
  pub rest : List (List Change)

-- what one event more makes of it: a publish takes all edits that are in none yet
abbrev pub told : Story → HistoryEvent → Story
told story (Staged edits) = record story { rest = story.rest ++ edits }
told story Publish = record { done = story.done ++ story.rest ∷ []; rest = [] }

-- what a history comes to behind an opening; the edits of the policy that was opened count as the first publish
abbrev pub story : List (List Change) → List HistoryEvent → Story
story first log = fold told (record { done = first ∷ []; rest = [] }) log

-- its publishes
abbrev pub publishes : List (List Change) → List HistoryEvent → List (List (List Change))
publishes first log = (story first log).done

-- its edits that are in no publish yet
abbrev pub unpublished : List (List Change) → List HistoryEvent → List (List Change)
unpublished first log = (story first log).rest

-- the edits of publishes, one after the other
abbrev pub edits_in : List (List (List Change)) → List (List Change)
edits_in [] = []
edits_in (publish ∷ publishes) = publish ++ edits_in publishes
