-- The life of a pair in the core of live edits (the crate `live_meaning`), whose lists of events tell what was done behind the opening.
use Rattle.std.specs.Prelude.{◌≡◌, List, [], ◌∷◌, ◌++◌, fold}
use Rattle.live_meaning.specs.declared.events.Event.{Event}
use Rattle.live_meaning.specs.declared.events.Event.TheVariants.{Edit, Publish}
use Rattle.live_pair.specs.Admins.{AdminSeen}
use Rattle.live_pair.specs.Story.{Story}
use Rattle.policy_table.specs.declared.change.Change.{Change}

-- what one event of the core makes of publishes and of edits that are in none
abbrev pub lived : Story → Event → Story
lived story (Edit edit) = record story { rest = story.rest ++ edit ∷ [] }
lived story Publish = record { done = story.done ++ story.rest ∷ []; rest = [] }
lived story _ = story

-- what events of the core come to behind an opening
abbrev pub life : List (List Change) → List Event → Story
life first events = fold lived (record { done = first ∷ []; rest = [] }) events

-- the published history behind events of the core
abbrev pub published : List (List Change) → List Event → List (List (List Change))
published first events = (life first events).done

-- the administrator stands where these events of the core lead
pub record HasLived (first : List (List Change)) (events : List Event) (admin : AdminSeen) : Type 0 where
  pub list : admin.list ≡ published first events
  pub pending : admin.desk.pending ≡ (life first events).rest
