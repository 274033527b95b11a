-- A section that may have ended.
use Rattle.std.specs.Prelude.{◌≡◌, ℕ, Bool, List, [], ◌++◌, Option}
use Rattle.item_stream.specs.Sections.{Section, listed}
use Rattle.model_conf.specs.ModelText.{ModelParts}
use Rattle.regex_gate.specs.Refusals.{Refusals}
use Rattle.run_status.specs.declared.stop.Stop.{Stop}
use Rattle.live_serve.specs.Sayings.{AllSay, Saying}
use Rattle.live_serve.specs.Places.{Place, Standing}
use Rattle.live_serve.specs.Served.{Halts, Pushed}

-- what the section says, where there is one, was answered
pub record TakesEnded (json follow : Bool) (model : ModelParts) (before now : Refusals) (old new : Standing) (ended : Option Section) (out out_now : Option (List ℕ)) : Type 0 where
  pub sayings : List Saying
  pub say : AllSay json follow (listed ended []) sayings
  pub pushed : Pushed model before now old new out out_now sayings

-- it was not: of what the first of these sections say, which are that one or none
pub record LeavesEnded (json follow : Bool) (model : ModelParts) (old : Standing) (ended : Option Section) (out out_now : Option (List ℕ)) (out_rose : Type 0) (stop : Stop) : Type 0 where
  pub sections : List Section
  pub others : List Section
  pub parts : listed ended [] ≡ sections ++ others
  pub sayings : List Saying
  pub say : AllSay json follow sections sayings
  pub halts : Halts model old out out_now out_rose stop sayings

-- before the first item
abbrev pub at_first : Place → Standing
at_first place = record { place = place; number = 0 }
