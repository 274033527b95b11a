-- Items of a script that stand one behind the other.
use Rattle.std.specs.Prelude.{◌≡◌, List, length}
use Rattle.live_rounds.specs.Requests.{requests}
use Rattle.live_rounds.specs.declared.stretch.Stretch.{Stretch}
use Rattle.script_read.specs.ItemLines.{said}
use Rattle.script_read.specs.Said.{Said}

-- what they say
abbrev pub items_of : Stretch → List Said
items_of stretch = said stretch.items

-- their numbers are those of what they say
pub record IsCounted (stretch : Stretch) : Type 0 where
  pub count : stretch.count ≡ length (items_of stretch)
  pub requests : stretch.requests ≡ length (requests (items_of stretch))
