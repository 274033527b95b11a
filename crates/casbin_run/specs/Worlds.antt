-- What is seen of the outside at one moment.
use Rattle.std.specs.Prelude.{ℕ, List, Option}
use Rattle.outside.specs.Faults.{Rose}
use Rattle.outside.specs.declared.fetch_log.FetchCall.{FetchCall}
use Rattle.loaded_work.specs.Sinks.{Taken}
use Rattle.regex_gate.specs.Refusals.{Refusals}

-- what a shelf was asked for, where it tells it, and how often it has failed
pub record Fetched : Type 0 where
  pub calls : Option (List FetchCall)
  pub faults : ℕ

abbrev pub fetched : Option (List FetchCall) → ℕ → Fetched
fetched calls faults = record { calls = calls; faults = faults }

-- what is left of an input and how often it has said that it is at its end, where it tells them, and how often it has failed
pub record Pulled : Type 0 where
  pub left : Option (List ℕ)
  pub ends : Option ℕ
  pub faults : ℕ

abbrev pub pulled : Option (List ℕ) → Option ℕ → ℕ → Pulled
pulled left ends faults = record { left = left; ends = ends; faults = faults }

-- the shelf, the input, `out`, and what the finders have refused
pub record World : Type 0 where
  pub shelf : Fetched
  pub input : Pulled
  pub out : Taken
  pub finders : List Refusals

abbrev pub world : Fetched → Pulled → Taken → List Refusals → World
world shelf input out finders = record { shelf = shelf; input = input; out = out; finders = finders }

-- the shelf, the input or `out` has failed
abbrev pub ShelfRose : World → World → Type 0
ShelfRose before now = Rose before.shelf.faults now.shelf.faults

abbrev pub InputRose : World → World → Type 0
InputRose before now = Rose before.input.faults now.input.faults

abbrev pub OutRose : World → World → Type 0
OutRose before now = Rose before.out.faults now.out.faults
