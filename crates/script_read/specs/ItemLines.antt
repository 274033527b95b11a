-- Items of a script as they stand in its text, and the first of them as it is taken off.
use Rattle.std.specs.Prelude.{◌≡◌, ℕ, Bool, true, false, List, [], ◌∷◌, ◌++◌, length, take, Option, Some, None, Result, Ok, Err}
use Rattle.std.specs.List.{list_all}
use Rattle.script_read.specs.Blocks.{Part, part_item, parts}
use Rattle.script_read.specs.Helps.Given.{fields_read}
use Rattle.script_read.specs.Named.{is_named}
use Rattle.script_read.specs.Readings.{request_read}
use Rattle.script_read.specs.Said.{Said, asks, is_request, is_sync, seen}
use Rattle.script_read.specs.declared.fault.ScriptFault.{ScriptFault}
use Rattle.script_read.specs.declared.said_lines.BuiltItem.{BuiltItem}
use Rattle.script_read.specs.declared.said_lines.BuiltItem.TheVariants as built
use Rattle.script_read.specs.declared.said_lines.FirstItem.{FirstItem}
use Rattle.script_read.specs.declared.said_lines.FirstItem.TheVariants as first
use Rattle.text_parts.specs.Full.{full_lines}

-- ---- what lines say

-- the lines of a text, numbered from a number on, of whose items so many are meant, or all
pub record ScriptLines : Type 0 where
  pub json : Bool
  pub number : ℕ
  pub text : List ℕ
  pub most : Option ℕ

-- an item in front of others, where there is one
abbrev pub onto_items : Result Said ScriptFault → List Said → List Said
onto_items (Ok item) items = item ∷ items
onto_items (Err fault) items = []

-- what parts say, up to the first that is at fault
unfoldable pub items_in : Bool → List Part → List Said
items_in json [] = []
items_in json (part ∷ others) = onto_items (part_item fields_read (request_read json) part) (items_in json others)

-- what the lines of a text say, numbered from here on
abbrev pub items_from : Bool → ℕ → List ℕ → List Said
items_from json number text = items_in json (parts (full_lines number text))

-- so many of the first items, or all
abbrev pub up_to : Option ℕ → List Said → List Said
up_to None items = items
up_to (Some count) items = take count items

-- the items that are meant
unfoldable pub said : ScriptLines → List Said
said lines = up_to lines.most (items_from lines.json lines.number lines.text)

-- ---- the first item

-- what is told of an item that is not built
abbrev pub IsToldAs : FirstItem → Said → Type 0
IsToldAs (first.Request asked) item = item ≡ asks (request_read asked.json asked.line.now)
IsToldAs first.Sync item = is_sync item ≡ true
IsToldAs first.Other item = (is_request item ≡ false) × (is_sync item ≡ false)

-- what is told of one that is built where it is no request
abbrev pub IsBuiltAs : BuiltItem → Said → Type 0
IsBuiltAs (built.Request asked) item = item ≡ asks (request_read asked.json asked.line.now)
IsBuiltAs (built.Other it) item = (item ≡ seen it) × (is_request item ≡ false) × (is_named item ≡ true)

-- the first of some items, of which that holds, is taken off
pub record IsTakenOff (Holds : Said → Type 0) (old new : List Said) : Type 0 where
  pub item : Said
  pub parts : old ≡ item ∷ new
  pub holds : Holds item

-- so many requests that stand in front of others are taken off
pub record ArePassed (count : ℕ) (old new : List Said) : Type 0 where
  pub passed : List Said
  pub parts : old ≡ passed ++ new
  pub asked : list_all is_request passed ≡ true
  pub long : length passed ≡ count
