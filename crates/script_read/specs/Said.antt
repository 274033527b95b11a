-- What items say. A request shows its data, or why the line is none.
use Rattle.std.specs.Prelude.{ℕ, Bool, true, false, List, map, Option, Ok, Err}
use Rattle.edit_calls.specs.declared.call.Call.{Call}
use Rattle.perm_base.specs.declared.shapes.TableId.{TableId}
use Rattle.perm_value.specs.Seen.{datum}
use Rattle.policy_table.specs.Tables.{Fields}
pub use Rattle.script_read.specs.Readings.{Reading}
use Rattle.script_read.specs.Readings.{request_read}
use Rattle.script_read.specs.declared.item.RequestLine.{RequestLine}
use Rattle.script_read.specs.declared.item.RequestLine.TheVariants.{Request, Refused}
use Rattle.script_read.specs.declared.item.RequestText.{RequestText}
use Rattle.script_read.specs.declared.item.Item.{Item}
use Rattle.script_read.specs.declared.item.Item.TheVariants as item

pub data Said : Type 0 where
  asks : Reading → Said
  edits : Call → Said
  publishes : Said
  syncs : Said
  has : TableId → Fields → Said
  rows : TableId → ℕ → Fields → Said
  roles : ℕ → List ℕ → Option (List ℕ) → Said
  users : ℕ → List ℕ → Option (List ℕ) → Said
  keeps : ℕ → Said
  recalls : ℕ → Said

-- what is seen of a request
abbrev pub reading : RequestLine → Reading
reading (Request values) = Ok (map datum values)
reading (Refused fault) = Err fault

-- what the text of a request is read as
abbrev pub reading_of : RequestText → Reading
reading_of text = request_read text.json text.line

-- what is seen of an item
abbrev pub seen : Item → Said
seen (item.Ask text) = asks (reading_of text)
seen (item.Edit call) = edits call
seen item.Publish = publishes
seen item.Sync = syncs
seen (item.Has table rule) = has table rule
seen (item.Rows table at values) = rows table at values
seen (item.Roles relation name domain) = roles relation name domain
seen (item.Users relation name domain) = users relation name domain
seen (item.Keep count) = keeps count
seen (item.History number) = recalls number

-- ---- kinds of items

abbrev pub is_request : Said → Bool
is_request (asks reading) = true
is_request _ = false

abbrev pub is_sync : Said → Bool
is_sync syncs = true
is_sync _ = false
