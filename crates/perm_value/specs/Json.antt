-- The request that a JSON value is. Whole numbers are those that the JSON reader gives as 64 bits; `null` is nothing.
use Rattle.std.specs.Prelude.{ℕ, ◌+◌, nat_le, nat_lt, if◌then◌else◌, List, [], ◌∷◌, Option, Some, None, ok_or, option_map, option_and_then, Result, Ok, Err}
use Rattle.serde_json.specs.Data as json
use Rattle.serde_json.specs.Find.{as_i64}
use Rattle.serde_json.specs.Events.{items_len}
use Rattle.perm_value.specs.Datum.{Datum, nothing, truth, whole, text, list, object, Items, no_items, item, Members, no_members, member}
use Rattle.perm_value.specs.declared.request.RequestFault.{RequestFault}
use Rattle.perm_value.specs.declared.request.RequestFault.TheVariants as fault

-- the datum of a JSON value; None where it holds a number that is not whole
abbrev mutual
  pub datum_of : json.Data → Option Datum
  datum_of json.null = Some nothing
  datum_of (json.boolean b) = Some (truth b)
  datum_of (json.number n) = option_map whole (as_i64 n)
  datum_of (json.string s) = Some (text s)
  datum_of (json.array js) = option_map list (items_of_json js)
  datum_of (json.object ms) = option_map object (members_of_json ms)

  pub items_of_json : json.Items → Option Items
  items_of_json json.no_items = Some no_items
  items_of_json (json.item j js) = option_and_then (λ d. option_map (item d) (items_of_json js)) (datum_of j)

  pub members_of_json : json.Members → Option Members
  members_of_json json.no_members = Some no_members
  members_of_json (json.member k j ms) = option_and_then (λ d. option_map (member k d) (members_of_json ms)) (datum_of j)

-- how many values a request has at most
abbrev pub most_values : ℕ
most_values = 34

-- how deep a value of a request nests at most; the array around it is one level more
abbrev pub most_levels : ℕ
most_levels = 15

-- the datum of the member at a place, counted from 1, or its fault
abbrev pub member_value : ℕ → json.Data → Result Datum RequestFault
member_value field j = if nat_le (json.depth j) most_levels then ok_or (datum_of j) (fault.NotWhole field) else Err (fault.TooDeep field)

-- a first answer and those behind it: the first fault counts
abbrev pub onto_answers : Result Datum RequestFault → Result (List Datum) RequestFault → Result (List Datum) RequestFault
onto_answers (Err e) later = Err e
onto_answers (Ok d) (Err e) = Err e
onto_answers (Ok d) (Ok ds) = Ok (d ∷ ds)

-- the data of these members, the first of which stands at a place, or the first fault
abbrev pub values_from : ℕ → json.Items → Result (List Datum) RequestFault
values_from field json.no_items = Ok []
values_from field (json.item j js) = onto_answers (member_value field j) (values_from (field + 1) js)

-- the data of the members of an array, or why they are no request
abbrev pub values_of_items : json.Items → Result (List Datum) RequestFault
values_of_items js = if nat_lt most_values (items_len js) then Err fault.TooMany else values_from 1 js

-- the data of an array's members; nothing else is a request
abbrev pub values_of_data : json.Data → Result (List Datum) RequestFault
values_of_data (json.array js) = values_of_items js
values_of_data json.null = Err fault.NotAnArray
values_of_data (json.boolean b) = Err fault.NotAnArray
values_of_data (json.number n) = Err fault.NotAnArray
values_of_data (json.string s) = Err fault.NotAnArray
values_of_data (json.object ms) = Err fault.NotAnArray

-- the values of the request that a text is, where the reader gives this for it, or its fault
abbrev pub values_of : Option json.Data → Result (List Datum) RequestFault
values_of None = Err fault.Syntax
values_of (Some j) = values_of_data j
