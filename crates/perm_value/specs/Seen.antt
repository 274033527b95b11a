-- The data that values and their views stand for.
use Rattle.std.specs.Prelude.{List, [], ◌∷◌, map, String, string_bytes}
use Rattle.std.specs.declared.alloc.Global.{Global}
use Rattle.perm_value.specs.Datum.{Datum, nothing, truth, whole, text, list, object, Items, items_of, Members, no_members, put_member}
use Rattle.perm_value.specs.declared.value.Value.{Value, fold-Value}
use Rattle.perm_value.specs.declared.value.Value.TheOpen.{Value-F}
use Rattle.perm_value.specs.declared.value.View.{View}
use Rattle.perm_value.specs.declared.value.View.TheVariants as view

-- these names and data, as the members of an object: each at its name's place
abbrev pub members_of : List (String Global × Datum) → Members
members_of [] = no_members
members_of (m ∷ ms) = put_member (string_bytes m.0) m.1 (members_of ms)

-- one level, with each value inside already seen as its datum
abbrev pub datum_step : Value-F Datum → Datum
datum_step (Value-F.Text t) = text t
datum_step (Value-F.Whole n) = whole n
datum_step (Value-F.Truth b) = truth b
datum_step (Value-F.List v) = list (items_of v.items)
datum_step (Value-F.Object m) = object (members_of m.entries)
datum_step Value-F.Nothing = nothing

-- the datum of a value
abbrev pub datum : Value → Datum
datum = fold-Value Datum datum_step

-- the items of a list of these values
abbrev pub items : List Value → Items
items vs = items_of (map datum vs)

-- the members of an object of these names and values
abbrev pub members : List (String Global × Value) → Members
members es = members_of (map (λ e. (e.0, datum e.1)) es)

-- the datum of borrowed parts
abbrev pub datum_of_view : View → Datum
datum_of_view (view.Text t) = text t.now
datum_of_view (view.Whole n) = whole n
datum_of_view (view.Truth b) = truth b
datum_of_view (view.List v) = list (items v.now)
datum_of_view (view.Object m) = object (members m.now.entries)
datum_of_view view.Nothing = nothing
