-- When two data are equal: the same kind and the same content.
use Rattle.std.specs.Prelude.{Bool, false, true, ◌&&◌, List}
use Rattle.std.specs.Bool.{beq}
use Rattle.std.specs.Ordering.{int_eq, on}
use Rattle.std.specs.Str.{bytes_eq}
use Rattle.perm_value.specs.Datum.{Datum, nothing, truth, whole, text, list, object, Items, no_items, item, Members, no_members, member}
use Rattle.perm_value.specs.Seen.{datum, datum_of_view, items}
use Rattle.perm_value.specs.declared.value.Value.{Value}
use Rattle.perm_value.specs.declared.value.View.{View}

-- texts by their bytes, lists by their items in order, objects by their names and data in order
abbrev mutual
  pub datum_eq : Datum → Datum → Bool
  datum_eq nothing nothing = true
  datum_eq (truth a) (truth b) = beq a b
  datum_eq (whole a) (whole b) = int_eq a b
  datum_eq (text a) (text b) = bytes_eq a b
  datum_eq (list a) (list b) = items_eq a b
  datum_eq (object a) (object b) = members_eq a b
  datum_eq _ _ = false

  pub items_eq : Items → Items → Bool
  items_eq no_items no_items = true
  items_eq (item a ds) (item b bs) = datum_eq a b && items_eq ds bs
  items_eq _ _ = false

  pub members_eq : Members → Members → Bool
  members_eq no_members no_members = true
  members_eq (member m a ds) (member n b bs) = bytes_eq m n && datum_eq a b && members_eq ds bs
  members_eq _ _ = false

-- the equality of views
abbrev pub view_eq : View → View → Bool
view_eq = on datum_of_view datum_eq

-- the equality of values
abbrev pub value_eq : Value → Value → Bool
value_eq = on datum datum_eq

-- the equality of requests: as many values, each equal to the other's at its place
abbrev pub request_eq : List Value → List Value → Bool
request_eq = on items items_eq
