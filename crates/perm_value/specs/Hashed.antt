-- What a hasher is fed of data: a mark of the kind, and then the content; behind items and behind members a mark of their end.
use Rattle.std.specs.Prelude.{◌++◌}
use Rattle.std.specs.Hash as fed
use Rattle.perm_value.specs.Datum.{Datum, nothing, truth, whole, text, list, object, Items, no_items, item, Members, no_members, member}

abbrev mutual
  pub datum_fed : Datum → fed.HashWrites
  datum_fed nothing = fed.u8 0
  datum_fed (truth b) = fed.u8 1 ++ fed.bool b
  datum_fed (whole n) = fed.u8 2 ++ fed.i64 n
  datum_fed (text t) = fed.u8 3 ++ fed.str t
  datum_fed (list ds) = fed.u8 4 ++ items_fed ds
  datum_fed (object ms) = fed.u8 5 ++ members_fed ms

  pub items_fed : Items → fed.HashWrites
  items_fed no_items = fed.u8 6
  items_fed (item d ds) = datum_fed d ++ items_fed ds

  pub members_fed : Members → fed.HashWrites
  members_fed no_members = fed.u8 6
  members_fed (member name d ms) = fed.str name ++ (datum_fed d ++ members_fed ms)
