use Rattle.std.proofs.Common.{◌≡◌, Ok, length, map, take}
use Rattle.serde_json.specs.View.{items_view}
use Rattle.perm_value.specs.Json.{values_from}
use Rattle.perm_value.specs.Seen.{datum}
use Rattle.perm_value.proofs.json.member_values.Given as goal

abbrev pub invariant-loop-at : goal.invariant-loop-at
invariant-loop-at l = (values_from 1 (items_view (take l.at l.item-items)) ≡ Ok (map datum l.values.items)) × (length l.values.items ≡ l.at)
