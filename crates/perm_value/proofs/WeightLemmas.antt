-- A measure of data: what stands inside weighs less.
use Rattle.std.proofs.Common.{ℕ, zero, suc, ◌+◌, ◌<◌, List, [], ◌∷◌, ◌++◌, length, get_or, arith}
use Rattle.perm_value.specs.Datum.{Datum, nothing, truth, whole, text, list, object, Items, no_items, item, Members, no_members, member}
use Rattle.perm_value.specs.Seen.{datum, items}
use Rattle.perm_value.specs.declared.value.Value.{Value}
use Rattle.perm_value.proofs.MemberLemmas.{Named, listed}

abbrev mutual
  pub weight : Datum → ℕ
  weight nothing = 0
  weight (truth b) = 0
  weight (whole n) = 0
  weight (text t) = 0
  weight (list ds) = suc (items_weight ds)
  weight (object ms) = suc (members_weight ms)

  pub items_weight : Items → ℕ
  items_weight no_items = 0
  items_weight (item d ds) = suc (weight d + items_weight ds)

  pub members_weight : Members → ℕ
  members_weight no_members = 0
  members_weight (member n d ms) = suc (weight d + members_weight ms)

pub item_lighter : (vs : List Value) (i : ℕ) (v : Value) → i < length vs → weight (datum (get_or vs i v)) < items_weight (items vs)
item_lighter [] i v within = absurd (omega arith)
item_lighter (w ∷ vs) zero v within = omega arith
item_lighter (w ∷ vs) (suc i) v within = omega (arith, item_lighter vs i v (omega arith))

pub member_lighter : (done : List Named) (e : Named) (more : List Named) → weight (datum e.1) < members_weight (listed (done ++ e ∷ more))
member_lighter [] e more = omega arith
member_lighter (first ∷ done) e more = omega (arith, member_lighter done e more)
