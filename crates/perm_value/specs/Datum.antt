-- What a value of a request is. An object has each name once, and its names rise by bytes.
use Rattle.std.specs.Prelude.{ℕ, ℤ, List, [], ◌∷◌, Bool, ⊤}
use Rattle.std.specs.Cmp.Lexicographic.{slice_cmp}
use Rattle.std.specs.List.Sorted.{IsStrictlySortedBy}
use Rattle.std.specs.Ordering.{match_ordering, nat_cmp}

mutual
  pub data Datum : Type 0 where
    nothing : Datum
    truth : Bool → Datum
    whole : ℤ → Datum
    text : List ℕ → Datum
    list : Items → Datum
    object : Members → Datum

  pub data Items : Type 0 where
    no_items : Items
    item : Datum → Items → Items

  pub data Members : Type 0 where
    no_members : Members
    member : List ℕ → Datum → Members → Members

-- these values, as the items of a list
abbrev pub items_of : List Datum → Items
items_of [] = no_items
items_of (d ∷ ds) = item d (items_of ds)

-- the members with this datum at this name, which goes to its place in the order of names or in place of an equal one
abbrev pub put_member : List ℕ → Datum → Members → Members
put_member name d no_members = member name d no_members
put_member name d (member n e ms) = match_ordering (slice_cmp nat_cmp name n) (member name d (member n e ms)) (member name d ms) (member n e (put_member name d ms))

-- the names of the members, in order
abbrev pub names_of : Members → List (List ℕ)
names_of no_members = []
names_of (member name d ms) = name ∷ names_of ms

-- in each object of the datum, at every depth, the names differ and rise by bytes
abbrev mutual
  pub HasRisingNames : Datum → Type 0
  HasRisingNames nothing = ⊤
  HasRisingNames (truth b) = ⊤
  HasRisingNames (whole n) = ⊤
  HasRisingNames (text t) = ⊤
  HasRisingNames (list ds) = ItemsHaveRisingNames ds
  HasRisingNames (object ms) = IsStrictlySortedBy (slice_cmp nat_cmp) (names_of ms) × MembersHaveRisingNames ms

  pub ItemsHaveRisingNames : Items → Type 0
  ItemsHaveRisingNames no_items = ⊤
  ItemsHaveRisingNames (item d ds) = HasRisingNames d × ItemsHaveRisingNames ds

  pub MembersHaveRisingNames : Members → Type 0
  MembersHaveRisingNames no_members = ⊤
  MembersHaveRisingNames (member name d ms) = HasRisingNames d × MembersHaveRisingNames ms
