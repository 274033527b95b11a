-- The attributes of a value: the members of an object, by name (Casbin, attributes of a request: `r.sub.Age`).
use Rattle.std.specs.Prelude.{◌≡◌, ◌⊎◌, ℕ, if◌then◌else◌, List, Option, Some, None}
use Rattle.std.specs.Str.{bytes_eq}
use Rattle.perm_value.specs.Datum.{Datum, nothing, truth, whole, text, list, object, Members, no_members, member}

-- the datum of the member with this name
abbrev pub member_of : Members → List ℕ → Option Datum
member_of no_members name = None
member_of (member n d ms) name = if bytes_eq name n then Some d else member_of ms name

-- the datum of the attribute with this name; None where the datum is no object or lacks the name
abbrev pub attribute : Datum → List ℕ → Option Datum
attribute nothing name = None
attribute (truth b) name = None
attribute (whole n) name = None
attribute (text t) name = None
attribute (list ds) name = None
attribute (object ms) name = member_of ms name

-- a member of these has this name and this datum
abbrev pub HasMember : Members → List ℕ → Datum → Type 0
HasMember no_members name d = ⊥
HasMember (member n e ms) name d = ((n ≡ name) × (e ≡ d)) ⊎ HasMember ms name d

-- the datum is an object, one of whose members has this name and this datum
abbrev pub HasAttribute : Datum → List ℕ → Datum → Type 0
HasAttribute nothing name d = ⊥
HasAttribute (truth b) name d = ⊥
HasAttribute (whole n) name d = ⊥
HasAttribute (text t) name d = ⊥
HasAttribute (list ds) name d = ⊥
HasAttribute (object ms) name d = HasMember ms name d
