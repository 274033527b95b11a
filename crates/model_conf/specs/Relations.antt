-- Role relations `g`, `g2` to `g8`, and their shapes `_, _` and `_, _, _` (Casbin, role definitions).
use Rattle.std.specs.Prelude.{ℕ, ◌+◌, Bool, true, false, if◌then◌else◌, List, [], ◌∷◌, codes, Option, Some, None, find, position, option_map, option_and_then}
use Rattle.std.specs.Option.{option_or}
use Rattle.std.specs.Str.{bytes_eq}
use Rattle.matcher_read.specs.Calls.{relation_names}
use Rattle.perm_base.specs.declared.shapes.Fit.TheVariants.{Exact}
use Rattle.perm_base.specs.declared.shapes.RoleShape.{RoleShape}
use Rattle.model_conf.specs.Sections.{Entry}

-- the value of a key, if it has one
abbrev pub value_of : List Entry → List ℕ → Option (List ℕ)
value_of entries key = option_map (λ (e : Entry). e.value) (find (λ (e : Entry). bytes_eq e.key key) entries)

-- whether rules have a domain behind the two names, by the text of a shape
unfoldable pub with_domain_of : List ℕ → Option Bool
with_domain_of text = if bytes_eq text (codes "_, _") then Some false else (if bytes_eq text (codes "_, _, _") then Some true else None)

-- the relation of that number, its texts being compared byte by byte
abbrev pub shape : ℕ → Bool → RoleShape
shape number with_domain = record { number = number; with_domain = with_domain; names = Exact; domains = Exact }

-- a relation, where it is declared, before others
abbrev pub with_relation : ℕ → Option Bool → List RoleShape → List RoleShape
with_relation number None others = others
with_relation number (Some with_domain) others = shape number with_domain ∷ others

-- the relations of these keys, numbered from here on, that are declared
abbrev pub relations_from : List Entry → ℕ → List (List ℕ) → List RoleShape
relations_from entries number [] = []
relations_from entries number (name ∷ names) = with_relation number (option_and_then with_domain_of (value_of entries name)) (relations_from entries (number + 1) names)

-- the declared relations, by rising number
unfoldable pub relations_of : List Entry → List RoleShape
relations_of entries = relations_from entries 1 relation_names

-- the number of a relation whose shape is none
abbrev pub bad_shape : Option ℕ → Option Bool → Option ℕ
bad_shape None shape = None
bad_shape (Some place) (Some with_domain) = None
bad_shape (Some place) None = Some (place + 1)

abbrev pub bad_shape_of : Entry → Option ℕ
bad_shape_of e = bad_shape (position (bytes_eq e.key) relation_names) (with_domain_of e.value)

-- the first in the text
unfoldable pub first_bad_shape : List Entry → Option ℕ
first_bad_shape [] = None
first_bad_shape (first ∷ others) = option_or (bad_shape_of first) (first_bad_shape others)
