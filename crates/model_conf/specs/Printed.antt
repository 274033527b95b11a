-- The text of a model as it is printed: its sections, with an empty line between two.
use Rattle.std.specs.Prelude.{ℕ, ◌-◌, if◌then◌else◌, List, [], ◌∷◌, ◌++◌, codes, map}
use Rattle.std.specs.List.{slice_index_or}
use Rattle.matcher_read.specs.Calls.{relation_names}
use Rattle.perm_base.specs.Fields.{joined}
use Rattle.text_parts.specs.Lines.{with_ends}
use Rattle.perm_base.specs.declared.shapes.RoleShape.{RoleShape}
use Rattle.model_conf.specs.Effects.{effect_text}
use Rattle.model_conf.specs.ModelText.{ModelParts}
use Rattle.model_conf.specs.Sections.{Entry, entry}

-- `key = value`
abbrev pub key_line : Entry → List ℕ
key_line e = e.key ++ (codes " = " ++ e.value)

-- `[name]`, and the lines of its keys
abbrev pub section_lines : List ℕ → List Entry → List (List ℕ)
section_lines name entries = (91 ∷ name ++ 93 ∷ []) ∷ map key_line entries

-- the key of a relation, and its shape
abbrev pub relation_entry : RoleShape → Entry
relation_entry shape = entry (slice_index_or relation_names (shape.number - 1) []) (if shape.with_domain then codes "_, _, _" else codes "_, _")

-- the relations, where there are some
abbrev pub role_lines : List RoleShape → List (List ℕ)
role_lines [] = []
role_lines (first ∷ others) = [] ∷ section_lines (codes "role_definition") (map relation_entry (first ∷ others))

-- the lines of a model
unfoldable pub printed_lines : ModelParts → List (List ℕ)
printed_lines model =
    section_lines (codes "request_definition") (entry (codes "r") (joined model.request) ∷ [])
    ++ ([] ∷ section_lines (codes "policy_definition") (entry (codes "p") (joined model.policy) ∷ []))
    ++ role_lines model.relations
    ++ ([] ∷ section_lines (codes "policy_effect") (entry (codes "e") (effect_text model.effect) ∷ []))
    ++ ([] ∷ section_lines (codes "matchers") (entry (codes "m") model.matcher_text ∷ []))

-- its text, with LF behind each line
abbrev pub printed : ModelParts → List ℕ
printed model = with_ends (printed_lines model)
