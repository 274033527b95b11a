-- The sections of a model and their keys (Casbin, model syntax), and the first line that is out of order.
use Rattle.std.specs.Prelude.{ℕ, ◌&&◌, Bool, if◌then◌else◌, List, [], ◌∷◌, ◌++◌, codes, Option, Some, None}
use Rattle.std.specs.List.{list_any, filter_map}
use Rattle.std.specs.Option.{option_or}
use Rattle.std.specs.Str.{bytes_eq}
use Rattle.model_conf.specs.Statements.{LineContent, header, pair, nothing, Statement}
use Rattle.model_conf.specs.declared.fault.ModelFault.{ModelFault}
use Rattle.model_conf.specs.declared.fault.ModelFault.TheVariants as fault

-- the sections, each with its keys
abbrev pub sections : List (List ℕ × List (List ℕ))
sections =
    (codes "request_definition", codes "r" ∷ [])
    ∷ (codes "policy_definition", codes "p" ∷ [])
    ∷ (codes "role_definition", codes "g" ∷ codes "g2" ∷ codes "g3" ∷ codes "g4" ∷ codes "g5" ∷ codes "g6" ∷ codes "g7" ∷ codes "g8" ∷ [])
    ∷ (codes "policy_effect", codes "e" ∷ [])
    ∷ (codes "matchers", codes "m" ∷ [])
    ∷ []

-- it is the name of a section
unfoldable pub is_section : List ℕ → Bool
is_section name = list_any (λ (section : List ℕ × List (List ℕ)). bytes_eq name section.0) sections

-- the section of that name has the key
unfoldable pub has_key : List ℕ → List ℕ → Bool
has_key name key = list_any (λ (section : List ℕ × List (List ℕ)). bytes_eq name section.0 && list_any (bytes_eq key) section.1) sections

-- the name of a header
abbrev pub name_of : LineContent → Option (List ℕ)
name_of (header name) = Some name
name_of (pair key value) = None
name_of nothing = None

-- the section that stands open behind these lines: that of the last header
abbrev pub section_behind : List Statement → Option (List ℕ)
section_behind [] = None
section_behind (first ∷ others) = option_or (section_behind others) (name_of first.said)

-- a key and its value
pub record Entry : Type 0 where
  pub key : List ℕ
  pub value : List ℕ

abbrev pub entry : List ℕ → List ℕ → Entry
entry key value = record { key = key; value = value }

abbrev pub entry_of : LineContent → Option Entry
entry_of (pair key value) = Some (entry key value)
entry_of (header name) = None
entry_of nothing = None

-- the key lines
abbrev pub entries_of : List Statement → List Entry
entries_of statements = filter_map (λ (s : Statement). entry_of s.said) statements

-- one of the entries has this key
abbrev pub is_key_of : List Entry → List ℕ → Bool
is_key_of entries key = list_any (λ (e : Entry). bytes_eq e.key key) entries

-- the fault of a key line, behind these entries and in this section
abbrev pub key_fault : List Entry → Option (List ℕ) → ℕ → List ℕ → Option ModelFault
key_fault entries None number key = Some (fault.Line number)
key_fault entries (Some section) number key =
    if has_key section key then (if is_key_of entries key then Some (fault.RepeatedKey number) else None) else Some (fault.UnknownKey number)

-- the fault of a line that says this, behind these entries and in this section
abbrev pub said_fault : List Entry → Option (List ℕ) → ℕ → LineContent → Option ModelFault
said_fault entries section number (header name) = if is_section name then None else Some (fault.UnknownSection number)
said_fault entries section number (pair key value) = key_fault entries section number key
said_fault entries section number nothing = Some (fault.Line number)

-- the fault of a line behind others
abbrev pub fault_behind : List Statement → Statement → Option ModelFault
fault_behind before s = said_fault (entries_of before) (section_behind before) s.number s.said

-- the fault of the first line that has one, the lines standing behind others
abbrev pub first_fault : List Statement → List Statement → Option ModelFault
first_fault before [] = None
first_fault before (first ∷ others) = option_or (fault_behind before first) (first_fault (before ++ first ∷ []) others)
