-- What a row says to a matcher that compares columns, asks for a role at most once, and does nothing else.
use Rattle.std.specs.Prelude.{◌≡◌, ◌⊎◌, ℕ, Bool, true, false, List, [], map, Option, Some, None, IfSome, option_and_then, option_map, slice_get, unwrap_or}
use Rattle.std.specs.List.{list_all}
use Rattle.std.specs.Str.{bytes_eq}
use Rattle.perm_value.specs.Datum.{Datum}
use Rattle.policy_table.specs.Tables.{Fields}
use Rattle.matcher_meaning.specs.Calls.{text_of}
use Rattle.matcher_meaning.specs.Cases.{Case, IsLinkedBy}
use Rattle.decision.specs.Plans.{Asked, Pair}
use Rattle.decision.specs.Helps.FoundRows.{IsDomainOf, IsTextAt}
use Rattle.decision.specs.Helps.KeptPlans.{asked_seen, pair_seen, value_at}
use Rattle.decision.specs.declared.plain_parts.PlainParts.{PlainParts}
use Rattle.decision.specs.declared.plan.EqualColumns.{EqualColumns}

-- the field of a row at a place; one that it lacks is the empty text
abbrev pub field_at : Fields → ℕ → List ℕ
field_at fields at = unwrap_or (slice_get fields at) []

-- it is this text
abbrev pub is_text : Option (List ℕ) → List ℕ → Bool
is_text None text = false
is_text (Some own) text = bytes_eq own text

-- the request has in the one column of a pair the text that the row has in the other
abbrev pub has_same_text : List Datum → Fields → Pair → Bool
has_same_text values fields pair = is_text (option_and_then text_of (value_at values pair.request)) (field_at fields pair.policy)

-- in those of each pair
abbrev pub have_same_texts : List Datum → Fields → List EqualColumns → Bool
have_same_texts values fields pairs = list_all (λ (pair : EqualColumns). has_same_text values fields (pair_seen pair)) pairs

-- the name that is asked about has the role of the row, or has it not
abbrev pub IsLinkedAt : Case → Fields → Asked → Type 0
IsLinkedAt case fields is = (name : List ℕ) × IsTextAt case.request is.request name × (domain : Option (List ℕ)) × IsDomainOf case.request is.domain domain × IsLinkedBy case.shapes case.policy is.number name (field_at fields is.policy) domain

abbrev pub NotLinkedAt : Case → Fields → Asked → Type 0
NotLinkedAt case fields is = (name : List ℕ) × IsTextAt case.request is.request name × (domain : Option (List ℕ)) × IsDomainOf case.request is.domain domain × (IsLinkedBy case.shapes case.policy is.number name (field_at fields is.policy) domain → ⊥)

abbrev pub IsAnswered : Case → Fields → Option Asked → Bool → Type 0
IsAnswered case fields None true = Unit {0}
IsAnswered case fields None false = ⊥
IsAnswered case fields (Some is) true = IsLinkedAt case fields is
IsAnswered case fields (Some is) false = NotLinkedAt case fields is

-- the row has the texts of all pairs and the role, or it lacks one of these
abbrev pub IsToldBy : Case → Fields → PlainParts → Bool → Type 0
IsToldBy case fields parts true = (have_same_texts case.request fields parts.pairs.now ≡ true) × IsAnswered case fields (option_map asked_seen parts.question) true
IsToldBy case fields parts false = (have_same_texts case.request fields parts.pairs.now ≡ false) ⊎ IsAnswered case fields (option_map asked_seen parts.question) false
