-- The names of sections, keys and relations.
use Rattle.std.proofs.Common.{◌≡◌, ◌≢◌, ℕ, ◌++◌, Bor, ap, zero, suc, ◌-◌, ◌<◌, ◌≤◌, ◌||◌, Bool, true, false, List, [], ◌∷◌, codes, get_or, Option, Some, None, refl, sym, ◌∙◌, arith}
use Rattle.std.specs.Prelude.{position, MatchOption}
use Rattle.std.specs.List.{list_any}
use Rattle.std.specs.Str.{bytes_eq}
use Rattle.std.proofs.lemmas.List.Folds.{list_any_at}
use Rattle.std.proofs.lemmas.List.Quantifiers.{position-Some}
use Rattle.matcher_read.specs.Calls.{relation_names}
use Rattle.model_conf.specs.Sections.{has_key}
use Rattle.model_conf.specs.Helps.Steps.{section_text}
use Rattle.model_conf.specs.declared.sections.Section.{Section}
use Rattle.model_conf.specs.declared.sections.Section.TheVariants as section

or_none : (b : Bool) → (b || false) ≡ b
or_none true = refl
or_none false = refl

-- the keys of a section
abbrev pub keys_of : Section → List (List ℕ)
keys_of section.Request = codes "r" ∷ []
keys_of section.Policy = codes "p" ∷ []
keys_of section.Roles = relation_names
keys_of section.Effect = codes "e" ∷ []
keys_of section.Matchers = codes "m" ∷ []

pub has_key-keys : (s : Section) (key : List ℕ) → has_key (section_text s) key ≡ list_any (bytes_eq key) (keys_of s)
unfolding has_key
has_key-keys section.Request key = or_none (list_any (bytes_eq key) (keys_of section.Request))
has_key-keys section.Policy key = or_none (list_any (bytes_eq key) (keys_of section.Policy))
has_key-keys section.Roles key = or_none (list_any (bytes_eq key) (keys_of section.Roles))
has_key-keys section.Effect key = or_none (list_any (bytes_eq key) (keys_of section.Effect))
has_key-keys section.Matchers key = or_none (list_any (bytes_eq key) (keys_of section.Matchers))

-- the one key of a section
pub has_key-one : (s : Section) (key one : List ℕ) (found : Bool) → found ≡ bytes_eq key one → keys_of s ≡ one ∷ [] → found ≡ has_key (section_text s) key
has_key-one s key one found told is = told ∙ sym (has_key-keys s key ∙ ap (list_any (bytes_eq key)) is ∙ or_none (bytes_eq key one))

-- the place of a relation among the names
pub place_of_relation : (number : ℕ) → 0 < number → number ≤ 8 → position (bytes_eq (get_or relation_names (number - 1) [])) relation_names ≡ Some (number - 1)
place_of_relation zero some few = absurd (omega arith)
place_of_relation (suc zero) some few = refl
place_of_relation (suc (suc zero)) some few = refl
place_of_relation (suc (suc (suc zero))) some few = refl
place_of_relation (suc (suc (suc (suc zero)))) some few = refl
place_of_relation (suc (suc (suc (suc (suc zero))))) some few = refl
place_of_relation (suc (suc (suc (suc (suc (suc zero)))))) some few = refl
place_of_relation (suc (suc (suc (suc (suc (suc (suc zero))))))) some few = refl
place_of_relation (suc (suc (suc (suc (suc (suc (suc (suc zero)))))))) some few = refl
place_of_relation (suc (suc (suc (suc (suc (suc (suc (suc (suc number))))))))) some few = absurd (omega arith)

pub is_relation : (number : ℕ) → 0 < number → number ≤ 8 → list_any (bytes_eq (get_or relation_names (number - 1) [])) relation_names ≡ true
is_relation number some few =
    let written = bytes_eq (get_or relation_names (number - 1) []) in
    let found = position-Some written relation_names (number - 1) [] (place_of_relation number some few) in
    list_any_at written relation_names (number - 1) [] found.0 found.1

-- ---- headers

-- the name of a header stands before the `]` at its end
pub header_by : (text rest : List ℕ) (found : Option (Bor (List ℕ))) → text ≡ 91 ∷ rest → MatchOption found ((front : List ℕ) → rest ≢ front ++ 93 ∷ []) (λ (f : Bor (List ℕ)). rest ≡ f.now ++ 93 ∷ [])
    → MatchOption found ((name : List ℕ) → ¬ (text ≡ 91 ∷ name ++ 93 ∷ [])) (λ (name : Bor (List ℕ)). text ≡ 91 ∷ name.now ++ 93 ∷ [])
header_by text rest None is none = λ name e.
    let same : 91 ∷ rest ≡ 91 ∷ (name ++ 93 ∷ []) = sym is ∙ e in
    none name cc
header_by text rest (Some f) is e = is ∙ ap (λ (t : List ℕ). 91 ∷ t) e
