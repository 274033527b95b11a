-- Domains and sections that are copied.
use Rattle.std.proofs.Common.{◌≡◌, ◌<◌, ◌≤◌, ◌+◌, ℕ, zero, suc, List, [], ◌∷◌, Option, None, Some, length, slice_get, take, refl, sym, ap, subst, ◌∙◌, arith}
use Rattle.std.specs.List.{IsDistinct}
use Rattle.std.specs.Map.{keys_of, lookup}
use Rattle.std.specs.Option.{option_map}
use Rattle.std.specs.Str.{bytes_eq}
use Rattle.std.proofs.lemmas.List.{length-map}
use Rattle.std.proofs.lemmas.Map.Made.{lookup-map_values}
use Rattle.std.proofs.lemmas.Option.{same_Some}
use Rattle.indexmap.specs.IndexMap.{insert_entry}
use Rattle.perm_base.specs.declared.shapes.RoleShape.{RoleShape}
use Rattle.policy_table.specs.Tables.{Fields}
use Rattle.role_graph.specs.Groups.{times}
use Rattle.role_graph.proofs.CopyLemmas.{copied_all, copied_next, key_text, seen}
use Rattle.role_domain.specs.Domains.{AreDomains, Domains, IsDomain, IsRight, found}
use Rattle.role_domain.specs.Helps.Copies.{Content, content_of, contents_of}
use Rattle.role_domain.specs.Relations.{Relation}
use Rattle.role_domain.specs.Sections.{IsSectionOf, Section, relation_of}
use Rattle.role_domain.specs.declared.domain.Domain.{Domain}

-- ---- domains that are copied one after the other

contents_there : (entries : List (List ℕ × Domain)) (at : ℕ) (text : List ℕ) (domain : Domain) → slice_get entries at ≡ Some (text, domain) → slice_get (contents_of entries) at ≡ Some (text, content_of domain)
contents_there [] at text domain is = absurd cc
contents_there (entry ∷ entries) zero text domain is = ap (option_map (λ (e : List ℕ × Domain). (e.0, content_of e.1))) is
contents_there (entry ∷ entries) (suc at) text domain is = contents_there entries at text domain is

contents_keys : (entries : List (List ℕ × Domain)) → keys_of (contents_of entries) ≡ keys_of entries
contents_keys [] = refl
contents_keys (entry ∷ entries) = ap (λ (l : List (List ℕ)). entry.0 ∷ l) (contents_keys entries)

pub domain_next : (entries : List (List ℕ × Domain)) (old new : List (List ℕ × Domain)) (at : ℕ) (key : List ℕ) (text : List ℕ) (domain copy : Domain) → IsDistinct bytes_eq (keys_of entries) → at < length entries
    → slice_get entries at ≡ Some (text, domain) → key ≡ text → content_of copy ≡ content_of domain → seen key_text content_of old ≡ take at (contents_of entries)
    → new ≡ insert_entry (λ (a b : List ℕ). bytes_eq a b) old key copy → seen key_text content_of new ≡ take (at + 1) (contents_of entries)
domain_next entries old new at key text domain copy distinct within here named same so_far inserted =
    copied_next key_text content_of (contents_of entries) old new at key copy text (content_of domain) (subst (IsDistinct bytes_eq) (sym (contents_keys entries)) distinct)
    (omega (arith, within, length-map {B = List ℕ × Content} entries (λ (e : List ℕ × Domain). (e.0, content_of e.1)))) (contents_there entries at text domain here) named same so_far inserted

seen_contents : (entries : List (List ℕ × Domain)) → contents_of entries ≡ seen key_text content_of entries
seen_contents [] = refl
seen_contents (entry ∷ entries) = ap (λ (l : List (List ℕ × Content)). (entry.0, content_of entry.1) ∷ l) (seen_contents entries)

pub domains_all : (entries : List (List ℕ × Domain)) (new : List (List ℕ × Domain)) (at : ℕ) → length entries ≤ at → seen key_text content_of new ≡ take at (contents_of entries) → contents_of new ≡ contents_of entries
domains_all entries new at few so_far =
    seen_contents new ∙ copied_all (contents_of entries) (seen key_text content_of new) at (omega (arith, few, length-map {B = List ℕ × Content} entries (λ (e : List ℕ × Domain). (e.0, content_of e.1)))) so_far

-- ---- a section of them

domain_copied : (relation : Relation) (text : List ℕ) (domain copy : Domain) → content_of copy ≡ content_of domain → IsDomain relation text domain → IsDomain relation text copy
domain_copied relation text domain copy same is = record {
  own = ap (λ (c : Content). c.own) same ∙ is.own;
  some = subst (λ (c : Content). 0 < c.own) (sym same) is.some;
  names = ap (λ (c : Content). c.names) same ∙ is.names;
  limited = ap (λ (c : Content). c.limit) same ∙ is.limited;
  rows = λ test tells one. ap (λ (c : Content). times one c.rows) same ∙ is.rows test tells one;
}

right_copied : (relation : Relation) (text : List ℕ) (there copy : Option Domain) → option_map content_of copy ≡ option_map content_of there → IsRight relation text there → IsRight relation text copy
right_copied relation text None None same right = right
right_copied relation text None (Some copy) same right = absurd cc
right_copied relation text (Some domain) None same right = absurd cc
right_copied relation text (Some domain) (Some copy) same right = domain_copied relation text domain copy (same_Some (content_of copy) (content_of domain) same) right

domains_copied : (relation : Relation) (old new : List (List ℕ × Domain)) → contents_of new ≡ contents_of old → AreDomains relation old → AreDomains relation new
domains_copied relation old new same are = record {
  right = λ text.
      right_copied relation text (found old text) (found new text)
      (sym (lookup-map_values content_of (bytes_eq text) new) ∙ ap (lookup (bytes_eq text)) same ∙ lookup-map_values content_of (bytes_eq text) old) (are.right text);
}

abbrev made : RoleShape → ℕ → Domains → List Fields → Section
made shape limit domains patterns = record { shape = shape; limit = limit; domains = domains; patterns = patterns }

contents_copied : (shape : RoleShape) (limit : ℕ) (old new : Domains) (patterns all : List Fields) → contents_of new.entries ≡ contents_of old.entries → IsSectionOf (made shape limit old patterns) all → IsSectionOf (made shape limit new patterns) all
contents_copied shape limit old new patterns all same is = record {
  columns = is.columns;
  few = is.few;
  domains = domains_copied (relation_of (made shape limit old patterns) all) old.entries new.entries same is.domains;
  patterns = is.patterns;
}

pub section_copied : (section copy : Section) (all : List Fields) → copy.shape ≡ section.shape → copy.limit ≡ section.limit → contents_of copy.domains.entries ≡ contents_of section.domains.entries → copy.patterns ≡ section.patterns
    → IsSectionOf section all → IsSectionOf copy all
section_copied section copy all shape limit domains patterns is =
    subst (λ (s : RoleShape). IsSectionOf (made s copy.limit copy.domains copy.patterns) all) (sym shape)
    (subst (λ (n : ℕ). IsSectionOf (made section.shape n copy.domains copy.patterns) all) (sym limit)
    (subst (λ (l : List Fields). IsSectionOf (made section.shape section.limit copy.domains l) all) (sym patterns)
    (contents_copied section.shape section.limit section.domains copy.domains section.patterns all domains is)))
