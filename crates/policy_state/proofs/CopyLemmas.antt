-- Sections that are copied one after the other.
use Rattle.std.proofs.Common.{◌≡◌, ℕ, ◌+◌, ◌<◌, ◌≤◌, List, [], ◌∷◌, ◌++◌, length, map, get_or, take, refl, sym, ap, subst, ◌∙◌}
use Rattle.std.specs.Prelude.{All}
use Rattle.std.proofs.lemmas.List.{map-append, take_all, take_more}
use Rattle.std.proofs.lemmas.List.Elements.{All-nil, All-push}
use Rattle.perm_base.specs.declared.shapes.RoleShape.{RoleShape}
use Rattle.perm_base.specs.declared.shapes.Shapes.{Shapes}
use Rattle.perm_base.specs.declared.shapes.TableId.TheVariants.{G}
use Rattle.policy_state.specs.Helps.Kept.{AreSections, IsSectionIn, kept_of}
use Rattle.policy_table.specs.Tables.{Fields, Policy, rows}
use Rattle.role_domain.specs.Sections.{IsSectionOf, Section}

-- the first of these sections are copied: the copies keep the same, and are of whatever rows all are
pub record AreCopied (sections : List Section) (at : ℕ) (copies : List Section) : Type 0 where
  pub kept : map kept_of copies ≡ map kept_of (take at sections)
  pub each : (policy : Policy) → All (IsSectionIn policy) sections → All (IsSectionIn policy) copies

-- none is
pub none_copied : (sections copies : List Section) → copies ≡ [] → AreCopied sections 0 copies
none_copied sections copies none = subst (AreCopied sections 0) (sym none) (record { kept = refl; each = λ policy all. All-nil (IsSectionIn policy) })

one_copied : (sections copies : List Section) (at : ℕ) (one copy : Section) → at < length sections → one ≡ get_or sections at one → copy.shape ≡ one.shape → copy.limit ≡ one.limit → ((all : List Fields) → IsSectionOf one all → IsSectionOf copy all)
    → AreCopied sections at copies → AreCopied sections (at + 1) (copies ++ copy ∷ [])
one_copied sections copies at one copy within there shape limit is before = record {
  kept =
      map-append kept_of copies (copy ∷ [])
      ∙ (λ j. before.kept j ++ record { shape = shape j; limit = limit j } ∷ [])
      ∙ sym (map-append kept_of (take at sections) (one ∷ []))
      ∙ sym (ap (map kept_of) (take_more sections at one within ∙ ap (λ (s : Section). take at sections ++ s ∷ []) (sym there)));
  each = λ policy all.
      All-push (IsSectionIn policy) copies copy (before.each policy all)
      (subst (λ (s : RoleShape). IsSectionOf copy (rows policy (G s.number))) (sym shape)
      (is (rows policy (G one.shape.number)) (subst (IsSectionIn policy) (sym there) (all at one within))));
}

-- one more
pub copied_next : (sections copies after : List Section) (at : ℕ) (one copy : Section) → at < length sections → one ≡ get_or sections at one → copy.shape ≡ one.shape → copy.limit ≡ one.limit → ((all : List Fields) → IsSectionOf one all → IsSectionOf copy all)
    → after ≡ copies ++ copy ∷ [] → AreCopied sections at copies → AreCopied sections (at + 1) after
copied_next sections copies after at one copy within there shape limit is pushed before = subst (AreCopied sections (at + 1)) (sym pushed) (one_copied sections copies at one copy within there shape limit is before)

-- all of them
all_there : (sections copies : List Section) (at : ℕ) → length sections ≤ at → AreCopied sections at copies → (shapes : Shapes) (policy : Policy) → AreSections shapes policy sections → AreSections shapes policy copies
all_there sections copies at few are shapes policy all = record {
  kept = are.kept ∙ ap (map kept_of) (take_all at sections few) ∙ all.kept;
  each = are.each policy all.each;
}

pub all_copied : (sections items copies : List Section) (at : ℕ) → items ≡ sections → length items ≤ at → AreCopied items at copies → (shapes : Shapes) (policy : Policy) → AreSections shapes policy sections → AreSections shapes policy copies
all_copied sections items copies at same few are shapes policy all = all_there items copies at few are shapes policy (subst (AreSections shapes policy) (sym same) all)

-- the sections of copied tables
pub sections_again : (shapes same : Shapes) (policy after : Policy) (sections copies : List Section) → same ≡ shapes → after ≡ policy → ((s : Shapes) (p : Policy) → AreSections s p sections → AreSections s p copies) → AreSections shapes policy sections
    → AreSections same after copies
sections_again shapes same policy after sections copies shaped tabled copied are =
    subst (λ (s : Shapes). AreSections s after copies) (sym shaped) (subst (λ (p : Policy). AreSections shapes p copies) (sym tabled) (copied shapes policy are))
