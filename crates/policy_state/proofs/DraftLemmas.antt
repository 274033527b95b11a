-- Drafts of the sections of a policy, made ready and made one after the other.
use Rattle.std.proofs.Common.{add-one, ◌≡◌, ℕ, ◌+◌, ◌<◌, List, [], ◌∷◌, ◌++◌, length, map, take, drop, get_or, set, All, append-nil, refl, sym, ap, subst, ◌∙◌, arith, zero, suc}
use Rattle.std.proofs.lemmas.List.{drop-set-lt, take-append-drop}
use Rattle.std.proofs.lemmas.List.Elements.{All-nil, All-push}
use Rattle.perm_base.specs.declared.shapes.RoleShape.{RoleShape}
use Rattle.perm_base.specs.declared.shapes.TableId.TheVariants.{G}
use Rattle.policy_state.specs.Helps.Kept.{IsSectionIn, kept_of}
use Rattle.policy_state.specs.Ready.{CanLink}
use Rattle.policy_state.proofs.SectionLemmas.{AreTaking, front_set, kept_there, taking_set}
use Rattle.policy_table.specs.Changes.{edited, flat}
use Rattle.policy_table.specs.Tables.{Fields, Policy, rows}
use Rattle.policy_table.specs.declared.change.Change.{Change}
use Rattle.role_domain.specs.Sections.{Draft, Section, IsPreparedFor as CanBeLinked, IsSectionOf}

-- ---- one section after the other is made ready

pub record Prepares (edits : List (List Change)) (policy : Policy) (old sections : List Section) (at : ℕ) (drafts : List Draft) : Type 0 where
  pub taking : AreTaking edits policy old sections
  pub ready : CanLink (edited (flat edits) policy) (take at sections) drafts

-- one section and one draft more
linked_more : (after : Policy) (sections : List Section) (drafts : List Draft) (section : Section) (draft : Draft) → CanLink after sections drafts → CanBeLinked section (rows after (G section.shape.number)) draft
    → CanLink after (sections ++ section ∷ []) (drafts ++ draft ∷ [])
linked_more after [] [] section draft ready one = (one, tt)
linked_more after [] (d ∷ drafts) section draft ready one = absurd ready
linked_more after (s ∷ sections) [] section draft ready one = absurd ready
linked_more after (s ∷ sections) (d ∷ drafts) section draft ready one = (ready.0, linked_more after sections drafts section draft ready.1 one)

pub prepares_more : (edits : List (List Change)) (policy : Policy) (old sections : List Section) (at : ℕ) (drafts : List Draft) (here new : Section) (draft : Draft) → at < length sections → get_or sections at here ≡ here
    → Prepares edits policy old sections at drafts → new.shape ≡ here.shape → new.limit ≡ here.limit → ((all : List Fields) → IsSectionOf here all → IsSectionOf new all)
    → CanBeLinked new (rows (edited (flat edits) policy) (G here.shape.number)) draft → Prepares edits policy old (set sections at new) (at + 1) (drafts ++ draft ∷ [])
prepares_more edits policy old sections at drafts here new draft within is before shape limit stays ready = record {
  taking = taking_set edits policy old sections at here new within is shape limit stays before.taking;
  ready =
      subst (λ (l : List Section). CanLink (edited (flat edits) policy) l (drafts ++ draft ∷ [])) (sym (front_set sections at new within))
      (linked_more (edited (flat edits) policy) (take at sections) drafts new draft before.ready
      (subst (λ (s : RoleShape). CanBeLinked new (rows (edited (flat edits) policy) (G s.number)) draft) (sym shape) ready));
}

-- ---- one section after the other is made

-- what is ready for the first of the sections that are left can be made there
pub head_ready : (after : Policy) (sections : List Section) (at : ℕ) (here : Section) (draft : Draft) (drafts : List Draft) → CanLink after (drop at sections) (draft ∷ drafts)
    → CanBeLinked (get_or sections at here) (rows after (G (get_or sections at here).shape.number)) draft
head_ready after [] zero here draft drafts can = absurd can
head_ready after [] (suc at) here draft drafts can = absurd can
head_ready after (section ∷ sections) zero here draft drafts can = can.0
head_ready after (section ∷ sections) (suc at) here draft drafts can = head_ready after sections at here draft drafts can

-- there is one
pub head_within : (after : Policy) (sections : List Section) (at : ℕ) (draft : Draft) (drafts : List Draft) → CanLink after (drop at sections) (draft ∷ drafts) → at < length sections
head_within after [] zero draft drafts can = absurd can
head_within after [] (suc at) draft drafts can = absurd can
head_within after (section ∷ sections) zero draft drafts can = omega arith
head_within after (section ∷ sections) (suc at) draft drafts can = let less = head_within after sections at draft drafts can in omega (arith, less)

-- the others are ready for the others
rest_ready : (after : Policy) (sections : List Section) (at : ℕ) (draft : Draft) (drafts : List Draft) → CanLink after (drop at sections) (draft ∷ drafts) → CanLink after (drop (suc at) sections) drafts
rest_ready after [] zero draft drafts can = absurd can
rest_ready after [] (suc at) draft drafts can = absurd can
rest_ready after (section ∷ sections) zero draft drafts can = can.1
rest_ready after (section ∷ sections) (suc at) draft drafts can = rest_ready after sections at draft drafts can

-- where no draft is left, no section is
none_left : (after : Policy) (sections : List Section) → CanLink after sections [] → sections ≡ []
none_left after [] can = refl
none_left after (section ∷ sections) can = absurd can

pub record Commits (old : List Section) (whole : List Draft) (sections : List Section) (at : ℕ) (rest : List Draft) : Type 0 where
  pub kept : map kept_of sections ≡ map kept_of old
  pub some : (after : Policy) × CanLink after (drop at sections) rest
  pub made : (after : Policy) → CanLink after old whole → All (IsSectionIn after) (take at sections) × CanLink after (drop at sections) rest

pub commits_none : (old sections : List Section) (whole : List Draft) → sections ≡ old → (after : Policy) × CanLink after old whole → Commits old whole sections 0 whole
commits_none old sections whole same some =
    subst (λ (l : List Section). Commits old whole l 0 whole) (sym same) (record { kept = refl; some = some; made = λ after can. (All-nil (IsSectionIn after), can) })

pub commits_more : (old : List Section) (whole : List Draft) (sections : List Section) (at : ℕ) (here new : Section) (draft : Draft) (drafts : List Draft) → get_or sections at here ≡ here
    → new.shape ≡ here.shape → new.limit ≡ here.limit → ((all : List Fields) → CanBeLinked here all draft → IsSectionOf new all)
    → Commits old whole sections at (draft ∷ drafts) → Commits old whole (set sections at new) (at + 1) drafts
commits_more old whole sections at here new draft drafts is shape limit made before = record {
  kept = kept_there old sections at here new is shape limit before.kept;
  some = (before.some.0, left before.some.0 before.some.1);
  made = λ after can. (
    subst (All (IsSectionIn after)) (sym (front_set sections at new within)) (All-push (IsSectionIn after) (take at sections) new (before.made after can).0 (done after (before.made after can).1)),
    left after (before.made after can).1,
  );
}
  where
    within : at < length sections
    within = head_within before.some.0 sections at draft drafts before.some.1

    others : drop (at + 1) (set sections at new) ≡ drop (suc at) sections
    others = drop-set-lt (at + 1) sections at new (omega arith) ∙ ap (λ (n : ℕ). drop n sections) (add-one at)

    left : (after : Policy) → CanLink after (drop at sections) (draft ∷ drafts) → CanLink after (drop (at + 1) (set sections at new)) drafts
    left after can = subst (λ (l : List Section). CanLink after l drafts) (sym others) (rest_ready after sections at draft drafts can)

    done : (after : Policy) → CanLink after (drop at sections) (draft ∷ drafts) → IsSectionIn after new
    done after can =
        subst (λ (s : RoleShape). IsSectionOf new (rows after (G s.number))) (sym shape)
        (made _ (subst (λ (s : Section). CanBeLinked s (rows after (G s.shape.number)) draft) is (head_ready after sections at here draft drafts can)))

-- at the end all are made
pub commits_all : (old : List Section) (whole : List Draft) (sections : List Section) (at : ℕ) (after : Policy) → Commits old whole sections at [] → CanLink after old whole → All (IsSectionIn after) sections
commits_all old whole sections at after is can =
    let done = is.made after can in
    let end : sections ≡ take at sections ++ drop at sections = sym (take-append-drop at sections) in
    let all : take at sections ++ drop at sections ≡ take at sections = ap (λ (l : List Section). take at sections ++ l) (none_left after (drop at sections) done.1) ∙ append-nil (take at sections) in
    subst (All (IsSectionIn after)) (sym (end ∙ all)) done.0
