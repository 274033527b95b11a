-- The sections of a policy: what is asked of their edits, and what these make of them.
use Rattle.std.proofs.Common.{◌≡◌, ℕ, ◌+◌, ◌<◌, ◌≤◌, Bool, true, false, cond, eqb, List, [], ◌∷◌, ◌++◌, length, map, take, get_or, set, add-one, All, Option, Some, None, refl, sym, ap, subst, ◌∙◌, arith, true≢false}
use Rattle.std.specs.Prelude.{IsSome, find, option_map}
use Rattle.std.specs.Option.{option_map_or}
use Rattle.std.proofs.Math.Seq.{map-set_same, take-suc-set}
use Rattle.std.proofs.lemmas.List.{get_or-map, length-map, map-append}
use Rattle.std.proofs.lemmas.List.Elements.{All-head, All-push, All-set, All-tail, All-weaker}
use Rattle.std.proofs.lemmas.Option.{same_Some}
use Rattle.perm_base.specs.RoleShapes.{AreRoles, shape_of}
use Rattle.perm_base.specs.declared.shapes.RoleShape.{RoleShape}
use Rattle.perm_base.specs.declared.shapes.Shapes.{Shapes}
use Rattle.perm_base.specs.declared.shapes.TableId.TheVariants.{G}
use Rattle.perm_base.proofs.CallerLemmas.{found_number}
use Rattle.edit_calls.specs.Admitted.{AreAdmitted}
use Rattle.policy_state.specs.Helps.Kept.{AreSections, AreSectionsOf, CanTake, IsSectionIn, Kept, kept_by, kept_of}
use Rattle.policy_state.proofs.AdmittedLemmas.{KeepSound, all_fitting, all_have_columns, all_sound}
use Rattle.policy_state.proofs.RoleLemmas.{few_patterns_of, found_itself}
use Rattle.policy_table.specs.Changes.{edited, flat, own}
use Rattle.policy_table.specs.Limits.{AreSound, columns_of, role_columns}
use Rattle.policy_table.specs.Tables.{Fields, Policy, rows}
use Rattle.policy_table.specs.declared.change.Change.{Change}
use Rattle.policy_table.proofs.CallerLemmas.{few_of_relation, few_rows}
use Rattle.role_domain.specs.Relations.{HasFewPatterns}
use Rattle.role_domain.specs.Sections.{Section, IsSectionOf, all_columns}

-- they are as many
as_many : (limit : ℕ) (roles : List RoleShape) (sections : List Section) (k : ℕ) → map kept_of sections ≡ map (kept_by limit) roles → k < length sections → k < length roles
as_many limit roles sections k same within = omega (arith, within, ap length same, length-map sections kept_of, length-map roles (kept_by limit))

-- the section at a place keeps what the shape there says
kept_at : (limit : ℕ) (roles : List RoleShape) (sections : List Section) (k : ℕ) (d : Section) → map kept_of sections ≡ map (kept_by limit) roles → k < length sections
    → kept_of (get_or sections k d) ≡ kept_by limit (get_or roles k d.shape)
kept_at limit roles sections k d same within =
    sym (get_or-map kept_of sections k d (kept_of d) within)
    ∙ ap (λ (l : List Kept). get_or l k (kept_of d)) same
    ∙ get_or-map (kept_by limit) roles k d.shape (kept_of d) (as_many limit roles sections k same within)

-- the changes of a relation of admitted edits can be made ready in its section
can_take : (shapes : Shapes) → KeepSound shapes → (policy : Policy) (edits : List (List Change)) (section : Section) → shape_of shapes.roles section.shape.number ≡ Some section.shape
    → AreSound shapes policy → AreAdmitted shapes policy edits → IsSectionIn policy section → CanTake edits policy section
can_take shapes keep policy edits section found sound are is = record {
  section_of = is;
  columns = all_have_columns shapes section.shape (flat edits) found (all_fitting shapes policy edits are);
  few = few_of_relation shapes (edited (flat edits) policy) section.shape.number after.shaped (few_rows shapes (edited (flat edits) policy) after.within).1;
  patterns = λ with_domain. few_patterns_of shapes (edited (flat edits) policy) section.shape.number section.shape after.within found with_domain;
}
  where
    after : AreSound shapes (edited (flat edits) policy)
    after = all_sound shapes keep policy edits sound are

-- so in each section of sound tables
pub all_can_take : (shapes : Shapes) → KeepSound shapes → (policy : Policy) (edits : List (List Change)) (sections : List Section) → AreRoles shapes.roles
    → AreSound shapes policy → AreAdmitted shapes policy edits → AreSections shapes policy sections → All (CanTake edits policy) sections
all_can_take shapes keep policy edits sections roles sound are is = λ k d within.
    let kept = kept_at shapes.limit shapes.roles sections k d is.kept within in
    let found : shape_of shapes.roles (get_or sections k d).shape.number ≡ Some (get_or sections k d).shape
    = subst (λ (shape : RoleShape). shape_of shapes.roles shape.number ≡ Some shape) (sym (ap (λ (one : Kept). one.shape) kept))
    (found_itself shapes.roles k d.shape roles (as_many shapes.limit shapes.roles sections k is.kept within)) in
    can_take shapes keep policy edits (get_or sections k d) found sound are (is.each k d within)

-- ---- sections are made

-- what is asked of the rows of each relation when its section is made
pub have_columns : (shapes : Shapes) (policy : Policy) (roles : List RoleShape) (k : ℕ) (d : RoleShape) → roles ≡ shapes.roles → AreRoles roles → AreSound shapes policy → k < length roles
    → All (λ (rule : Fields). length rule ≡ role_columns (get_or roles k d)) (rows policy (G (get_or roles k d).number))
have_columns shapes policy roles k d same are sound within = λ at e inside.
    let found : shape_of shapes.roles (get_or roles k d).number ≡ Some (get_or roles k d) = ap (λ (l : List RoleShape). shape_of l (get_or roles k d).number) (sym same) ∙ found_itself roles k d are within in
    let known : Some (role_columns (get_or roles k d)) ≡ columns_of shapes (G (get_or roles k d).number)
    = sym (ap (λ (p : Option RoleShape). option_map_or (λ (role : RoleShape). Some (role_columns role)) p None) found) in
    sym (same_Some (role_columns (get_or roles k d)) _ (known ∙ sound.shaped.columns (G (get_or roles k d).number) at e inside))

pub have_few_patterns : (shapes : Shapes) (policy : Policy) (roles : List RoleShape) (k : ℕ) (d : RoleShape) → roles ≡ shapes.roles → AreRoles roles → AreSound shapes policy → k < length roles
    → HasFewPatterns (get_or roles k d) (rows policy (G (get_or roles k d).number))
have_few_patterns shapes policy roles k d same are sound within =
    let found : shape_of shapes.roles (get_or roles k d).number ≡ Some (get_or roles k d) = ap (λ (l : List RoleShape). shape_of l (get_or roles k d).number) (sym same) ∙ found_itself roles k d are within in
    λ with_domain. few_patterns_of shapes policy (get_or roles k d).number (get_or roles k d) sound.within found with_domain

-- one section more
pub sections_more : (limit : ℕ) (roles more : List RoleShape) (policy : Policy) (sections : List Section) (shape : RoleShape) (section : Section) → more ≡ roles ++ shape ∷ []
    → section.shape ≡ shape → section.limit ≡ limit → IsSectionOf section (rows policy (G shape.number)) → AreSectionsOf limit roles policy sections → AreSectionsOf limit more policy (sections ++ section ∷ [])
sections_more limit roles more policy sections shape section longer shaped limited is before = record {
  kept =
      map-append kept_of sections (section ∷ [])
      ∙ (λ j. before.kept j ++ record { shape = shaped j; limit = limited j } ∷ [])
      ∙ sym (map-append (kept_by limit) roles (shape ∷ []))
      ∙ ap (map (kept_by limit)) (sym longer);
  each = All-push (IsSectionIn policy) sections section before.each (subst (λ (s : RoleShape). IsSectionOf section (rows policy (G s.number))) (sym shaped) is);
}

-- ---- the section of a relation

-- what is found is that of the relation
found_kept : (number limit : ℕ) (shape : RoleShape) (sections : List Section) (roles : List RoleShape) → map kept_of sections ≡ map (kept_by limit) roles → shape_of roles number ≡ Some shape
    → option_map kept_of (find (λ (section : Section). eqb section.shape.number number) sections) ≡ Some (kept_by limit shape)
found_kept number limit shape [] [] same found = absurd cc
found_kept number limit shape [] (role ∷ roles) same found = absurd cc
found_kept number limit shape (section ∷ sections) [] same found = absurd cc
found_kept number limit shape (section ∷ sections) (role ∷ roles) same found =
    by (eqb role.number number) found (found_kept number limit shape sections roles rest) (ap (λ (k : Kept). eqb k.shape.number number) first)
  where
    first : kept_of section ≡ kept_by limit role
    first = cc

    rest : map kept_of sections ≡ map (kept_by limit) roles
    rest = cc

    by : (b : Bool) → cond b (Some role) (shape_of roles number) ≡ Some shape → (shape_of roles number ≡ Some shape → option_map kept_of (find (λ (s : Section). eqb s.shape.number number) sections) ≡ Some (kept_by limit shape))
        → eqb section.shape.number number ≡ b → option_map kept_of (cond (eqb section.shape.number number) (Some section) (find (λ (s : Section). eqb s.shape.number number) sections)) ≡ Some (kept_by limit shape)
    by true is others e =
        let itself : role ≡ shape = cc in
        ap (λ (b : Bool). option_map kept_of (cond b (Some section) (find (λ (s : Section). eqb s.shape.number number) sections))) e ∙ ap Some first ∙ ap (λ (r : RoleShape). Some (kept_by limit r)) itself
    by false is others e = ap (λ (b : Bool). option_map kept_of (cond b (Some section) (find (λ (s : Section). eqb s.shape.number number) sections))) e ∙ others is

-- what each section has, the one that is found has
found_has : (R : Section → Type 0) (test : Section → Bool) (sections : List Section) (section : Section) → All R sections → Some section ≡ find test sections → R section
found_has R test [] section all is = absurd cc
found_has R test (first ∷ sections) section all is = by (test first) is (found_has R test sections section (All-tail R first sections all))
  where
    by : (b : Bool) → Some section ≡ cond b (Some first) (find test sections) → (Some section ≡ find test sections → R section) → R section
    by true found rest = subst R (sym (same_Some section first found)) (All-head R first sections all)
    by false found rest = rest found

-- the section of a relation of shapes, among tables
pub record IsSectionFor (shapes : Shapes) (policy : Policy) (relation : ℕ) (section : Section) : Type 0 where
  pub shaped : shape_of shapes.roles relation ≡ Some section.shape
  pub limited : section.limit ≡ shapes.limit
  pub rules : IsSectionOf section (rows policy (G relation))

pub found_section : (shapes : Shapes) (policy : Policy) (sections : List Section) (relation : ℕ) (section : Section) → AreSections shapes policy sections → IsSome (shape_of shapes.roles relation)
    → Some section ≡ find (λ (one : Section). eqb one.shape.number relation) sections → IsSectionFor shapes policy relation section
found_section shapes policy sections relation section are there found = by (shape_of shapes.roles relation) refl there
  where
    by : (p : Option RoleShape) → shape_of shapes.roles relation ≡ p → IsSome p → IsSectionFor shapes policy relation section
    by None e some = absurd (true≢false (sym some))
    by (Some shape) e some =
        let kept : kept_of section ≡ kept_by shapes.limit shape
        = same_Some _ _ (ap (option_map kept_of) found ∙ found_kept relation shapes.limit shape sections shapes.roles are.kept e) in
        let number : section.shape.number ≡ relation = ap (λ (k : Kept). k.shape.number) kept ∙ found_number shapes.roles relation shape e in
        record {
          shaped = e ∙ ap (λ (k : Kept). Some k.shape) (sym kept);
          limited = ap (λ (k : Kept). k.limit) kept;
          rules =
              subst (λ (n : ℕ). IsSectionOf section (rows policy (G n))) number
              (found_has (IsSectionIn policy) (λ (one : Section). eqb one.shape.number relation) sections section are.each found);
        }

-- there is one
pub not_missed : (shapes : Shapes) (policy : Policy) (sections : List Section) (relation : ℕ) → AreSections shapes policy sections → IsSome (shape_of shapes.roles relation)
    → None ≡ find (λ (one : Section). eqb one.shape.number relation) sections → ⊥
not_missed shapes policy sections relation are there missed = by (shape_of shapes.roles relation) refl there
  where
    by : (p : Option RoleShape) → shape_of shapes.roles relation ≡ p → IsSome p → ⊥
    by None e some = true≢false (sym some)
    by (Some shape) e some =
        let none : None ≡ Some (kept_by shapes.limit shape) = ap (option_map kept_of) missed ∙ found_kept relation shapes.limit shape sections shapes.roles are.kept e in
        absurd cc

-- ---- a section takes the place of another

-- a section of which the same is kept
pub kept_there : (old sections : List Section) (at : ℕ) (here new : Section) → get_or sections at here ≡ here → new.shape ≡ here.shape → new.limit ≡ here.limit
    → map kept_of sections ≡ map kept_of old → map kept_of (set sections at new) ≡ map kept_of old
kept_there old sections at here new is shape limit same =
    let kept : kept_of new ≡ kept_of here = λ j. record { shape = shape j; limit = limit j } in
    map-set_same kept_of sections at new here (kept ∙ ap kept_of (sym is)) ∙ same

-- sections up to it, and it
pub front_set : (sections : List Section) (at : ℕ) (new : Section) → at < length sections → take (at + 1) (set sections at new) ≡ take at sections ++ new ∷ []
front_set sections at new within = ap (λ (n : ℕ). take n (set sections at new)) (add-one at) ∙ take-suc-set sections at new within

-- a section of the same rows can take the same changes
can_still_take : (edits : List (List Change)) (policy : Policy) (here new : Section) → new.shape ≡ here.shape → ((all : List Fields) → IsSectionOf here all → IsSectionOf new all)
    → CanTake edits policy here → CanTake edits policy new
can_still_take edits policy here new shape stays can = record {
  section_of = subst (λ (s : RoleShape). IsSectionOf new (rows policy (G s.number))) (sym shape) (stays _ can.section_of);
  columns = subst (λ (s : RoleShape). all_columns (role_columns s) (own (G s.number) (flat edits)) ≡ true) (sym shape) can.columns;
  few = subst (λ (s : RoleShape). length (rows (edited (flat edits) policy) (G s.number)) ≤ 200000) (sym shape) can.few;
  patterns = subst (λ (s : RoleShape). HasFewPatterns s (rows (edited (flat edits) policy) (G s.number))) (sym shape) can.patterns;
}

-- sections that can take changes, of which the same is kept
pub record AreTaking (edits : List (List Change)) (policy : Policy) (old sections : List Section) : Type 0 where
  pub kept : map kept_of sections ≡ map kept_of old
  pub can : All (CanTake edits policy) sections

pub taking_next : (edits : List (List Change)) (policy : Policy) (old sections : List Section) (at : ℕ) (here : Section) → at < length sections → get_or sections at here ≡ here → AreTaking edits policy old sections
    → CanTake edits policy here
taking_next edits policy old sections at here within is are = subst (CanTake edits policy) is (are.can at here within)

pub taking_set : (edits : List (List Change)) (policy : Policy) (old sections : List Section) (at : ℕ) (here new : Section) → at < length sections → get_or sections at here ≡ here → new.shape ≡ here.shape → new.limit ≡ here.limit
    → ((all : List Fields) → IsSectionOf here all → IsSectionOf new all) → AreTaking edits policy old sections → AreTaking edits policy old (set sections at new)
taking_set edits policy old sections at here new within is shape limit stays are = record {
  kept = kept_there old sections at here new is shape limit are.kept;
  can = All-set (CanTake edits policy) sections at new (can_still_take edits policy here new shape stays (taking_next edits policy old sections at here within is are)) are.can;
}

-- they are as many
pub taking_within : (edits : List (List Change)) (policy : Policy) (first old sections : List Section) (at : ℕ) → first ≡ old → AreTaking edits policy old sections → at < length first → at < length sections
taking_within edits policy first old sections at begun are within = omega (arith, within, ap length begun, ap length are.kept, length-map sections kept_of, length-map old kept_of)

-- and of the rows of their relations
pub taking_each : (edits : List (List Change)) (policy : Policy) (old sections : List Section) → AreTaking edits policy old sections → All (IsSectionIn policy) sections
taking_each edits policy old sections are = All-weaker (CanTake edits policy) (IsSectionIn policy) (λ section can. can.section_of) sections are.can
