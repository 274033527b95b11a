-- Edits that are admitted one after the other.
use Rattle.std.proofs.Common.{◌≡◌, ℕ, Bool, true, false, not, ◌==◌, ◌&&◌, ◌||◌, cond, List, [], ◌∷◌, ◌++◌, length, Option, Some, None, refl, sym, ap, subst, ◌∙◌}
use Rattle.std.specs.List.{list_all}
use Rattle.std.specs.Option.{option_map_or}
use Rattle.std.proofs.lemmas.Bool.{and_parts, eqb-true}
use Rattle.std.proofs.lemmas.Bool.Decides.{Decides-eqb}
use Rattle.std.proofs.lemmas.Option.{same_Some}
use Rattle.edit_calls.specs.Admitted.{AreAdmitted, admits, is_fitting, may_stand}
use Rattle.perm_base.specs.RoleShapes.{shape_of}
use Rattle.perm_base.specs.declared.shapes.RoleShape.{RoleShape}
use Rattle.perm_base.specs.declared.shapes.Shapes.{Shapes}
use Rattle.perm_base.specs.declared.shapes.TableId.{TableId}
use Rattle.perm_base.specs.declared.shapes.TableId.TheVariants.{G, P}
use Rattle.policy_index.specs.Indexed.{all_fit, fits_key}
use Rattle.policy_index.specs.Keys.{KeyParts, is_below}
use Rattle.policy_table.specs.Changes.{applies, edited, flat, is_table, own, replay, table_of}
use Rattle.policy_table.specs.Limits.{AreSound, columns_of, role_columns}
use Rattle.policy_table.specs.Tables.{Fields, Policy}
use Rattle.policy_table.specs.declared.change.Change.{Change}
use Rattle.policy_table.specs.declared.change.Change.TheVariants.{Insert, Remove, Replace}
use Rattle.policy_table.proofs.CallerLemmas.{applies_both, edited_both, same_table}
use Rattle.role_domain.specs.Sections.{all_columns, puts_columns}

-- changes that are admitted leave sound tables
abbrev pub KeepSound : Shapes → Type 0
KeepSound shapes = (policy : Policy) (changes : List Change) → AreSound shapes policy → admits shapes policy changes ≡ true → AreSound shapes (edited changes policy)

-- changes that are admitted apply
one_applies : (shapes : Shapes) (policy : Policy) (changes : List Change) → admits shapes policy changes ≡ true → applies changes policy ≡ true
one_applies shapes policy changes is = (and_parts _ _ (and_parts _ _ is).0).1

-- so do those of all edits
pub all_apply : (shapes : Shapes) (policy : Policy) (edits : List (List Change)) → AreAdmitted shapes policy edits → applies (flat edits) policy ≡ true
unfolding applies
all_apply shapes policy [] are = refl
all_apply shapes policy (edit ∷ edits) are =
    applies_both edit (flat edits) policy
    ∙ ap (λ (b : Bool). b && applies (flat edits) (edited edit policy)) (one_applies shapes policy edit are.0)
    ∙ all_apply shapes (edited edit policy) edits are.1

-- and leave sound tables
pub all_sound : (shapes : Shapes) → KeepSound shapes → (policy : Policy) (edits : List (List Change)) → AreSound shapes policy → AreAdmitted shapes policy edits → AreSound shapes (edited (flat edits) policy)
unfolding edited
all_sound shapes keep policy [] sound are = sound
all_sound shapes keep policy (edit ∷ edits) sound are =
    subst (AreSound shapes) (sym (edited_both edit (flat edits) policy)) (all_sound shapes keep (edited edit policy) edits (keep policy edit sound are.0) are.1)

-- ---- edits of two lists

-- a front of them is admitted
pub admitted_front : (shapes : Shapes) (front back : List (List Change)) (policy : Policy) → AreAdmitted shapes policy (front ++ back) → AreAdmitted shapes policy front
admitted_front shapes [] back policy all = tt
admitted_front shapes (edit ∷ front) back policy all = (all.0, admitted_front shapes front back (edited edit policy) all.1)

-- what is left is admitted in the tables after the front
pub admitted_rest : (shapes : Shapes) (front back : List (List Change)) (policy : Policy) → AreAdmitted shapes policy (front ++ back) → AreAdmitted shapes (replay front policy) back
admitted_rest shapes [] back policy all = all
admitted_rest shapes (edit ∷ front) back policy all = admitted_rest shapes front back (edited edit policy) all.1

-- and both are so together
pub admitted_both : (shapes : Shapes) (front back : List (List Change)) (policy : Policy) → AreAdmitted shapes policy front → AreAdmitted shapes (replay front policy) back → AreAdmitted shapes policy (front ++ back)
admitted_both shapes [] back policy one other = other
admitted_both shapes (edit ∷ front) back policy one other = (one.0, admitted_both shapes front back (edited edit policy) one.1 other)

-- ---- rules that are put in

-- what passes a test of two lists passes it of both
all_both : {X : Type 0} (p : X → Bool) (front back : List X) → list_all p (front ++ back) ≡ (list_all p front && list_all p back)
all_both p [] back = refl
all_both p (x ∷ front) back = by (p x) (all_both p front back)
  where
    by : (b : Bool) → list_all p (front ++ back) ≡ (list_all p front && list_all p back) → (b && list_all p (front ++ back)) ≡ ((b && list_all p front) && list_all p back)
    by true e = e
    by false e = refl

-- each rule that they put in may stand in its table
pub all_fitting : (shapes : Shapes) (policy : Policy) (edits : List (List Change)) → AreAdmitted shapes policy edits → list_all (is_fitting shapes) (flat edits) ≡ true
all_fitting shapes policy [] are = refl
all_fitting shapes policy (edit ∷ edits) are =
    all_both (is_fitting shapes) edit (flat edits)
    ∙ ap (λ (b : Bool). b && list_all (is_fitting shapes) (flat edits)) (and_parts _ _ (and_parts _ _ are.0).0).0
    ∙ all_fitting shapes (edited edit policy) edits are.1

-- a rule that may stand in a table has its number of columns
pub has_columns : (shapes : Shapes) (table : TableId) (rule : Fields) → may_stand shapes table rule ≡ true → columns_of shapes table ≡ Some (length rule)
has_columns shapes table rule may = by (columns_of shapes table) (and_parts _ _ may).0
  where
    by : (columns : Option ℕ) → option_map_or (λ (columns : ℕ). length rule == columns) columns false ≡ true → columns ≡ Some (length rule)
    by None is = absurd cc
    by (Some columns) is = ap Some (sym (eqb-true (length rule) columns is))

columns_known : (shapes : Shapes) (table : TableId) (rule : Fields) (columns : ℕ) → columns_of shapes table ≡ Some columns → may_stand shapes table rule ≡ true → length rule ≡ columns
columns_known shapes table rule columns known may = same_Some (length rule) columns (sym (has_columns shapes table rule may) ∙ known)

-- changes of one table that put in rules which may stand there pass a test that rules with its columns pass
own_pass : (shapes : Shapes) (table : TableId) (test : Change → Bool) → ((change : Change) → table ≡ table_of change → is_fitting shapes change ≡ true → test change ≡ true)
    → (changes : List Change) → list_all (is_fitting shapes) changes ≡ true → list_all test (own table changes) ≡ true
own_pass shapes table test passes [] fit = refl
own_pass shapes table test passes (change ∷ changes) fit = by (is_table table (table_of change)) refl (own_pass shapes table test passes changes parts.1)
  where
    parts : (is_fitting shapes change ≡ true) × (list_all (is_fitting shapes) changes ≡ true)
    parts = and_parts (is_fitting shapes change) (list_all (is_fitting shapes) changes) fit

    by : (b : Bool) → is_table table (table_of change) ≡ b → list_all test (own table changes) ≡ true → list_all test (cond b (change ∷ own table changes) (own table changes)) ≡ true
    by true e rest = ap (λ (b : Bool). b && list_all test (own table changes)) (passes change (same_table table (table_of change) e) parts.0) ∙ rest
    by false e rest = rest

-- changes that put in rules which may stand there have the columns of a key that are below the number of p's columns
pub all_fit_key : (shapes : Shapes) (key : KeyParts) (changes : List Change) → is_below shapes.columns key ≡ true → list_all (is_fitting shapes) changes ≡ true → all_fit key changes ≡ true
all_fit_key shapes key [] below fit = refl
all_fit_key shapes key (change ∷ changes) below fit =
    ap (λ (b : Bool). b && all_fit key changes) (passes change parts.0) ∙ all_fit_key shapes key changes below parts.1
  where
    parts : (is_fitting shapes change ≡ true) × (list_all (is_fitting shapes) changes ≡ true)
    parts = and_parts (is_fitting shapes change) (list_all (is_fitting shapes) changes) fit

    wide : (table : TableId) (rule : Fields) (b : Bool) → is_table P table ≡ b → may_stand shapes table rule ≡ true → (not b || is_below (length rule) key) ≡ true
    wide table rule false e may = refl
    wide table rule true e may =
        let size : length rule ≡ shapes.columns = columns_known shapes table rule shapes.columns (ap (columns_of shapes) (sym (same_table P table e))) may in
        ap (λ (n : ℕ). is_below n key) size ∙ below

    passes : (change : Change) → is_fitting shapes change ≡ true → fits_key key change ≡ true
    passes (Insert table rule) may = wide table rule (is_table P table) refl may
    passes (Remove table rule) may = refl
    passes (Replace table old new) may = wide table new (is_table P table) refl may

-- those of a relation have its columns
pub all_have_columns : (shapes : Shapes) (shape : RoleShape) (changes : List Change) → shape_of shapes.roles shape.number ≡ Some shape → list_all (is_fitting shapes) changes ≡ true → all_columns (role_columns shape) (own (G shape.number) changes) ≡ true
all_have_columns shapes shape changes found fit = own_pass shapes (G shape.number) (puts_columns (role_columns shape)) passes changes fit
  where
    known : columns_of shapes (G shape.number) ≡ Some (role_columns shape)
    known = ap (λ (p : Option RoleShape). option_map_or (λ (role : RoleShape). Some (role_columns role)) p None) found

    right : (table : TableId) (rule : Fields) → G shape.number ≡ table → may_stand shapes table rule ≡ true → (length rule == role_columns shape) ≡ true
    right table rule here may = (Decides-eqb (length rule) (role_columns shape)).1 (columns_known shapes table rule (role_columns shape) (ap (columns_of shapes) (sym here) ∙ known) may)

    passes : (change : Change) → G shape.number ≡ table_of change → is_fitting shapes change ≡ true → puts_columns (role_columns shape) change ≡ true
    passes (Insert table rule) here may = right table rule here may
    passes (Remove table rule) here may = refl
    passes (Replace table old new) here may = right table new here may
