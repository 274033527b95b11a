-- Where a policy has no fault, all findings are warnings.
use Rattle.std.proofs.Common.{◌≡◌, ◌≢◌, ℕ, ◌+◌, Bool, true, false, cond, List, [], ◌∷◌, ◌++◌, Option, Some, None, inl, inr, refl, sym, ap, subst, ◌∙◌, arith}
use Rattle.std.specs.Prelude.{Ok, Err, flat_map, if◌then◌else◌}
use Rattle.std.specs.List.{AllByRecursion, AllZip, fold}
use Rattle.effect_fold.specs.declared.effect.Effect.{Effect}
use Rattle.model_conf.specs.ModelText.{ModelParts}
use Rattle.perm_base.specs.declared.shapes.RoleShape.{RoleShape}
use Rattle.perm_base.specs.declared.shapes.Shapes.{Shapes}
use Rattle.perm_base.specs.declared.shapes.TableId.{TableId}
use Rattle.perm_base.specs.declared.shapes.TableId.TheVariants.{P, G}
use Rattle.policy_csv.proofs.CallerLemmas.{says_fault, says_rule}
use Rattle.policy_csv.specs.Faults.{IsTextFault}
use Rattle.policy_csv.specs.Policy.{SaysRule, SayRules, with_entry}
use Rattle.policy_csv.specs.declared.entry.Entry.{Entry}
use Rattle.policy_csv.specs.declared.fault.PolicyFault.{PolicyFault}
use Rattle.policy_csv.specs.declared.fault.PolicyFault.TheVariants.{NoMemory}
use Rattle.policy_table.specs.Tables.{Fields, Policy, rows, stands}
use Rattle.text_parts.specs.Full.{given_number}
use Rattle.text_parts.specs.Numbered.{Line}
use Rattle.file_lint.specs.Findings.{count_of, in_order, is_behind, is_same, put_in}
use Rattle.file_lint.specs.PolicyErrors.{LintsLines}
use Rattle.file_lint.specs.PolicyErrors.LintsLines.{at_fault, no_line, rule, told}
use Rattle.file_lint.specs.RowWarnings.{AreLooked, HeldFinds, LookedFinds, RowFinds, Surprises, effect_warnings, field_of, order_warnings, own_warnings, policy_warnings, rank_warnings, repeat_warnings, subject_warnings}
use Rattle.file_lint.specs.declared.finding.Finding.{Finding}
use Rattle.file_lint.specs.declared.finding.Level.{Level}
use Rattle.file_lint.specs.declared.finding.Level.TheVariants.{Error, Warning}
use Rattle.file_lint.specs.declared.nodes.Held.{Held}
use Rattle.file_lint.specs.declared.nodes.Held.TheVariants.{Block, KeyPattern, RuleText}
use Rattle.file_lint.specs.declared.nodes.Looked.{Looked}

-- all of them are warnings
abbrev pub AreWarnings : List Finding → Type 0
AreWarnings findings = AllByRecursion (λ (found : Finding). found.level ≡ Warning) findings

both : (front back : List Finding) → AreWarnings front → AreWarnings back → AreWarnings (front ++ back)
both [] back one two = two
both (first ∷ front) back one two = (one.0, both front back one.1 two)

put : (found : Finding) (others : List Finding) → found.level ≡ Warning → AreWarnings others → AreWarnings (put_in found others)
unfolding put_in
put found [] is all = (is, tt)
put found (first ∷ others) is all = by (is_behind found first) (put found others is all.1)
  where
    by : (behind : Bool) → AreWarnings (put_in found others) → AreWarnings (if behind then first ∷ put_in found others else found ∷ first ∷ others)
    by true later = (all.0, later)
    by false later = (is, all)

ordered : (findings : List Finding) → AreWarnings findings → AreWarnings (in_order findings)
unfolding in_order
ordered [] all = tt
ordered (first ∷ others) all = put first (in_order others) all.0 (ordered others all.1)

-- a warning where a test holds, or where it does not
where_so : (test : Bool) (found : Finding) → found.level ≡ Warning → AreWarnings (if test then found ∷ [] else [])
where_so true found is = (is, tt)
where_so false found is = tt

where_not : (test : Bool) (found : Finding) → found.level ≡ Warning → AreWarnings (if test then [] else found ∷ [])
where_not true found is = tt
where_not false found is = (is, tt)

effects : (line : Line) (fields : Fields) (column : Option ℕ) → AreWarnings (effect_warnings line fields column)
effects line fields None = tt
effects line fields (Some at) = where_not _ _ refl

ranks : (line : Line) (fields : Fields) (ranked : Bool) → AreWarnings (rank_warnings line fields ranked)
ranks line fields true = where_so _ _ refl
ranks line fields false = tt

subjects : (line : Line) (fields : Fields) (at : ℕ) (shape : Option RoleShape) → AreWarnings (subject_warnings line fields at shape)
subjects line fields at None = tt
subjects line fields at (Some shape) = where_so _ _ refl

orders : (effect : Effect) (before : Policy) (line : Line) (fields : Fields) (column : Option ℕ) → AreWarnings (order_warnings effect before line fields column)
orders effect before line fields None = tt
orders effect before line fields (Some at) = where_so _ _ refl

own : (model : ModelParts) (shapes : Shapes) (before : Policy) (line : Line) (entry : Entry) (table : TableId) → AreWarnings (own_warnings model shapes before line entry table)
own model shapes before line entry P =
    both (policy_warnings shapes line entry.rule) _ (both _ _ (both (effect_warnings line entry.rule shapes.effect_column) _ (effects line entry.rule shapes.effect_column) (ranks line entry.rule shapes.ranked)) (subjects line entry.rule shapes.subject_column _))
    (orders model.effect before line entry.rule shapes.effect_column)
own model shapes before line entry (G number) = where_so _ _ refl

surprising : (good bad : Type 0) (found : Finding) (findings : List Finding) → found.level ≡ Warning → Surprises good bad found findings → AreWarnings findings
surprising good bad found findings is (inl (holds, none)) = subst AreWarnings (sym none) tt
surprising good bad found findings is (inr (odd, one)) = subst AreWarnings (sym one) (is, tt)

looked_one : (model : ModelParts) (line : Line) (fields : Fields) (look : Looked) (findings : List Finding) → LookedFinds model line fields look findings → AreWarnings findings
looked_one model line fields look findings is = by look.held is
  where
    by : (held : Held) → HeldFinds model line look.at (field_of fields look.at) held findings → AreWarnings findings
    by Block is = surprising _ _ _ findings refl is
    by KeyPattern is = subst AreWarnings (sym is) (where_so _ _ refl)
    by RuleText is = surprising _ _ _ findings refl is

looked_all : (model : ModelParts) (line : Line) (fields : Fields) (looked : List Looked) (pieces : List (List Finding)) → AllZip (LookedFinds model line fields) looked pieces → AreWarnings (flat_map (λ (piece : List Finding). piece) pieces)
looked_all model line fields [] [] each = tt
looked_all model line fields [] (piece ∷ pieces) each = absurd each
looked_all model line fields (look ∷ looked) [] each = absurd each
looked_all model line fields (look ∷ looked) (piece ∷ pieces) each = both piece _ (looked_one model line fields look piece each.0) (looked_all model line fields looked pieces each.1)

looked_of : (model : ModelParts) (line : Line) (fields : Fields) (table : TableId) (findings : List Finding) → AreLooked model line fields table findings → AreWarnings findings
looked_of model line fields P findings is = subst AreWarnings (sym is.together) (looked_all model line fields _ is.pieces is.each)
looked_of model line fields (G number) findings is = subst AreWarnings (sym is) tt

row : (model : ModelParts) (shapes : Shapes) (before : Policy) (line : Line) (entry : Entry) (findings : List Finding) → RowFinds model shapes before line entry findings → AreWarnings findings
row model shapes before line entry findings is =
    subst AreWarnings (sym is.all) (ordered _ (both _ is.looked (both (repeat_warnings before line entry) (own_warnings model shapes before line entry entry.table) (where_so _ _ refl) (own model shapes before line entry entry.table))
    (looked_of model line entry.rule entry.table is.looked is.are_looked)))

-- a line that says a rule has no fault of its own
fine : (shapes : Shapes) (number : ℕ) (text : List ℕ) (entry : Entry) (why : PolicyFault) → SaysRule shapes text entry → why ≢ NoMemory → ¬ (IsTextFault shapes number text why)
fine shapes number text entry why says other is = let both_ways : Ok entry ≡ Err why = sym (says_rule shapes number text entry says) ∙ says_fault shapes number text why is other in absurd cc

-- lines that say rules have warnings alone, where no fault is told
pub warned : (model : ModelParts) (shapes : Shapes) (before : Policy) (lines : List Line) (entries : List Entry) (findings : List Finding) → SayRules shapes lines entries → LintsLines model shapes None before lines findings → AreWarnings findings
warned model shapes before [] entries findings says no_line = tt
warned model shapes before (next ∷ lines) [] findings says is = absurd says
warned model shapes before (next ∷ lines) (entry ∷ entries) findings says (told why e rest) = absurd cc
warned model shapes before (next ∷ lines) (entry ∷ entries) findings says (rule found none is finds rest) = both _ _ (row model shapes before next found _ finds) (warned model shapes (with_entry found before) lines entries _ says.1 rest)
warned model shapes before (next ∷ lines) (entry ∷ entries) findings says (at_fault why none other is rest) = absurd (fine shapes (given_number next.number) next.text entry why says.0 other is)

-- a count of errors stays where all are warnings
count_from : (start : ℕ) (findings : List Finding) → AreWarnings findings → ◌≡◌ {A = ℕ} (fold (λ (count : ℕ) (found : Finding). count + cond (is_same Error found.level) 1 0) start findings) start
count_from start [] all = refl
count_from start (first ∷ others) all =
    let plus : start + 0 ≡ start = omega arith in
    count_from (start + cond (is_same Error first.level) 1 0) others all.1 ∙ ap (λ (level : Level). start + cond (is_same Error level) 1 0) all.0 ∙ plus

-- among warnings is no error
pub no_errors : (findings : List Finding) → AreWarnings findings → count_of Error findings ≡ 0
no_errors findings all = count_from 0 findings all
