-- A model comes to one verdict for a request over its tables.
use Rattle.std.proofs.Common.{◌≡◌, ℕ, Bool, true, false, List, [], ◌∷◌, Option, Some, None, refl, sym, ap, ◌∙◌}
use Rattle.std.specs.List.{AllZip}
use Rattle.effect_fold.specs.Verdict.{Taken, verdict}
use Rattle.effect_fold.specs.declared.effect.Effect.{Effect}
use Rattle.effect_fold.specs.declared.effect.Effect.TheVariants as effect
use Rattle.effect_fold.specs.declared.outcome.Outcome.{Outcome}
use Rattle.matcher_read.specs.Expression.{Expression}
use Rattle.model_conf.specs.ModelText.{ModelParts}
use Rattle.perm_base.specs.RoleShapes.{shape_of}
use Rattle.perm_base.specs.declared.shapes.RoleShape.{RoleShape}
use Rattle.perm_base.specs.declared.shapes.Shapes.{Shapes}
use Rattle.perm_base.specs.declared.shapes.TableId.TheVariants.{P, G}
use Rattle.perm_value.specs.Datum.{Datum}
use Rattle.policy_table.specs.Tables.{Fields, Policy, rows}
use Rattle.role_meaning.specs.Depths.{IsDepth, by_depth}
use Rattle.matcher_meaning.specs.Cases.{Case, at_row, where_refused}
use Rattle.matcher_meaning.specs.Comes.{TruthIs}
use Rattle.matcher_meaning.specs.Order.{AreDepths, AreInOrder, IsDepthBy, Numbered, domain_of_row, in_order_of, numbered_from}
use Rattle.matcher_meaning.specs.Perm.{Refusal, names_policy, outcome_of, refused_at, row_word}
use Rattle.matcher_meaning.specs.Verdicts.{HasOutcome, RowHasOutcome, HasOneOutcome, HasOutcomesOver, IsVerdict, case_of}
use Rattle.matcher_meaning.proofs.CallLemmas.{AtMostOne, AtLeastOne}
use Rattle.matcher_meaning.proofs.StepLemmas.{one_next, first_one, some_next, first_some}

pub each_one : {X Y : Type 0} (Holds : X → Y → Type 0) → ((x : X) → AtMostOne (Holds x)) → (xs : List X) → AtMostOne (AllZip Holds xs)
each_one Holds one [] [] [] p q = refl
each_one Holds one [] [] (z ∷ zs) p q = absurd q
each_one Holds one [] (y ∷ ys) zs p q = absurd p
each_one Holds one (x ∷ xs) [] zs p q = absurd p
each_one Holds one (x ∷ xs) (y ∷ ys) [] p q = absurd q
each_one Holds one (x ∷ xs) (y ∷ ys) (z ∷ zs) p q = ap (λ first. first ∷ ys) (one x y z p.0 q.0) ∙ ap (λ others. z ∷ others) (each_one Holds one xs ys zs p.1 q.1)

pub each_some : {X Y : Type 0} (Holds : X → Y → Type 0) → ((x : X) → AtLeastOne (Holds x)) → (xs : List X) → AtLeastOne (AllZip Holds xs)
each_some Holds some [] = ([], tt)
each_some Holds some (x ∷ xs) =
    let first = some x in
    let others = each_some Holds some xs in
    (first.0 ∷ others.0, (first.1, others.1))

-- a name has one depth at most, and has one
abbrev pub OneDepth : Type 0
OneDepth = (shape : RoleShape) (table : List Fields) (limit : ℕ) (domain : Option (List ℕ)) (name : List ℕ) (depth other : ℕ) → IsDepth shape table limit domain name depth → IsDepth shape table limit domain name other → depth ≡ other

abbrev pub SomeDepth : Type 0
SomeDepth = (shape : RoleShape) (table : List Fields) (limit : ℕ) (domain : Option (List ℕ)) (name : List ℕ) → (depth : ℕ) × IsDepth shape table limit domain name depth

pub depth_one : OneDepth → (case : Case) (shape : Option RoleShape) (fields : Fields) → AtMostOne (IsDepthBy case shape fields)
depth_one one case (Some shape) fields r s p q = one shape (rows case.policy (G 1)) case.shapes.limit (domain_of_row case shape fields) _ r s p q
depth_one one case None fields r s p q = p ∙ sym q

depth_some : SomeDepth → (case : Case) (shape : Option RoleShape) (fields : Fields) → AtLeastOne (IsDepthBy case shape fields)
depth_some some case (Some shape) fields = some shape (rows case.policy (G 1)) case.shapes.limit (domain_of_row case shape fields) _
depth_some some case None fields = (0, refl)

pub order_one : OneDepth → (case : Case) (e : Effect) (table : List Fields) → AtMostOne (AreInOrder case e table)
order_one one case effect.SubjectPriority table r s p q =
    one_next (AreDepths case table) (λ depths. in_order_of (by_depth depths) (numbered_from 1 table))
    (each_one (IsDepthBy case (shape_of case.shapes.roles 1)) (depth_one one case (shape_of case.shapes.roles 1)) table) r s p q
order_one one case effect.AllowOverride table r s p q = p ∙ sym q
order_one one case effect.DenyOverride table r s p q = p ∙ sym q
order_one one case effect.AllowAndDeny table r s p q = p ∙ sym q
order_one one case effect.Priority table r s p q = p ∙ sym q

pub order_some : SomeDepth → (case : Case) (e : Effect) (table : List Fields) → AtLeastOne (AreInOrder case e table)
order_some some case effect.SubjectPriority table =
    some_next (AreDepths case table) (λ depths. in_order_of (by_depth depths) (numbered_from 1 table))
    (each_some (IsDepthBy case (shape_of case.shapes.roles 1)) (depth_some some case (shape_of case.shapes.roles 1)) table)
order_some some case effect.AllowOverride table = (numbered_from 1 table, refl)
order_some some case effect.DenyOverride table = (numbered_from 1 table, refl)
order_some some case effect.AllowAndDeny table = (numbered_from 1 table, refl)
order_some some case effect.Priority table = (numbered_from 1 table, refl)

-- the model's matcher has one truth at most at each row, whatever is refused, and has one
abbrev pub OneTruthAt : Case → Type 0
OneTruthAt case = (row : Option Fields) (refused : Option (ℕ × List ℕ)) → AtMostOne (TruthIs (where_refused (at_row case row) refused) case.model.matcher)

abbrev pub SomeTruthAt : Case → Type 0
SomeTruthAt case = (row : Option Fields) (refused : Option (ℕ × List ℕ)) → AtLeastOne (TruthIs (where_refused (at_row case row) refused) case.model.matcher)

pub outcome_one : (case : Case) → OneTruthAt case → (row : Option Fields) (refused : Option (ℕ × List ℕ)) (word : Option Bool) → AtMostOne (HasOutcome (where_refused (at_row case row) refused) word)
outcome_one case one row refused word = one_next (TruthIs (where_refused (at_row case row) refused) case.model.matcher) (λ t. outcome_of t word) (one row refused)

pub outcome_some : (case : Case) → SomeTruthAt case → (row : Option Fields) (refused : Option (ℕ × List ℕ)) (word : Option Bool) → AtLeastOne (HasOutcome (where_refused (at_row case row) refused) word)
outcome_some case some row refused word = some_next (TruthIs (where_refused (at_row case row) refused) case.model.matcher) (λ t. outcome_of t word) (some row refused)

pub same_taken : (p s : Taken) → p.0 ≡ s.0 → p.1 ≡ s.1 → p ≡ s
same_taken p s row outcome = ap (λ (r : Option ℕ). (r, p.1)) row ∙ ap (λ (o : Outcome). (s.0, o)) outcome

pub row_outcome_one : (case : Case) → OneTruthAt case → (refused : Option Refusal) (row : Numbered) → AtMostOne (RowHasOutcome case refused row)
row_outcome_one case one refused row r s p q =
    same_taken r s (p.0 ∙ sym q.0) (outcome_one case one (Some row.fields) (refused_at refused (Some row.number)) (row_word case.model.policy row.fields) r.1 s.1 p.1 q.1)

pub row_outcome_some : (case : Case) → SomeTruthAt case → (refused : Option Refusal) (row : Numbered) → AtLeastOne (RowHasOutcome case refused row)
row_outcome_some case some refused row =
    let outcome = outcome_some case some (Some row.fields) (refused_at refused (Some row.number)) (row_word case.model.policy row.fields) in
    ((Some row.number, outcome.0), (refl, outcome.1))

one_outcome_one : (case : Case) → OneTruthAt case → (refused : Option Refusal) → AtMostOne (HasOneOutcome case refused)
one_outcome_one case one refused =
    one_next (HasOutcome (where_refused (at_row case None) (refused_at refused None)) (Some true)) (λ (outcome : Outcome). (None, outcome) ∷ []) (outcome_one case one None (refused_at refused None) (Some true))

one_outcome_some : (case : Case) → SomeTruthAt case → (refused : Option Refusal) → AtLeastOne (HasOneOutcome case refused)
one_outcome_some case some refused =
    some_next (HasOutcome (where_refused (at_row case None) (refused_at refused None)) (Some true)) (λ (outcome : Outcome). (None, outcome) ∷ []) (outcome_some case some None (refused_at refused None) (Some true))

outcomes_one : OneDepth → (case : Case) → OneTruthAt case → (refused : Option Refusal) (named : Bool) (table : List Fields) → AtMostOne (HasOutcomesOver case refused named table)
outcomes_one depth case one refused false table r s p q = one_outcome_one case one refused r s p q
outcomes_one depth case one refused true [] r s p q = one_outcome_one case one refused r s p q
outcomes_one depth case one refused true (row ∷ others) r s p q =
    first_one (AreInOrder case case.model.effect (row ∷ others)) (λ r judged. AllZip (RowHasOutcome case refused) judged r) (order_one depth case case.model.effect (row ∷ others))
    (λ judged. each_one (RowHasOutcome case refused) (row_outcome_one case one refused) judged) r s p q

outcomes_some : SomeDepth → (case : Case) → SomeTruthAt case → (refused : Option Refusal) (named : Bool) (table : List Fields) → AtLeastOne (HasOutcomesOver case refused named table)
outcomes_some depth case some refused false table = one_outcome_some case some refused
outcomes_some depth case some refused true [] = one_outcome_some case some refused
outcomes_some depth case some refused true (row ∷ others) =
    first_some (AreInOrder case case.model.effect (row ∷ others)) (λ r judged. AllZip (RowHasOutcome case refused) judged r) (order_some depth case case.model.effect (row ∷ others))
    (λ judged. each_some (RowHasOutcome case refused) (row_outcome_some case some refused) judged)

pub is_verdict_one : OneDepth → ((case : Case) (e : Expression) → AtMostOne (TruthIs case e)) → (model : ModelParts) (shapes : Shapes) (policy : Policy) (request : List Datum) (refused : Option Refusal)
    → AtMostOne (IsVerdict model shapes policy request refused)
is_verdict_one depth one model shapes policy request refused =
    let case : Case = case_of model shapes policy request in
    one_next (HasOutcomesOver case refused (names_policy model.matcher) (rows policy P)) (verdict model.effect)
    (outcomes_one depth case (λ row held. one (where_refused (at_row case row) held) model.matcher) refused (names_policy model.matcher) (rows policy P))

pub is_verdict_some : SomeDepth → (model : ModelParts) (shapes : Shapes) (policy : Policy) (request : List Datum) → SomeTruthAt (case_of model shapes policy request) → (refused : Option Refusal)
    → AtLeastOne (IsVerdict model shapes policy request refused)
is_verdict_some depth model shapes policy request some refused =
    let case : Case = case_of model shapes policy request in
    some_next (HasOutcomesOver case refused (names_policy model.matcher) (rows policy P)) (verdict model.effect)
    (outcomes_some depth case some refused (names_policy model.matcher) (rows policy P))
