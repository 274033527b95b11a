-- The code of a whole matcher: it keeps the rules, and what it comes to is the truth of its expression, or the fault.
use Rattle.std.proofs.Common.{◌≡◌, ◌⊎◌, inl, inr, ℕ, ◌+◌, ◌<◌, ◌≤◌, suc, Bool, true, false, List, [], ◌∷◌, length, take, Option, Some, None, Result, Ok, Err, refl, sym, ap, ◌∙◌, subst, arith}
use Rattle.std.specs.Prelude.{nat_le, option_map, slice_get}
use Rattle.std.proofs.lemmas.Bool.{and_from, cases_lt, le-leb}
use Rattle.std.proofs.lemmas.Option.{slice_get_past, slice_get_within}
use Rattle.effect_fold.specs.declared.fault.Fault.{Fault}
use Rattle.perm_value.specs.Datum as datum
use Rattle.matcher_read.specs.Expression.{Expression, nodes, place}
use Rattle.matcher_read.specs.Matcher.{is_sound}
use Rattle.model_conf.specs.Kept.{AreRelations}
use Rattle.model_conf.specs.ModelText.{ModelParts}
use Rattle.model_conf.specs.RuleText.{has_eval}
use Rattle.model_conf.specs.Uses.{uses}
use Rattle.matcher_meaning.specs.Answers as answers
use Rattle.matcher_meaning.specs.Answers.{Evaluation, After}
use Rattle.matcher_meaning.specs.Cases.{Case}
use Rattle.matcher_meaning.specs.Comes.{ComesTo, Evaluates, ReadsNone, RuleComesTo, TruthIs, all_at}
use Rattle.matcher_meaning.specs.Meaning.{truth_at}
use Rattle.matcher_meaning.specs.Operators.{as_truth}
use Rattle.matcher_meaning.proofs.CallerLemmas.{placed_at, placed_eval, without_eval}
use Rattle.matcher_code.specs.Compiled.{op_at, behind, compiled, code_of, as_answer}
use Rattle.matcher_code.specs.Machine.{CodeComesTo, onward}
use Rattle.matcher_code.specs.Rules.{IsVerified, finds, greatest_from, greatest_height, height_at, height_behind, height_behind_all, height_landing, height_or_none, is_right, jump, names_rightly}
use Rattle.matcher_code.specs.declared.op.Op.{Op}
use Rattle.matcher_code.specs.declared.op.Instruction.TheVariants as i
use Rattle.matcher_code.proofs.BuildHeights.{AreRight, IsRight, Setting, both_right, code_right, plain_right, some_nodes}
use Rattle.matcher_code.proofs.BuildPlaces.{Stands, ends_at, joined_length, stand_behind, stand_first}
use Rattle.matcher_code.proofs.BuildRuns.{Ends, after_onward, at_end, leads, moved}
use Rattle.matcher_code.proofs.BuildUses.{are_named}

whole_long : (model : ModelParts) (e : Expression) → length (code_of model e) ≡ behind 0 e + 1
whole_long model e = omega (arith, joined_length (compiled model 0 e) (op_at (place e) i.NeedTruth ∷ []) 0 (behind 0 e) (behind 0 e + 1) (ends_at model 0 e) refl)

whole_stands : (model : ModelParts) (e : Expression) → Stands (code_of model e) 0 (compiled model 0 e) × Stands (code_of model e) (behind 0 e) (op_at (place e) i.NeedTruth ∷ [])
whole_stands model e = stand_first model (code_of model e) 0 e (op_at (place e) i.NeedTruth ∷ []) (stand_behind [] (code_of model e))

-- ---- what it comes to

-- behind the root, its value has to be a truth
ended : (case : Case) (e : Expression) (x r : Evaluation) → After x (λ d. Ends case (code_of case.model e) (behind 0 e) (d ∷ []) r) r → r ≡ answers.then x (as_truth (place e))
ended case e (Err fault) r failed_ = failed_
ended case e (Ok d) r ends = by_answer (as_truth (place e) d) (after_onward case ops (behind 0 e) [] (as_truth (place e) d) r
    (moved case ops (behind 0 e) (d ∷ []) r (op_at (place e) i.NeedTruth) (onward (behind 0 e) [] (as_truth (place e) d)) (whole_stands case.model e).1.0 (λ next is. is) ends))
  where
    ops : List Op
    ops = code_of case.model e

    by_answer : (a : Evaluation) → After a (λ v. Ends case (code_of case.model e) (behind 0 e + 1) (v ∷ []) r) r → r ≡ a
    by_answer (Err fault) is = is
    by_answer (Ok v) ends =
        let past : length (code_of case.model e) ≤ behind 0 e + 1 = omega (arith, whole_long case.model e) in
        let same : ◌≡◌ {A = Option Evaluation} (Some r) (Some (Ok v)) = at_end case (code_of case.model e) (behind 0 e + 1) (v ∷ []) r (slice_get_past (code_of case.model e) (behind 0 e + 1) past) ends in
        cc

pub whole_comes : (case : Case) (e : Expression) (r : Evaluation) → is_sound e ≡ true → are_named case.model (uses e) ≡ true → CodeComesTo case (code_of case.model e) r
    → (x : Evaluation) × ComesTo case e x × (r ≡ answers.then x (as_truth (place e)))
whole_comes case e r sound named comes =
    let first = leads case (code_of case.model e) e 0 [] r (whole_stands case.model e).0 sound named (length (code_of case.model e), comes) in
    (first.0, first.1, ended case e first.0 r first.2)

-- the truth or the fault that an answer is
truth_of : (at : ℕ) (x : Evaluation) → answers.then x (as_truth at) ≡ as_answer (answers.then x (truth_at at))
truth_of at (Ok (datum.truth b)) = refl
truth_of at (Ok d) = refl
truth_of at (Err fault) = refl

pub whole_truth : (case : Case) (e : Expression) (r : Evaluation) → is_sound e ≡ true → are_named case.model (uses e) ≡ true → CodeComesTo case (code_of case.model e) r
    → (t : Result Bool Fault) × (r ≡ as_answer t) × TruthIs case e t
whole_truth case e r sound named comes =
    let on = whole_comes case e r sound named comes in
    (answers.then on.0 (truth_at (place e)), on.2 ∙ truth_of (place e) on.0, (on.0, on.1, refl))

same_truth : (s t : Result Bool Fault) → as_answer s ≡ as_answer t → s ≡ t
same_truth (Ok a) (Ok b) same = let inner : a ≡ b = cc in ap (λ (x : Bool). Ok x) inner
same_truth (Err a) (Err b) same = let inner : a ≡ b = cc in ap (λ (x : Fault). Err x) inner
same_truth (Ok a) (Err b) same = let differ : ◌≡◌ {A = Evaluation} (Ok (datum.truth a)) (Err b) = same in absurd cc
same_truth (Err a) (Ok b) same = let differ : ◌≡◌ {A = Evaluation} (Err a) (Ok (datum.truth b)) = same in absurd cc

pub whole_means : (case : Case) (e : Expression) (t : Result Bool Fault) → is_sound e ≡ true → are_named case.model (uses e) ≡ true → CodeComesTo case (code_of case.model e) (as_answer t) → TruthIs case e t
whole_means case e t sound named comes =
    let on = whole_truth case e (as_answer t) sound named comes in
    subst (λ (s : Result Bool Fault). TruthIs case e s) (same_truth on.0 t (sym on.1)) on.2

-- a rule with each node at one place
pub rule_means : (case : Case) (at : ℕ) (e : Expression) (r : Evaluation) → is_sound (all_at at e) ≡ true → are_named case.model (uses (all_at at e)) ≡ true → has_eval e ≡ false
    → CodeComesTo case (code_of case.model (all_at at e)) r → RuleComesTo case at e r
rule_means case at e r sound named none comes =
    let on = whole_comes case (all_at at e) r sound named comes in (
      on.0,
      without_eval case (Evaluates case) ReadsNone (all_at at e) (placed_eval at e ∙ none) on.0 on.1,
      on.2 ∙ ap (λ (n : ℕ). answers.then on.0 (as_truth n)) (placed_at at e),
    )

-- ---- the rules that it keeps

greatest_below : (height : Option ℕ) (ops : List Op) (highest : ℕ) → ((n : ℕ) → n ≤ length ops → height_or_none (height_behind_all height (take n ops)) ≤ highest) → greatest_from height ops ≤ highest
greatest_below height [] highest each = each 0 (omega arith)
greatest_below height (op ∷ ops) highest each =
    let here = each 0 (omega arith) in
    let later = greatest_below (height_behind op.instruction height) ops highest (λ n within. each (suc n) (omega arith)) in
    omega (arith, here, later)

-- the whole code is right up to its end, where one value is left
whole_right : (s : Setting) (e : Expression) → s.ops ≡ code_of s.model e → is_sound e ≡ true → are_named s.model (uses e) ≡ true → nodes e ≤ s.highest → AreRight s 0 (length s.ops) 1
whole_right s e is sound named few =
    let stand = subst (λ (ops : List Op). Stands ops 0 (compiled s.model 0 e) × Stands ops (behind 0 e) (op_at (place e) i.NeedTruth ∷ [])) (sym is) (whole_stands s.model e) in
    let under : 0 + nodes e ≤ s.highest = omega arith in
    let one : 1 ≤ s.highest = omega (arith, some_nodes e) in
    let first = code_right s e 0 0 stand.0 sound named refl under in
    let long : behind 0 e + 1 ≡ length s.ops = sym (whole_long s.model e) ∙ ap (λ (ops : List Op). length ops) (sym is) in
    subst (λ (n : ℕ). AreRight s 0 n 1) long
    (both_right s 0 (behind 0 e) (behind 0 e + 1) 1 1 first (plain_right s (behind 0 e) (place e) i.NeedTruth 1 0 1 stand.1.0 first.high one refl refl refl refl))

right_at : (s : Setting) (at : ℕ) → IsRight s at → is_right (length s.model.request) (length s.model.policy) at (length s.ops) (slice_get s.ops at) (height_at s.ops at) ≡ true
right_at s at right =
    ap (λ (op : Option Op). is_right (length s.model.request) (length s.model.policy) at (length s.ops) op (height_at s.ops at)) right.stands
    ∙ ap (λ (height : Option ℕ). is_right (length s.model.request) (length s.model.policy) at (length s.ops) (Some right.op) height) right.high
    ∙ and_from (nat_le (finds right.op.instruction) right.height) (names_rightly (length s.model.request) (length s.model.policy) at (length s.ops) right.op.instruction) (le-leb (finds right.op.instruction) right.height right.operands) right.names

right_end : (s : Setting) (at : ℕ) → length s.ops ≤ at → height_at s.ops at ≡ Some 1 → is_right (length s.model.request) (length s.model.policy) at (length s.ops) (slice_get s.ops at) (height_at s.ops at) ≡ true
right_end s at past high =
    ap (λ (op : Option Op). is_right (length s.model.request) (length s.model.policy) at (length s.ops) op (height_at s.ops at)) (slice_get_past s.ops at past)
    ∙ ap (λ (height : Option ℕ). is_right (length s.model.request) (length s.model.policy) at (length s.ops) None height) high

lands_at : (s : Setting) (at from : ℕ) (op : Op) → IsRight s from → slice_get s.ops from ≡ Some op → jump op.instruction ≡ Some at → option_map (height_landing op.instruction) (height_at s.ops from) ≡ height_at s.ops at
lands_at s at from op right is goes =
    let same : right.op ≡ op = cc (sym right.stands ∙ is) in
    let landing = right.lands at (ap (λ (x : Op). jump x.instruction) same ∙ goes) in
    ap (option_map (height_landing op.instruction)) right.high ∙ ap (λ (x : Op). Some (height_landing x.instruction right.height)) (sym same) ∙ sym landing

pub right_is_verified : (s : Setting) → AreRight s 0 (length s.ops) 1 → IsVerified s.ops (length s.model.request) (length s.model.policy)
right_is_verified s are = record {
  each = λ at within.
      record {
        right = by_place at within (cases_lt at (length s.ops));
        landing = λ from op before is goes. lands_at s at from op (are.each from (omega arith) (slice_get_within s.ops from op is)) is goes;
      };
}
  where
    by_place : (at : ℕ) → at ≤ length s.ops → (at < length s.ops) ⊎ (length s.ops ≤ at)
        → is_right (length s.model.request) (length s.model.policy) at (length s.ops) (slice_get s.ops at) (height_at s.ops at) ≡ true
    by_place at within (inl before) = right_at s at (are.each at (omega arith) before)
    by_place at within (inr past) = let same : length s.ops ≡ at = omega arith in right_end s at past (subst (λ (n : ℕ). height_at s.ops n ≡ Some 1) same are.high)

pub right_is_low : (s : Setting) → 1 ≤ s.highest → AreRight s 0 (length s.ops) 1 → greatest_height s.ops ≤ s.highest
right_is_low s some are = greatest_below (Some 0) s.ops s.highest (λ n within. by_place n within (cases_lt n (length s.ops)))
  where
    by_place : (n : ℕ) → n ≤ length s.ops → (n < length s.ops) ⊎ (length s.ops ≤ n) → height_or_none (height_at s.ops n) ≤ s.highest
    by_place n within (inl before) = let right = are.each n (omega arith) before in subst (λ (height : Option ℕ). height_or_none height ≤ s.highest) (sym right.high) right.low
    by_place n within (inr past) =
        let same : length s.ops ≡ n = omega arith in
        subst (λ (height : Option ℕ). height_or_none height ≤ s.highest) (sym (subst (λ (m : ℕ). height_at s.ops m ≡ Some 1) same are.high)) some

-- the code of an expression that names what the model declares keeps the rules, and its height is no more than the expression has nodes
pub whole_keeps : (model : ModelParts) (e : Expression) → AreRelations model.relations → is_sound e ≡ true → are_named model (uses e) ≡ true
    → IsVerified (code_of model e) (length model.request) (length model.policy) × (greatest_height (code_of model e) ≤ nodes e)
whole_keeps model e relations sound named =
    let s : Setting = record { model = model; relations = relations; ops = code_of model e; highest = nodes e } in
    let low : nodes e ≤ nodes e = omega arith in
    let are = whole_right s e refl sound named low in
    (right_is_verified s are, right_is_low s (some_nodes e) are)
