-- Rules that are kept as code, through a look and one more rule; and what their code comes to.
use Rattle.std.proofs.Common.{◌≡◌, ◌⊎◌, inl, inr, ℕ, Bool, true, false, List, [], ◌∷◌, Option, Some, None, Result, Ok, Err, OnOk, OnErr, refl, sym, ap, subst, ◌∙◌}
use Rattle.std.specs.Prelude.{All, Contains, bytes_eq}
use Rattle.std.specs.Global.{Vec}
use Rattle.std.specs.Map.{lookup, set_value}
use Rattle.std.proofs.lemmas.List.Elements.{All-cons, All-head, All-tail, All-nil, All-contains, All-contains_itself, All-weaker}
use Rattle.std.proofs.lemmas.Slice.Eq.{bytes_eq-Decides}
use Rattle.lru.specs.LruCache.{LruCache, lru_cache, promoted, put_entries}
use Rattle.lru.proofs.CallerLemmas.{Contains-lookup, Contains-promoted, Contains-put_entries, IsPut}
use Rattle.effect_fold.specs.declared.fault.Fault.{Fault}
use Rattle.model_conf.specs.ModelText.{ModelParts}
use Rattle.perm_value.specs.Datum.{Datum}
use Rattle.matcher_meaning.specs.Answers.{Evaluation}
use Rattle.matcher_meaning.specs.Cases.{Case, where_refused}
use Rattle.matcher_meaning.specs.Comes.{RuleComesTo, all_at}
use Rattle.matcher_meaning.proofs.CallerLemmas.{placed_eval}
use Rattle.matcher_code.specs.Compiled.{has_eval_op}
use Rattle.matcher_code.specs.Helps.Kept.{AreKept, HasNoCode, IsCodeOf, IsFrameOf, TextComesTo}
use Rattle.matcher_code.specs.Machine.{CodeComesTo}
use Rattle.matcher_code.specs.RunEnds.{IsAnswer}
use Rattle.matcher_code.specs.declared.frame.Frame.{Frame}
use Rattle.matcher_code.specs.declared.no_truth.NoTruth.{NoTruth}
use Rattle.matcher_code.specs.declared.no_truth.NoTruth.TheVariants as stop
use Rattle.matcher_code.specs.declared.rule_code.RuleCode.{RuleCode}
use Rattle.matcher_code.proofs.BuildCode.{rule_comes}
use Rattle.matcher_code.proofs.BuildTakers.{whole_evaluates}

-- ---- what code comes to

-- there is no `eval` in it
pub code_without_eval : (model : ModelParts) (text : List ℕ) (code : RuleCode) → IsCodeOf model text code → has_eval_op code.code.ops ≡ false
code_without_eval model text code is = ap has_eval_op is.ops ∙ whole_evaluates model (all_at code.at is.rule) ∙ placed_eval code.at is.rule ∙ is.says.no_eval

-- the rule of the text comes to what the code does
pub code_comes : (case : Case) (text : List ℕ) (code : RuleCode) (is : IsCodeOf case.model text code) (r : Evaluation) → CodeComesTo case code.code.ops r → RuleComesTo case code.at is.rule r
code_comes case text code is r comes = rule_comes case.model is.rule code.at code.code.ops (text, is.says) is.ops case r refl comes

-- an `eval` ends so where its text has no code
pub no_code : (case : Case) (at : ℕ) (text : List ℕ) (value : Bool → Datum) (Refused : Option (List ℕ) → Type 0) (why : NoTruth) → HasNoCode case.model text at why → Refused None
    → IsAnswer (λ refused answer. TextComesTo (where_refused case refused) at text answer) value Refused (Err why)
no_code case at text value Refused (stop.Fault fault) none unrefused = inl (unrefused, inl (none.0, ap (λ (f : Fault). Err f) none.1))
no_code case at text value Refused stop.NoMemory none unrefused = unrefused

-- ---- rules that are kept

abbrev Rules : Type 0
Rules = LruCache (Vec ℕ) RuleCode

abbrev Entry : Type 0
Entry = Vec ℕ × RuleCode

abbrev IsKept : ModelParts → Entry → Type 0
IsKept model entry = IsCodeOf model entry.0.items entry.1

abbrev is_under : List ℕ → Vec ℕ → Bool
is_under text key = bytes_eq text key.items

abbrev are_same : Vec ℕ → Vec ℕ → Bool
are_same key other = bytes_eq key.items other.items

-- what is found under a text is its code
pub kept_under : (frame : Frame) (rules : Rules) (model : ModelParts) (text : List ℕ) (code : RuleCode) → AreKept frame rules → lookup (is_under text) rules.entries ≡ Some code → IsFrameOf frame model → IsCodeOf model text code
kept_under frame rules model text code kept there of_model =
    let at = Contains-lookup (is_under text) rules.entries code there in
    subst (λ (bytes : List ℕ). IsCodeOf model bytes code) (sym ((bytes_eq-Decides text at.0.items).0 at.2)) (All-contains (IsKept model) rules.entries (at.0, code) (kept.under model of_model) at.1)

set_kept : (model : ModelParts) (test : Vec ℕ → Bool) (entries : List Entry) (code : RuleCode) → All (IsKept model) entries → ((key : Vec ℕ) → test key ≡ true → IsCodeOf model key.items code)
    → All (IsKept model) (set_value test entries code)
set_kept model test [] code kept under = All-nil (IsKept model)
set_kept model test (e ∷ es) code kept under = (elim (test e.0) as (λ b. test e.0 ≡ b → All (IsKept model) (set_value test (e ∷ es) code)) [
  | true ↦ λ t. rw t (All-cons (IsKept model) (e.0, code) es (under e.0 t) (All-tail (IsKept model) e es kept))
  | false ↦ λ t. rw t (All-cons (IsKept model) e (set_value test es code) (All-head (IsKept model) e es kept) (set_kept model test es code (All-tail (IsKept model) e es kept) under))
]) refl

promoted_kept : (model : ModelParts) (test : Vec ℕ → Bool) (entries : List Entry) → All (IsKept model) entries → All (IsKept model) (promoted test entries)
promoted_kept model test entries kept = All-weaker (Contains (promoted test entries)) (IsKept model)
    (λ e stands. All-contains (IsKept model) entries e kept (Contains-promoted test entries e stands)) (promoted test entries) (All-contains_itself (promoted test entries))

-- a rule that was looked up, and is as it was
pub kept_used : (frame : Frame) (rules : Rules) (text : List ℕ) (code : RuleCode) → AreKept frame rules → lookup (is_under text) rules.entries ≡ Some code
    → AreKept frame (lru_cache (set_value (is_under text) (promoted (is_under text) rules.entries) code) rules.cap)
kept_used frame rules text code kept there = record {
  under = λ model of_model. set_kept model (is_under text) (promoted (is_under text) rules.entries) code (promoted_kept model (is_under text) rules.entries (kept.under model of_model))
      (λ key same. subst (λ (bytes : List ℕ). IsCodeOf model bytes code) ((bytes_eq-Decides text key.items).0 same) (kept_under frame rules model text code kept there of_model));
  most = kept.most;
}

-- one more rule
kept_put : (frame : Frame) (rules : Rules) (key : Vec ℕ) (code : RuleCode) → AreKept frame rules → ((model : ModelParts) → IsFrameOf frame model → IsCodeOf model key.items code)
    → AreKept frame (lru_cache (put_entries are_same rules key code) rules.cap)
kept_put frame rules key code kept is =
    let after = put_entries are_same rules key code in
    record {
      under = λ model of_model. All-weaker (Contains after) (IsKept model) (λ e stands. by model of_model e (Contains-put_entries are_same rules key code e stands)) after (All-contains_itself after);
      most = kept.most;
    }
  where
    under : (e : Entry) → (e.0 ≡ key) ⊎ ((w : RuleCode) × Contains rules.entries (e.0, w) × (are_same key e.0 ≡ true)) → key.items ≡ e.0.items
    under e (inl same) = sym (ap (λ (k : Vec ℕ). k.items) same)
    under e (inr stood) = (bytes_eq-Decides key.items e.0.items).0 stood.2

    by : (model : ModelParts) → IsFrameOf frame model → (e : Entry) → Contains rules.entries e ⊎ IsPut are_same rules key code e → IsKept model e
    by model of_model e (inl stood) = All-contains (IsKept model) rules.entries e (kept.under model of_model) stood
    by model of_model e (inr put) =
        subst (λ (one : RuleCode). IsCodeOf model e.0.items one) (sym put.0) (subst (λ (bytes : List ℕ). IsCodeOf model bytes code) (under e put.1) (is model of_model))

-- the same, where it may find no memory
pub kept_tried : {A E : Type 0} (frame : Frame) (old new : Rules) (key : Vec ℕ) (text : List ℕ) (code : RuleCode) (result : Result A E) → AreKept frame old → key.items ≡ text
    → ((model : ModelParts) → IsFrameOf frame model → IsCodeOf model text code)
    → OnOk result (new ≡ lru_cache (put_entries are_same old key code) old.cap) → OnErr result (new ≡ old) → AreKept frame new
kept_tried frame old new key text code (Ok a) kept under is ok err =
    subst (AreKept frame) (sym ok) (kept_put frame old key code kept (λ model of_model. subst (λ (bytes : List ℕ). IsCodeOf model bytes code) (sym under) (is model of_model)))
kept_tried frame old new key text code (Err e) kept under is ok err = subst (AreKept frame) (sym err) kept
