-- What a finder refused for an item, and for items one after the other.
use Rattle.std.proofs.Common.{◌≡◌, ℕ, List, [], ◌∷◌, ◌++◌, inl, inr, refl, sym, ap, subst, ◌∙◌}
use Rattle.std.specs.Prelude.{Contains, OnErr, Result, Ok, Err}
use Rattle.std.proofs.lemmas.List.{append_cancel_left}
use Rattle.effect_fold.specs.declared.verdict.Verdict.{Verdict}
use Rattle.matcher_meaning.specs.Verdicts.{IsJudged}
use Rattle.model_conf.specs.ModelText.{ModelParts}
use Rattle.perm_base.specs.declared.shapes.Shapes.{Shapes}
use Rattle.perm_value.specs.Datum.{Datum}
use Rattle.policy_table.specs.Tables.{Policy}
use Rattle.regex_gate.proofs.CallerLemmas.{used_grown}
use Rattle.regex_gate.specs.Refusals.{IsRefused, IsUsed, Refusals, after_refusal, after_refusals}
use Rattle.script_read.specs.Said.{Said}
use Rattle.session_meaning.proofs.CallerLemmas.{all_more}
use Rattle.session_meaning.specs.Plain.{all_refused}
use Rattle.desk_session.specs.Requests.{Refuses}

-- these patterns more, and then those
refusals_more : (before : Refusals) (some others : List (List ℕ)) → after_refusals before (some ++ others) ≡ after_refusals (after_refusals before some) others
refusals_more before [] others = refl
refusals_more before (pattern ∷ some) others = refusals_more (after_refusal before pattern) some others

-- the log got these patterns
pub logs_more : (before : Refusals) (more : List (List ℕ)) → (after_refusals before more).patterns ≡ before.patterns ++ more
logs_more before more = used_grown before (after_refusals before more) (record { more = more; refused = refl })

-- what holds, holds after an error
pub on_err_of : {X E P : Type 0} (r : Result X E) → P → OnErr r P
on_err_of (Ok x) is = tt
on_err_of (Err e) is = is

-- ---- one item

-- the finder was not asked
abbrev pub none_asked : (model : ModelParts) (refusals : Refusals) (item : Said) → Refuses model refusals refusals item
none_asked model refusals item = record { refused = []; logged = refl; unasked = λ calm. refl }

-- what it refused is a use of it
pub asked_used : (model : ModelParts) (before now : Refusals) (item : Said) → Refuses model before now item → IsUsed before now
asked_used model before now item asked = record { more = asked.refused; refused = asked.logged }

-- a pattern that the log got is among those that were refused
refused_in : (before now : Refusals) (refused : List (List ℕ)) (pattern : List ℕ) → now ≡ after_refusals before refused → IsRefused before now pattern → Contains refused pattern
refused_in before now refused pattern logged is =
    let same : is.more ≡ refused = append_cancel_left before.patterns is.more refused (sym is.grown ∙ ap (λ (r : Refusals). r.patterns) logged ∙ logs_more before refused) in
    subst (λ (more : List (List ℕ)). Contains more pattern) same is.logged

-- what is judged, is so by these
pub judged_in : (model : ModelParts) (shapes : Shapes) (policy : Policy) (values : List Datum) (before now : Refusals) (refused : List (List ℕ)) (v : Verdict) → now ≡ after_refusals before refused
    → IsJudged model shapes policy values (IsRefused before now) v → IsJudged model shapes policy values (Contains refused) v
judged_in model shapes policy values before now refused v logged (inl is) = inl is
judged_in model shapes policy values before now refused v logged (inr (refusal, bad, fault, is)) = inr (refusal, refused_in before now refused refusal.pattern logged bad, fault, is)

-- ---- items one after the other

pub logged_more : (before now later : Refusals) (refused : List (List (List ℕ))) (more : List (List ℕ)) → now ≡ after_refusals before (all_refused refused) → later ≡ after_refusals now more → later ≡ after_refusals before (all_refused (refused ++ more ∷ []))
logged_more before now later refused more logged last =
    last ∙ ap (λ (r : Refusals). after_refusals r more) logged ∙ sym (refusals_more before (all_refused refused) more) ∙ ap (after_refusals before) (sym (all_more refused more))
