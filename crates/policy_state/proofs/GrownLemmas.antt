-- Tables that have grown by edits.
use Rattle.std.proofs.Common.{◌≡◌, ℕ, List, [], ◌++◌, take, drop, refl, sym, ap, subst, ◌∙◌}
use Rattle.std.proofs.lemmas.List.{take-append-drop}
use Rattle.edit_calls.specs.Admitted.{AreAdmitted}
use Rattle.perm_base.specs.declared.shapes.Shapes.{Shapes}
use Rattle.policy_state.specs.States.{IsGrown}
use Rattle.policy_state.proofs.AdmittedLemmas.{KeepSound, admitted_both, admitted_front, admitted_rest, all_sound}
use Rattle.policy_table.specs.Changes.{replay}
use Rattle.policy_table.specs.Limits.{AreSound}
use Rattle.policy_table.specs.Tables.{Policy}
use Rattle.policy_table.specs.declared.change.Change.{Change}
use Rattle.policy_table.proofs.CallerLemmas.{replayed}
use Rattle.version_log.proofs.CallerLemmas.{replay_both}

-- by no edits, where they are sound
pub grown_new : (shapes : Shapes) (policy : Policy) (edits : List (List Change)) → edits ≡ [] → AreSound shapes policy → IsGrown shapes edits policy
grown_new shapes policy edits none sound = subst (λ (l : List (List Change)). IsGrown shapes l policy) (sym none) (record { base = policy; sound = sound; admitted = tt; tables = refl })

-- as they were
pub grown_same : (shapes : Shapes) (edits after : List (List Change)) (policy new : Policy) → after ≡ edits → new ≡ policy → IsGrown shapes edits policy → IsGrown shapes after new
grown_same shapes edits after policy new same here grown = record {
  base = grown.base;
  sound = grown.sound;
  admitted = subst (AreAdmitted shapes grown.base) (sym same) grown.admitted;
  tables = here ∙ grown.tables ∙ ap (λ (l : List (List Change)). replay l grown.base) (sym same);
}

-- by further edits, also where the first of them go
pub grown_more : (shapes : Shapes) → KeepSound shapes → (n : ℕ) (tail edits after : List (List Change)) (policy new : Policy) → IsGrown shapes tail policy → AreAdmitted shapes policy edits
    → after ≡ drop n tail ++ edits → new ≡ replay edits policy → IsGrown shapes after new
grown_more shapes keep n tail edits after policy new grown more rest made = record {
  base = base;
  sound = subst (AreSound shapes) (sym (replayed (take n tail) grown.base)) (all_sound shapes keep grown.base (take n tail) grown.sound (admitted_front shapes (take n tail) (drop n tail) grown.base whole));
  admitted =
      subst (AreAdmitted shapes base) (sym rest)
      (admitted_both shapes (drop n tail) edits base (admitted_rest shapes (take n tail) (drop n tail) grown.base whole) (subst (λ (p : Policy). AreAdmitted shapes p edits) here more));
  tables = made ∙ ap (replay edits) here ∙ sym (replay_both (drop n tail) edits base) ∙ ap (λ (l : List (List Change)). replay l base) (sym rest);
}
  where
    base : Policy
    base = replay (take n tail) grown.base

    whole : AreAdmitted shapes grown.base (take n tail ++ drop n tail)
    whole = subst (AreAdmitted shapes grown.base) (sym (take-append-drop n tail)) grown.admitted

    here : policy ≡ replay (drop n tail) base
    here = grown.tables ∙ ap (λ (l : List (List Change)). replay l grown.base) (sym (take-append-drop n tail)) ∙ replay_both (take n tail) (drop n tail) grown.base
