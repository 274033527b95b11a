-- Lists of edits that are admitted one after the other.
use Rattle.std.proofs.Common.{◌≡◌, ℕ, zero, suc, ◌+◌, ◌≤◌, Bool, true, false, List, [], ◌∷◌, ◌++◌, length, take, slice_get, Some, refl, sym, ap, subst, ◌∙◌, true≢false, arith}
use Rattle.std.proofs.lemmas.List.{append-nil}
use Rattle.std.proofs.lemmas.Option.{same_Some, slice_get_within}
use Rattle.perm_base.specs.declared.shapes.Shapes.{Shapes}
use Rattle.policy_table.specs.Changes.{edited, flat, replay}
use Rattle.policy_table.specs.Limits.{AreSound}
use Rattle.policy_table.specs.Tables.{AreLists, IsKept, Policy}
use Rattle.policy_table.specs.declared.change.Change.{Change}
use Rattle.edit_calls.specs.Admitted.{AreAdmitted, admits}
use Rattle.edit_calls.proofs.AdmitLemmas.{admitted_sound}
use Rattle.edit_calls.proofs.EditLemmas.{taken}
use Rattle.policy_table.proofs.CallerLemmas.{are_lists, counted_edited}

-- edits in two parts are made part by part
pub replay_both : (front back : List (List Change)) (policy : Policy) → replay (front ++ back) policy ≡ replay back (replay front policy)
replay_both [] back policy = refl
replay_both (edit ∷ front) back policy = replay_both front back (edited edit policy)

-- the first part of edits that are admitted is admitted
pub front_admitted : (shapes : Shapes) (policy : Policy) (front back : List (List Change)) → AreAdmitted shapes policy (front ++ back) → AreAdmitted shapes policy front
front_admitted shapes policy [] back are = tt
front_admitted shapes policy (edit ∷ front) back are = (are.0, front_admitted shapes (edited edit policy) front back are.1)

-- the second part is, in the tables after the first
pub back_admitted : (shapes : Shapes) (policy : Policy) (front back : List (List Change)) → AreAdmitted shapes policy (front ++ back) → AreAdmitted shapes (replay front policy) back
back_admitted shapes policy [] back are = are
back_admitted shapes policy (edit ∷ front) back are = back_admitted shapes (edited edit policy) front back are.1

-- and where both parts are, all of them are
pub all_admitted : (shapes : Shapes) (policy : Policy) (front back : List (List Change)) → AreAdmitted shapes policy front → AreAdmitted shapes (replay front policy) back → AreAdmitted shapes policy (front ++ back)
all_admitted shapes policy [] back first second = second
all_admitted shapes policy (edit ∷ front) back first second = (first.0, all_admitted shapes (edited edit policy) front back first.1 second)

-- one edit more that is admitted
module _ (shapes : Shapes) (policy : Policy) (edits : List (List Change)) (at : ℕ) (edit : List Change) (here : slice_get edits at ≡ Some edit) where
  pub one_more : AreAdmitted shapes policy (take at edits) → admits shapes (replay (take at edits) policy) edit ≡ true → AreAdmitted shapes policy (take (at + 1) edits)
  one_more are is = subst (AreAdmitted shapes policy) (sym (taken edits at edit here)) (all_admitted shapes policy (take at edits) (edit ∷ []) are (is, tt))

  pub replay_more : replay (take (at + 1) edits) policy ≡ edited edit (replay (take at edits) policy)
  replay_more = ap (λ l. replay l policy) (taken edits at edit here) ∙ replay_both (take at edits) (edit ∷ []) policy

-- an edit that is not admitted ends the front
pub front_ends : (shapes : Shapes) (policy : Policy) (edits : List (List Change)) (at : ℕ) (edit : List Change) → slice_get edits at ≡ Some edit → admits shapes (replay (take at edits) policy) edit ≡ false
    → (other : ℕ) → AreAdmitted shapes policy (take other edits) → other ≤ at
front_ends shapes policy [] at edit here not zero are = omega arith
front_ends shapes policy [] at edit here not (suc other) are = absurd cc
front_ends shapes policy (first ∷ edits) zero edit here not zero are = omega arith
front_ends shapes policy (first ∷ edits) zero edit here not (suc other) are =
    absurd (true≢false (sym are.0 ∙ ap (λ (e : List Change). admits shapes policy e) (same_Some first edit here) ∙ not))
front_ends shapes policy (first ∷ edits) (suc at) edit here not zero are = omega arith
front_ends shapes policy (first ∷ edits) (suc at) edit here not (suc other) are =
    let rest = front_ends shapes (edited first policy) edits at edit here not other are.1 in
    omega (arith, rest)

-- tables after the edits in front, and the next edit
module _ (shapes : Shapes) (policy : Policy) (edits : List (List Change)) (at : ℕ) (edit : List Change) (here : slice_get edits at ≡ Some edit) (now : Policy) (made : now ≡ replay (take at edits) policy) where
  -- that they admit it is said of the tables after the edits in front
  said : (b : Bool) → admits shapes now edit ≡ b → admits shapes (replay (take at edits) policy) edit ≡ b
  said b is = ap (λ p. admits shapes p edit) (sym made) ∙ is

  -- where they do not, the front ends there
  pub not_next : admits shapes now edit ≡ false → (other : List Change) → slice_get edits at ≡ Some other → admits shapes (replay (take at edits) policy) other ≡ false
  not_next not other there = ap (λ e. admits shapes (replay (take at edits) policy) e) (same_Some other edit (sym there ∙ here)) ∙ said false not

  pub not_longer : admits shapes now edit ≡ false → (other : ℕ) → AreAdmitted shapes policy (take other edits) → other ≤ at
  not_longer not = front_ends shapes policy edits at edit here (said false not)

  -- and where they do, it goes on
  pub front_more : AreAdmitted shapes policy (take at edits) → admits shapes now edit ≡ true → AreAdmitted shapes policy (take (at + 1) edits)
  front_more are is = one_more shapes policy edits at edit here are (said true is)

  pub made_more : (next : Policy) → next ≡ edited edit now → next ≡ replay (take (at + 1) edits) policy
  made_more next is = is ∙ ap (edited edit) made ∙ sym (replay_more shapes policy edits at edit here)

-- no edit stands behind the last
pub none_behind : (edits : List (List Change)) (edit : List Change) → slice_get edits (length edits) ≡ Some edit → ⊥
none_behind edits edit here = omega (arith, slice_get_within edits (length edits) edit here)

-- the changes of an edit alone
pub flat_alone : (edit : List Change) → flat (edit ∷ []) ≡ edit
flat_alone edit = append-nil edit

-- an edit that sound tables admit can be made in them, alone, and leaves tables that are lists
module _ (shapes : Shapes) (policy : Policy) (edit : List Change) (edits : List (List Change)) (alone : edits ≡ edit ∷ []) where
  pub as_one : admits shapes policy (flat edits) ≡ admits shapes policy edit
  as_one = ap (λ l. admits shapes policy l) (ap flat alone ∙ flat_alone edit)

  pub made_as_one : edited (flat edits) policy ≡ edited edit policy
  made_as_one = ap (λ l. edited l policy) (ap flat alone ∙ flat_alone edit)

  module _ (sound : AreSound shapes policy) (is : admits shapes policy (flat edits) ≡ true) where
    pub one_sound : AreSound shapes (edited edit policy)
    one_sound = admitted_sound shapes policy edit sound (sym as_one ∙ is)

    pub one_listed : IsKept policy → AreLists (edited (flat edits) policy).lists
    one_listed kept =
        let after = admitted_sound shapes policy (flat edits) sound is in
        are_lists shapes (edited (flat edits) policy) (counted_edited (flat edits) policy ∙ kept.lists.counted) after.shaped after.within
