-- Edits that are appended to a policy.
use Rattle.std.proofs.Common.{◌≡◌, ℕ, zero, suc, ◌+◌, ◌-◌, ◌≤◌, Bool, true, false, cond, List, [], ◌∷◌, ◌++◌, drop, take, slice_get, length, length-append, length-take, Some, refl, sym, ap, subst, ◌∙◌, arith}
use Rattle.edit_calls.specs.Admitted.{AreAdmitted, admits}
use Rattle.log_ship.specs.Followers.{IsSameState}
use Rattle.log_ship.specs.Taken.{admitted, with_edits}
use Rattle.perm_base.specs.declared.shapes.Shapes.{Shapes}
use Rattle.policy_state.specs.States.{State, StandsFor, tables}
use Rattle.policy_table.specs.Changes.{edited, replay}
use Rattle.policy_table.specs.Tables.{Policy}
use Rattle.policy_table.specs.declared.change.Change.{Change}
use Rattle.policy_state.proofs.CallerLemmas.{stands_same}
use Rattle.version_log.specs.Log.{versions}

-- ---- the longest front that is admitted

-- the front of so many edits is admitted, and the next is not
pub record EndsAt (shapes : Shapes) (policy : Policy) (edits : List (List Change)) (count : ℕ) : Type 0 where
  pub few : count ≤ length edits
  pub front : AreAdmitted shapes policy (take count edits)
  pub next : (edit : List Change) → slice_get edits count ≡ Some edit → admits shapes (replay (take count edits) policy) edit ≡ false

-- as it is told of drafts
pub ends_at : (shapes own : Shapes) (policy drafts : Policy) (edits : List (List Change)) (count : ℕ) → own ≡ shapes → drafts ≡ policy → count ≤ length edits → AreAdmitted own drafts (take count edits)
    → ((edit : List Change) → slice_get edits count ≡ Some edit → admits own (replay (take count edits) drafts) edit ≡ false) → EndsAt shapes policy edits count
ends_at shapes own policy drafts edits count one other few front next =
    subst (λ (s : Shapes). EndsAt s policy edits count) one (subst (λ (p : Policy). EndsAt own p edits count) other (record { few = few; front = front; next = next }))

pub admitted_is : (shapes : Shapes) (policy : Policy) (edits : List (List Change)) (count : ℕ) → EndsAt shapes policy edits count → take count edits ≡ admitted shapes policy edits
admitted_is shapes policy [] zero ends = refl
admitted_is shapes policy [] (suc count) ends = refl
admitted_is shapes policy (edit ∷ edits) zero ends =
    sym (ap (λ (b : Bool). cond b (edit ∷ admitted shapes (edited edit policy) edits) []) (ends.next edit refl))
admitted_is shapes policy (edit ∷ edits) (suc count) ends =
    let rest = admitted_is shapes (edited edit policy) edits count (record { few = omega (arith, ends.few); front = ends.front.1; next = ends.next }) in
    ap (λ (l : List (List Change)). edit ∷ l) rest ∙ sym (ap (λ (b : Bool). cond b (edit ∷ admitted shapes (edited edit policy) edits) []) ends.front.0)

pub admitted_count : (shapes : Shapes) (policy : Policy) (edits : List (List Change)) (count : ℕ) → EndsAt shapes policy edits count → count ≡ length (admitted shapes policy edits)
admitted_count shapes policy edits count ends =
    omega (arith, length-take count edits, ends.few, ap (λ (l : List (List Change)). length l) (admitted_is shapes policy edits count ends))

pub admitted_shorter : (shapes : Shapes) (policy : Policy) (edits : List (List Change)) → length (admitted shapes policy edits) ≤ length edits
admitted_shorter shapes policy [] = omega arith
admitted_shorter shapes policy (edit ∷ edits) = by (admits shapes policy edit) (admitted_shorter shapes (edited edit policy) edits)
  where
    by : (b : Bool) → length (admitted shapes (edited edit policy) edits) ≤ length edits → length (cond b (edit ∷ admitted shapes (edited edit policy) edits) []) ≤ length (edit ∷ edits)
    by true rest = omega (arith, rest)
    by false rest = omega arith

-- edits that are all admitted are such a front
pub all_admitted : (shapes : Shapes) (policy : Policy) (edits : List (List Change)) → AreAdmitted shapes policy edits → admitted shapes policy edits ≡ edits
all_admitted shapes policy [] are = refl
all_admitted shapes policy (edit ∷ edits) are =
    ap (λ (b : Bool). cond b (edit ∷ admitted shapes (edited edit policy) edits) []) are.0 ∙ ap (λ (l : List (List Change)). edit ∷ l) (all_admitted shapes (edited edit policy) edits are.1)

-- ---- what a policy holds behind a commit

-- a policy to which edits were committed, and whose log starts where it did, has them behind the others
pub appended_state : (before ready after : State) (edits : List (List Change)) (start : ℕ) → IsSameState before ready → after.shapes ≡ ready.shapes → after.key ≡ ready.key → start ≡ before.log.start → after.log.start ≡ start
    → after.log.tail ≡ drop (start - ready.log.start) ready.log.tail ++ edits → tables after ≡ replay edits (tables ready) → IsSameState (with_edits edits before) after
appended_state before ready after edits start same shapes key from begun tail made = record {
  shapes = shapes ∙ same.shapes;
  key = key ∙ same.key;
  start = begun ∙ from;
  tail =
      let none : start - ready.log.start ≡ 0 = omega (arith, from, same.start) in
      tail ∙ ap (λ (n : ℕ). drop n ready.log.tail ++ edits) none ∙ ap (λ (l : List (List Change)). l ++ edits) same.tail;
  tables_are = made ∙ ap (replay edits) same.tables_are;
}

-- ---- policies that are the same

pub same_tables : (before now : State) → IsSameState before now → tables now ≡ tables before
same_tables before now same = same.tables_are

pub same_version : (before now : State) → IsSameState before now → versions now.log ≡ versions before.log
same_version before now same = omega (arith, same.start, ap (λ (l : List (List Change)). length l) same.tail)

pub same_itself : (state : State) → IsSameState state state
same_itself state = record { shapes = refl; key = refl; start = refl; tail = refl; tables_are = refl }

pub same_stands : (before now : State) (opening : Policy) (history : List (List Change)) → IsSameState before now → StandsFor before opening history → StandsFor now opening history
same_stands before now opening history same stands = stands_same before now opening history same.start same.tail same.tables_are stands

-- the tables and the version with edits behind the others
pub more_tables : (state : State) (edits : List (List Change)) → tables (with_edits edits state) ≡ replay edits (tables state)
more_tables state edits = refl

pub more_versions : (state : State) (edits : List (List Change)) → versions (with_edits edits state).log ≡ versions state.log + length edits
more_versions state edits = omega (arith, length-append state.log.tail edits)
