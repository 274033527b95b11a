-- The room that changes need, and the changes of edits.
use Rattle.std.proofs.Common.{◌≡◌, ℕ, ◌+◌, ◌<◌, ◌++◌, ◌∷◌, ◌∙◌, Bool, true, false, cond, List, [], length, take, get_or, refl, sym, ap, append_assoc}
use Rattle.std.specs.Prelude.{if◌then◌else◌}
use Rattle.std.proofs.lemmas.List.{append-nil, length-append, take_more}
use Rattle.std.proofs.lemmas.List.Elements.{filter-append}
use Rattle.policy_table.specs.Changes.{flat}
use Rattle.policy_table.specs.Held.{needed, puts_at}
use Rattle.policy_table.specs.declared.change.Change.{Change}

-- the room that changes need is that of their parts
pub needed-append : (at : ℕ) (front back : List Change) → needed at (front ++ back) ≡ needed at front + needed at back
needed-append at front back = rw (filter-append (puts_at at) front back) (length-append _ _)

-- the room that one more change needs is added
pub needed_more : (at : ℕ) (changes : List Change) (i : ℕ) (change : Change) → i < length changes → change ≡ get_or changes i change
    → needed at (take (i + 1) changes) ≡ needed at (take i changes) + needed at (change ∷ [])
needed_more at changes i change within is = rw (take_more changes i change within, ← is) (needed-append at (take i changes) (change ∷ []))

-- and that is one place where it puts a rule in
pub needed_one : (at : ℕ) (change : Change) (puts : Bool) → puts ≡ puts_at at change → needed at (change ∷ []) ≡ (if puts then 1 else 0)
needed_one at change puts told = by (puts_at at change) ∙ ap (λ (b : Bool). if b then 1 else 0) (sym told)
  where
    by : (b : Bool) → length (cond b (change ∷ []) []) ≡ (if b then 1 else 0)
    by true = refl
    by false = refl

-- one more edit has its changes behind those before
pub flat_push : (edits : List (List Change)) (edit : List Change) → flat (edits ++ edit ∷ []) ≡ flat edits ++ edit
flat_push [] edit = append-nil edit
flat_push (first ∷ edits) edit = rw (flat_push edits edit) (sym (append_assoc first (flat edits) edit))

-- the changes of one more edit are added
pub flat_more : (edits : List (List Change)) (i : ℕ) (edit : List Change) → i < length edits → edit ≡ get_or edits i edit → flat (take (i + 1) edits) ≡ flat (take i edits) ++ edit
flat_more edits i edit within is = rw (take_more edits i edit within, ← is) (flat_push (take i edits) edit)
