-- Room that is made for the slots of one change, of one edit and of one edit after the other.
use Rattle.std.proofs.Common.{◌≡◌, ℕ, zero, suc, ◌+◌, ◌<◌, ◌≤◌, ◌==◌, Bool, true, false, cond, if◌then◌else◌, List, [], ◌∷◌, ◌++◌, length, take, get_or, refl, sym, ap, subst, ◌∙◌, arith, append_assoc, append-nil, length-append, Result, Ok, Err, OnOk}
use Rattle.std.proofs.lemmas.Bool.{and_parts, eqb-true}
use Rattle.std.proofs.lemmas.List.{take_more}
use Rattle.std.proofs.lemmas.List.Folds.{list_all-append}
use Rattle.std.proofs.lemmas.List.Sums.{sum_by-append, sum_by_more}
use Rattle.policy_table.specs.Changes.{flat}
use Rattle.policy_table.specs.declared.change.Change.{Change}
use Rattle.policy_index.specs.Helps.Kept.{one_if}
use Rattle.policy_index.specs.Indexed.{all_fit, fits_key, puts, puts_hash, slots_taken, takes_slot}
use Rattle.policy_index.specs.Keys.{KeyParts}
use Rattle.policy_index.specs.Lists.{Lists, room_at, slots_at}

-- each of changes that fit does
pub fits_at : (key : KeyParts) (changes : List Change) (at : ℕ) (change : Change) → all_fit key changes ≡ true → at < length changes → get_or changes at change ≡ change → fits_key key change ≡ true
fits_at key [] at change fit within here = absurd (omega (arith, within))
fits_at key (c ∷ cs) zero change fit within here = ap (fits_key key) (sym here) ∙ (and_parts (fits_key key c) (all_fit key cs) fit).0
fits_at key (c ∷ cs) (suc at) change fit within here = fits_at key cs at change (and_parts (fits_key key c) (all_fit key cs) fit).1 (omega (arith, within)) here

-- so does each edit of those
pub fits_edit : (key : KeyParts) (edits : List (List Change)) (at : ℕ) (edit : List Change) → all_fit key (flat edits) ≡ true → at < length edits → get_or edits at edit ≡ edit → all_fit key edit ≡ true
fits_edit key [] at edit fit within here = absurd (omega (arith, within))
fits_edit key (e ∷ es) zero edit fit within here =
    ap (all_fit key) (sym here) ∙ (and_parts (all_fit key e) (all_fit key (flat es)) (sym (list_all-append (fits_key key) e (flat es)) ∙ fit)).0
fits_edit key (e ∷ es) (suc at) edit fit within here =
    fits_edit key es at edit (and_parts (all_fit key e) (all_fit key (flat es)) (sym (list_all-append (fits_key key) e (flat es)) ∙ fit)).1 (omega (arith, within)) here

-- one change more puts in one rule more under a hash, or none
pub puts_more : (key : KeyParts) (hash : ℕ) (changes : List Change) (at : ℕ) (change : Change) → at < length changes → get_or changes at change ≡ change
    → puts key hash (take (at + 1) changes) ≡ puts key hash (take at changes) + (if puts_hash key hash change then 1 else 0)
puts_more key hash changes at change within here =
    sum_by_more (λ (c : Change). cond (puts_hash key hash c) 1 0) changes at change within ∙ ap (λ (c : Change). puts key hash (take at changes) + cond {A = ℕ} (puts_hash key hash c) 1 0) here

flat_push : (edits : List (List Change)) (edit : List Change) → flat (edits ++ edit ∷ []) ≡ flat edits ++ edit
flat_push [] edit = append-nil edit
flat_push (e ∷ es) edit = ap (λ (l : List Change). e ++ l) (flat_push es edit) ∙ sym (append_assoc e (flat es) edit)

-- one edit more puts in what its changes do
pub puts_edit : (key : KeyParts) (hash : ℕ) (edits : List (List Change)) (at : ℕ) (edit : List Change) → at < length edits → get_or edits at edit ≡ edit
    → puts key hash (flat (take (at + 1) edits)) ≡ puts key hash (flat (take at edits)) + puts key hash edit
puts_edit key hash edits at edit within here =
    ap (λ (l : List (List Change)). puts key hash (flat l)) (take_more edits at edit within ∙ ap (λ (e : List Change). take at edits ++ e ∷ []) here)
    ∙ ap (puts key hash) (flat_push (take at edits) edit)
    ∙ sum_by-append (λ (c : Change). cond (puts_hash key hash c) 1 0) (flat (take at edits)) edit

-- one edit more takes the slots that its changes do
pub taken_edit : (edits : List (List Change)) (at : ℕ) (edit : List Change) → at < length edits → get_or edits at edit ≡ edit → slots_taken (flat (take (at + 1) edits)) ≡ slots_taken (flat (take at edits)) + slots_taken edit
taken_edit edits at edit within here =
    ap (λ (l : List (List Change)). slots_taken (flat l)) (take_more edits at edit within ∙ ap (λ (e : List Change). take at edits ++ e ∷ []) here)
    ∙ ap slots_taken (flat_push (take at edits) edit)
    ∙ sum_by-append (λ (c : Change). cond (takes_slot c) 1 0) (flat (take at edits)) edit

-- what holds holds where a call is not refused
pub on_ok : {T E : Type 0} (r : Result T E) (X : Type 0) → X → OnOk r X
on_ok (Ok x) X is = is
on_ok (Err e) X is = tt

-- one slot more is counted
pub counted_one : (hash other : ℕ) (puts : Bool) (old new : Lists) → puts ≡ (hash == other) → slots_at new other ≡ (if hash == other then slots_at old other ++ 0 ∷ [] else slots_at old other)
    → length (slots_at new other) ≡ length (slots_at old other) + one_if puts
counted_one hash other puts old new is added = ap length added ∙ by (hash == other) ∙ ap (λ (b : Bool). length (slots_at old other) + one_if b) (sym is)
  where
    by : (b : Bool) → length (if b then slots_at old other ++ 0 ∷ [] else slots_at old other) ≡ length (slots_at old other) + one_if b
    by true = length-append (slots_at old other) (0 ∷ [])
    by false = omega arith

-- and there is room for as many as are counted
pub room_one : (hash other : ℕ) (old new before after : Lists) (count : ℕ) → count ≡ length (slots_at new hash) → count ≤ room_at after hash → ((h : ℕ) → room_at before h ≤ room_at after h)
    → slots_at new other ≡ (if hash == other then slots_at old other ++ 0 ∷ [] else slots_at old other)
    → length (slots_at old other) ≤ room_at before other → length (slots_at new other) ≤ room_at after other
room_one hash other old new before after count counted room more added low = by (hash == other) refl added
  where
    by : (b : Bool) → (hash == other) ≡ b → slots_at new other ≡ (if b then slots_at old other ++ 0 ∷ [] else slots_at old other) → length (slots_at new other) ≤ room_at after other
    by true same is = subst (λ (h : ℕ). length (slots_at new h) ≤ room_at after h) (eqb-true hash other same) (omega (arith, counted, room))
    by false same is = omega (arith, ap length is, low, more other)
