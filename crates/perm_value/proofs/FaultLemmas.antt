-- The first fault of the members of an array.
use Rattle.std.proofs.Common.{◌≡◌, ℕ, ◌+◌, ◌<◌, ◌≤◌, true, false, nat_lt, Option, Some, Vec, Global, List, [], ◌∷◌, ◌++◌, length, get_or, take, drop, Result, Ok, Err, refl, sym, ap, ◌∙◌, subst, arith}
use Rattle.std.proofs.lemmas.List.{take-append-drop, take_more, length-take}
use Rattle.serde_json.specs.Data.{Data}
use Rattle.serde_json.specs.Events.{items_len}
use Rattle.serde_json.specs.View.{view, items_view}
use Rattle.serde_json.proofs.Views.{view-Array, items_len-items_view}
use Rattle.serde_json.specs.declared.value.Value as json_value
use Rattle.perm_value.specs.Datum.{Datum}
use Rattle.perm_value.specs.Json.{most_values, member_value, onto_answers, values_from, values_of_items, values_of}
use Rattle.perm_value.specs.declared.request.RequestFault.{RequestFault}
use Rattle.perm_value.specs.declared.request.RequestFault.TheVariants as fault

abbrev Answer : Type 0
Answer = Result Datum RequestFault

abbrev Answers : Type 0
Answers = Result (List Datum) RequestFault

-- answers, and one more behind them
abbrev pub then_answer : Answers → Answer → Answers
then_answer (Err e) last = Err e
then_answer (Ok ds) (Err e) = Err e
then_answer (Ok ds) (Ok d) = Ok (ds ++ d ∷ [])

one_answer : (m : Answer) → onto_answers m (Ok []) ≡ then_answer (Ok []) m
one_answer (Ok d) = refl
one_answer (Err e) = refl

commute : (m : Answer) (r : Answers) (last : Answer) → onto_answers m (then_answer r last) ≡ then_answer (onto_answers m r) last
commute (Err e) r last = refl
commute (Ok d) (Err e) last = refl
commute (Ok d) (Ok ds) (Err e) = refl
commute (Ok d) (Ok ds) (Ok x) = refl

values_end : (field : ℕ) (js : List json_value.Value) (j : json_value.Value) → values_from field (items_view (js ++ j ∷ [])) ≡ then_answer (values_from field (items_view js)) (member_value (field + length js) (view j))
values_end field [] j =
    let here : field + 0 ≡ field = omega arith in
    one_answer (member_value field (view j)) ∙ ap (λ f. then_answer (Ok []) (member_value f (view j))) (sym here)
values_end field (k ∷ js) j =
    let later : field + 1 + length js ≡ field + length (k ∷ js) = omega arith in
    ap (onto_answers (member_value field (view k))) (values_end (field + 1) js j)
    ∙ commute (member_value field (view k)) (values_from (field + 1) (items_view js)) (member_value (field + 1 + length js) (view j))
    ∙ ap (λ f. then_answer (values_from field (items_view (k ∷ js))) (member_value f (view j))) later

keeps : (m : Answer) (r s : Answers) (e : RequestFault) → ((e' : RequestFault) → r ≡ Err e' → s ≡ Err e') → onto_answers m r ≡ Err e → onto_answers m s ≡ Err e
keeps (Err e) r s e2 same h = h
keeps (Ok d) (Err e) s e2 same h = rw (same e refl) h
keeps (Ok d) (Ok ds) s e2 same h = absurd cc

-- what stands behind a first fault changes nothing
fault_stays : (field : ℕ) (js more : List json_value.Value) (e : RequestFault) → values_from field (items_view js) ≡ Err e → values_from field (items_view (js ++ more)) ≡ Err e
fault_stays field [] more e h = absurd cc
fault_stays field (j ∷ js) more e h = keeps (member_value field (view j)) (values_from (field + 1) (items_view js)) (values_from (field + 1) (items_view (js ++ more))) e (λ e'. fault_stays (field + 1) js more e') h

at_place : (js : List json_value.Value) (i : ℕ) → i < length js → 1 + length (take i js) ≡ i + 1
at_place js i within = grind (arith, length-take)

stops : (js : List json_value.Value) (i : ℕ) (j : json_value.Value) → i < length js → values_from 1 (items_view (take (i + 1) js)) ≡ then_answer (values_from 1 (items_view (take i js))) (member_value (i + 1) (view (get_or js i j)))
stops js i j within =
    ap (λ xs. values_from 1 (items_view xs)) (take_more js i j within)
    ∙ values_end 1 (take i js) (get_or js i j)
    ∙ ap (λ f. then_answer (values_from 1 (items_view (take i js))) (member_value f (view (get_or js i j)))) (at_place js i within)

-- one member more
pub one_more : (js : List json_value.Value) (i : ℕ) (j : json_value.Value) (ds : List Datum) (d : Datum) → i < length js
    → values_from 1 (items_view (take i js)) ≡ Ok ds → member_value (i + 1) (view (get_or js i j)) ≡ Ok d → values_from 1 (items_view (take (i + 1) js)) ≡ Ok (ds ++ d ∷ [])
one_more js i j ds d within before here = stops js i j within ∙ rw (before, here) refl

-- the first fault
pub first_fault : (js : List json_value.Value) (i : ℕ) (j : json_value.Value) (ds : List Datum) (e : RequestFault) → i < length js
    → values_from 1 (items_view (take i js)) ≡ Ok ds → member_value (i + 1) (view (get_or js i j)) ≡ Err e → values_from 1 (items_view js) ≡ Err e
first_fault js i j ds e within before here =
    let stopped : values_from 1 (items_view (take (i + 1) js)) ≡ Err e = stops js i j within ∙ rw (before, here) refl in
    subst (λ xs. values_from 1 (items_view xs) ≡ Err e) (take-append-drop (i + 1) js) (fault_stays 1 (take (i + 1) js) (drop (i + 1) js) e stopped)

-- the array that was read
pub array_read : (found : Option Data) (j : json_value.Value) (list : Vec json_value.Value Global) → found ≡ Some (view j) → j ≡ json_value.Array list → values_of found ≡ values_of_items (items_view list.items)
array_read found j list read is = rw (read, is, view-Array list) refl

pub many_members : (js : List json_value.Value) → most_values < length js → values_of_items (items_view js) ≡ Err fault.TooMany
many_members js many =
    let test : nat_lt most_values (items_len (items_view js)) ≡ true = rw (items_len-items_view js) (grind (arith)) in
    rw test refl

pub few_members : (js : List json_value.Value) → length js ≤ most_values → values_of_items (items_view js) ≡ values_from 1 (items_view js)
few_members js few =
    let test : nat_lt most_values (items_len (items_view js)) ≡ false = rw (items_len-items_view js) (grind (arith)) in
    rw test refl
