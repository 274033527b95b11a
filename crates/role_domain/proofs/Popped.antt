-- The last entry of a map by texts, once it is taken out.
use Rattle.std.proofs.Common.{◌≡◌, ◌+◌, ℕ, Bool, true, false, cond, List, [], ◌∷◌, ◌++◌, Option, None, Some, length, sym, ap, ◌∙◌, length-append}
use Rattle.std.specs.Prelude.{IfSome}
use Rattle.std.specs.Option.{option_to_list}
use Rattle.std.specs.Str.{bytes_eq}
use Rattle.indexmap.specs.IndexMap.{IndexMap, Updates}
use Rattle.role_domain.specs.Domains.{found}
use Rattle.role_domain.proofs.Keyed.{found_other, found_there, text_itself}

found_last : {X : Type 0} (entries : List (List ℕ × X)) (text : List ℕ) (value : X) → found entries text ≡ None → found (entries ++ (text, value) ∷ []) text ≡ Some value
found_last {X} [] text value none = ap (λ (b : Bool). cond b (Some value) None) (text_itself text)
found_last {X} (entry ∷ entries) text value none = by (bytes_eq text entry.0) none (found_last entries text value)
  where
    by : (b : Bool) → cond b (Some entry.1) (found entries text) ≡ None → (found entries text ≡ None → found (entries ++ (text, value) ∷ []) text ≡ Some value) → cond b (Some entry.1) (found (entries ++ (text, value) ∷ []) text) ≡ Some value
    by true none more = absurd cc
    by false none more = more none

pub pop_there : {X S : Type 0} (result : Option (List ℕ × X)) (old new : IndexMap (List ℕ) X S) (seen : List (List ℕ × X)) → old.entries ≡ seen → old.entries ≡ new.entries ++ option_to_list result → IfSome result (λ one. Updates bytes_eq old new one.0 None) → IfSome result (λ one. found seen one.0 ≡ Some one.1)
pop_there None old new seen view is updates = tt
pop_there {X} (Some one) old new seen view is updates =
    ap (λ (l : List (List ℕ × X)). found l one.0) (sym view ∙ is)
    ∙ found_last new.entries one.0 one.1 (found_there one.0 new.entries None updates.1)

pub pop_gone : {X S : Type 0} (result : Option (List ℕ × X)) (old new : IndexMap (List ℕ) X S) → IfSome result (λ one. Updates bytes_eq old new one.0 None) → IfSome result (λ one. found new.entries one.0 ≡ None)
pop_gone None old new updates = tt
pop_gone (Some one) old new updates = found_there one.0 new.entries None updates.1

pub pop_others : {X S : Type 0} (result : Option (List ℕ × X)) (old new : IndexMap (List ℕ) X S) (seen : List (List ℕ × X)) → old.entries ≡ seen → IfSome result (λ one. Updates bytes_eq old new one.0 None) → IfSome result (λ one. (other : List ℕ) → bytes_eq other one.0 ≡ false → found new.entries other ≡ found seen other)
pop_others None old new seen view updates = tt
pop_others {X} (Some one) old new seen view updates = λ other differ. found_other one.0 other old.entries new.entries updates.3 differ ∙ ap (λ (l : List (List ℕ × X)). found l other) view

pub pop_fewer : {X S : Type 0} (result : Option (List ℕ × X)) (old new : IndexMap (List ℕ) X S) (seen : List (List ℕ × X)) → old.entries ≡ seen → old.entries ≡ new.entries ++ option_to_list result → IfSome result (λ one. length seen ≡ length new.entries + 1)
pop_fewer None old new seen view is = tt
pop_fewer {X} (Some one) old new seen view is =
    ap (λ (l : List (List ℕ × X)). length l) (sym view ∙ is)
    ∙ length-append new.entries ((one.0, one.1) ∷ [])
