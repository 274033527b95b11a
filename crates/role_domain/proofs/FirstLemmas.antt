-- What is found at the text of the first entry of a map.
use Rattle.std.proofs.Common.{◌≡◌, ℕ, true, List, [], ◌∷◌, Some, refl, sym, ap, subst, ◌∙◌}
use Rattle.std.proofs.lemmas.Option.{same_Some}
use Rattle.std.specs.Prelude.{slice_get}
use Rattle.std.specs.Str.{bytes_eq}
use Rattle.role_graph.specs.Keyed.{found}

first_is : {X : Type 0} (text : List ℕ) (key : List ℕ) (value : X) (entries : List (List ℕ × X)) → bytes_eq text key ≡ true → Some value ≡ found ((key, value) ∷ entries) text
first_is text key value entries same = rw same refl

pub first_found : {X : Type 0} (text : List ℕ) (entries : List (List ℕ × X)) (seen : List (List ℕ × X)) (key : List ℕ) (value : X) (bytes : List ℕ) → entries ≡ seen → Some (key, value) ≡ slice_get entries 0 → bytes ≡ key → bytes_eq text bytes ≡ true → Some value ≡ found seen text
first_found text [] seen key value bytes view is own same = absurd cc
first_found {X} text (entry ∷ entries) seen key value bytes view is own same =
    subst (λ (e : List ℕ × X). Some value ≡ found (e ∷ entries) text) (same_Some (key, value) entry is) (first_is text key value entries (ap (bytes_eq text) (sym own) ∙ same))
    ∙ ap (λ (l : List (List ℕ × X)). found l text) view
