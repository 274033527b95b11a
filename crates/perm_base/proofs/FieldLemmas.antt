-- Texts that are joined by a comma and a blank, pushed one by one.
use Rattle.std.proofs.Common.{◌≡◌, ℕ, ◌+◌, ◌<◌, List, [], ◌∷◌, ◌++◌, length, take, get_or, Some, sym, ap, ◌∙◌, arith}
use Rattle.std.proofs.lemmas.List.{append_assoc, append-nil, length-take, take_more}
use Rattle.std.specs.List.{flat_map}
use Rattle.std.specs.Prelude.{slice_get}
use Rattle.std.proofs.lemmas.Option.{get_or_from_slice_get, slice_get-get_or}
use Rattle.std.proofs.lemmas.List.Concat.{flat_map-append}
use Rattle.perm_base.specs.Fields.{joined}

-- one more text at the back
pub joined-first : (texts : List (List ℕ)) (text : List ℕ) → length texts ≡ 0 → joined (texts ++ text ∷ []) ≡ joined texts ++ text
joined-first [] text none = append-nil text
joined-first (t ∷ texts) text none = absurd (omega arith)

pub joined-more : (texts : List (List ℕ)) (text : List ℕ) → 0 < length texts → joined (texts ++ text ∷ []) ≡ joined texts ++ (44 ∷ 32 ∷ text)
joined-more [] text some = absurd (omega arith)
joined-more (t ∷ texts) text some =
    let after : List ℕ → List ℕ = λ y. (44 ∷ 32 ∷ []) ++ y in
    let last : flat_map after (text ∷ []) ≡ 44 ∷ 32 ∷ text = append-nil (44 ∷ 32 ∷ text) in
    let back : flat_map after (texts ++ text ∷ []) ≡ flat_map after texts ++ (44 ∷ 32 ∷ text) = flat_map-append after texts (text ∷ []) ∙ ap (λ (b : List ℕ). flat_map after texts ++ b) last in
    ap (λ (b : List ℕ). t ++ b) back ∙ sym (append_assoc t (flat_map after texts) (44 ∷ 32 ∷ text))

-- one more text of a rule
next_text : (rule : List (List ℕ)) (at : ℕ) (field : List ℕ) → at < length rule → slice_get rule at ≡ Some field → take (at + 1) rule ≡ take at rule ++ field ∷ []
next_text rule at field within here = take_more rule at field within ∙ ap (λ (f : List ℕ). take at rule ++ f ∷ []) (get_or_from_slice_get rule at field field here)

-- the text that a loop over the rule's texts has
pub text_at : (rule items : List (List ℕ)) (at : ℕ) (item field : List ℕ) → items ≡ rule → at < length rule → item ≡ get_or items at item → field ≡ item → slice_get rule at ≡ Some field
text_at rule items at item field all within is same =
    let there : item ≡ get_or rule at item = is ∙ ap (λ (list : List (List ℕ)). get_or list at item) all in
    slice_get-get_or rule at item within ∙ ap Some (sym there ∙ sym same)

pub pushed_first : (rule : List (List ℕ)) (at : ℕ) (old now new field : List ℕ) → at < length rule → slice_get rule at ≡ Some field → at ≡ 0 → now ≡ old ++ joined (take at rule) → new ≡ now ++ field → new ≡ old ++ joined (take (at + 1) rule)
pushed_first rule at old now new field within here first was is =
    let next = ap joined (next_text rule at field within here) ∙ joined-first (take at rule) field (omega (arith, length-take at rule)) in
    is ∙ ap (λ (n : List ℕ). n ++ field) was ∙ append_assoc old (joined (take at rule)) field ∙ ap (λ (j : List ℕ). old ++ j) (sym next)

pub pushed_more : (rule : List (List ℕ)) (at : ℕ) (old now between new field : List ℕ) → at < length rule → slice_get rule at ≡ Some field → 0 < at → now ≡ old ++ joined (take at rule) → between ≡ now ++ 44 ∷ 32 ∷ [] → new ≡ between ++ field → new ≡ old ++ joined (take (at + 1) rule)
pushed_more rule at old now between new field within here more was comma is =
    let next = ap joined (next_text rule at field within here) ∙ joined-more (take at rule) field (omega (arith, length-take at rule)) in
    let parts : new ≡ ((old ++ joined (take at rule)) ++ 44 ∷ 32 ∷ []) ++ field = is ∙ ap (λ (b : List ℕ). b ++ field) (comma ∙ ap (λ (n : List ℕ). n ++ 44 ∷ 32 ∷ []) was) in
    let joined_parts : ((old ++ joined (take at rule)) ++ 44 ∷ 32 ∷ []) ++ field ≡ old ++ (joined (take at rule) ++ (44 ∷ 32 ∷ field)) = simp append_assoc in
    parts ∙ joined_parts ∙ ap (λ (j : List ℕ). old ++ j) (sym next)
