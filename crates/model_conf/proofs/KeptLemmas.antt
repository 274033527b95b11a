-- What is read keeps what each model keeps.
use Rattle.std.proofs.Common.{◌≡◌, ℕ, zero, suc, ◌+◌, ◌<◌, ◌≤◌, Bool, List, [], ◌∷◌, length, map, Option, Some, None, refl, arith}
use Rattle.std.specs.Prelude.{option_and_then}
use Rattle.std.specs.List.{AllByRecursion}
use Rattle.std.specs.List.Sorted.{IsStrictlyIncreasing}
use Rattle.std.proofs.lemmas.List.Elements.{All-from_recursion}
use Rattle.matcher_read.specs.Calls.{relation_names}
use Rattle.perm_base.specs.declared.shapes.RoleShape.{RoleShape}
use Rattle.model_conf.specs.Kept.{AreRelations, IsRelation}
use Rattle.model_conf.specs.Relations.{relations_from, relations_of, shape, value_of, with_domain_of, with_relation}
use Rattle.model_conf.specs.Sections.{Entry}

abbrev numbers : List RoleShape → List ℕ
numbers relations = map (λ (s : RoleShape). s.number) relations

-- relations above a number, below another, that rise
record Rise (low high : ℕ) (relations : List RoleShape) : Type 0 where
  each : AllByRecursion IsRelation relations
  above : AllByRecursion (λ (s : RoleShape). low ≤ s.number) relations
  rising : IsStrictlyIncreasing (numbers relations)

lower : (low : ℕ) (relations : List RoleShape) → AllByRecursion (λ (s : RoleShape). low + 1 ≤ s.number) relations → AllByRecursion (λ (s : RoleShape). low ≤ s.number) relations
lower low [] all = tt
lower low (s ∷ relations) all = (omega (arith, all.0), lower low relations all.1)

rise_more : (first : ℕ) (rest : List RoleShape) → AllByRecursion (λ (s : RoleShape). first + 1 ≤ s.number) rest → IsStrictlyIncreasing (numbers rest) → (with_domain : Bool) → IsStrictlyIncreasing (numbers (shape first with_domain ∷ rest))
rise_more first [] above rising with_domain k within = absurd (omega arith)
rise_more first (s ∷ rest) above rising with_domain zero within = omega (arith, above.0)
rise_more first (s ∷ rest) above rising with_domain (suc k) within =
    let next : suc k + 1 ≡ suc (k + 1) = omega arith in
    rw next (rising k (omega arith))

one_more : (low high : ℕ) (declared : Option Bool) (rest : List RoleShape) → 0 < low → low ≤ 8 → Rise (low + 1) high rest → Rise low high (with_relation low declared rest)
one_more low high None rest some few is = record { each = is.each; above = lower low rest is.above; rising = is.rising }
one_more low high (Some with_domain) rest some few is = record {
  each = (record { numbered = record { some = some; few = few }; names = refl; domains = refl }, is.each);
  above = (omega arith, lower low rest is.above);
  rising = rise_more low rest is.above is.rising with_domain;
}

rise_from : (entries : List Entry) (low : ℕ) (names : List (List ℕ)) → 0 < low → low + length names ≤ 9 → Rise low 8 (relations_from entries low names)
rise_from entries low [] some few = record { each = tt; above = tt; rising = λ k within. absurd (omega arith) }
rise_from entries low (name ∷ names) some few = one_more low 8 (option_and_then with_domain_of (value_of entries name)) (relations_from entries (low + 1) names) some (omega arith) (rise_from entries (low + 1) names (omega arith) (omega arith))

pub relations_kept : (entries : List Entry) → AreRelations (relations_of entries)
unfolding relations_of
relations_kept entries =
    let rise = rise_from entries 1 relation_names (omega arith) (omega arith) in
    record { each = All-from_recursion IsRelation (relations_from entries 1 relation_names) rise.each; rising = rise.rising }
