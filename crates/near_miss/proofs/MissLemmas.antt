-- The near misses of a table, row by row.
use Rattle.std.proofs.Common.{◌≡◌, ℕ, suc, ◌+◌, ◌<◌, ◌≤◌, List, [], ◌∷◌, ◌++◌, drop, get_or, length, take, Option, Some, None, refl, sym, ap, ◌∙◌, subst, arith}
use Rattle.std.specs.List.{AllZip}
use Rattle.std.proofs.lemmas.List.{length-append, length-take, take-append-le, take_all}
use Rattle.model_conf.specs.ModelText.{ModelParts}
use Rattle.perm_base.specs.declared.shapes.Shapes.{Shapes}
use Rattle.perm_base.specs.declared.shapes.TableId.TheVariants.{P}
use Rattle.perm_value.specs.Datum.{Datum}
use Rattle.policy_table.specs.Tables.{Fields, Policy, rows}
use Rattle.near_miss.specs.Misses.{AreNearMisses, Lacks, misses_from, near_miss}
use Rattle.near_miss.specs.Helps.Rows.{IsFound}
use Rattle.near_miss.specs.declared.misses.NearMiss.{NearMiss}
use Rattle.near_miss.proofs.ListLemmas.{zip_length, zip_more, zip_some, zip_weaker, zip_whole}
use Rattle.near_miss.proofs.RowLemmas.{SomeTruth, lacks_for_more, lacks_there}

misses_both : (number : ℕ) (xs ys : List (Option ℕ)) → misses_from number (xs ++ ys) ≡ misses_from number xs ++ misses_from (number + length xs) ys
misses_both number [] ys = ap (λ (n : ℕ). misses_from n ys) (omega arith)
misses_both number (None ∷ xs) ys = misses_both (suc number) xs ys ∙ ap (λ (n : ℕ). misses_from (suc number) xs ++ misses_from n ys) (omega arith)
misses_both number (Some part ∷ xs) ys = ap (λ (ms : List NearMiss). near_miss number part ∷ ms) (misses_both (suc number) xs ys ∙ ap (λ (n : ℕ). misses_from (suc number) xs ++ misses_from n ys) (omega arith))

-- a row is told once at most
pub told_once : (number : ℕ) (lack : Option ℕ) (old new : List NearMiss) → new ≡ old ++ misses_from number (lack ∷ []) → length new ≤ length old + 1
told_once number None old new is = omega (arith, ap length is, length-append old [])
told_once number (Some part) old new is = omega (arith, ap length is, length-append old (near_miss number part ∷ []))

module _ (shapes : Shapes) (policy : Policy) (request : List Datum) where
  pub found_none : (IsBad : List ℕ → Type 0) (parts : List ModelParts) → IsFound shapes policy request IsBad parts 0 []
  found_none IsBad parts = record { lacks = []; have = tt; are = refl }

  pub found_more : (IsBad IsOwn IsBadToo : List ℕ → Type 0) (parts : List ModelParts) (at number : ℕ) (old new : List NearMiss) (row : Fields) (lack : Option ℕ) → at < length (rows policy P) → row ≡ get_or (rows policy P) at row → number ≡ at + 1
      → ((pattern : List ℕ) → IsBad pattern → IsBadToo pattern) → ((pattern : List ℕ) → IsOwn pattern → IsBadToo pattern) → IsFound shapes policy request IsBad parts at old → Lacks shapes policy request IsOwn parts row lack
      → new ≡ old ++ misses_from number (lack ∷ []) → IsFound shapes policy request IsBadToo parts (at + 1) new
  found_more IsBad IsOwn IsBadToo parts at number old new row lack within is number_is more own so lacks new_is =
      let R = Lacks shapes policy request IsBad parts in
      let S = Lacks shapes policy request IsBadToo parts in
      let long : length so.lacks ≡ at = zip_length R (take at (rows policy P)) so.lacks so.have ∙ front_long in
      let same : 1 + length so.lacks ≡ number = omega arith in
      record {
        lacks = so.lacks ++ lack ∷ [];
        have = zip_more S (rows policy P) so.lacks at row lack within is (lacks_for_more shapes policy request IsOwn IsBadToo parts row lack own lacks)
            (zip_weaker R S (take at (rows policy P)) so.lacks (λ fields l. lacks_for_more shapes policy request IsBad IsBadToo parts fields l more) so.have);
        are = new_is ∙ ap (λ (ms : List NearMiss). ms ++ misses_from number (lack ∷ [])) so.are
            ∙ sym (misses_both 1 so.lacks (lack ∷ []) ∙ ap (λ (n : ℕ). misses_from 1 so.lacks ++ misses_from n (lack ∷ [])) same);
      }
    where
      front_long : length (take at (rows policy P)) ≡ at
      front_long = simp length-take (omega arith)

  -- behind the last row
  pub found_whole : (IsBad : List ℕ → Type 0) (parts : List ModelParts) (at most : ℕ) (misses : List NearMiss) → length (rows policy P) ≤ at → length misses ≤ most → IsFound shapes policy request IsBad parts at misses → AreNearMisses shapes policy request IsBad parts most misses
  found_whole IsBad parts at most misses past few so =
      let R = Lacks shapes policy request IsBad parts in (
        so.lacks,
        subst (λ (front : List Fields). AllZip R front so.lacks) (take_all at (rows policy P) past) so.have,
        sym (ap (take most) (sym so.are) ∙ take_all most misses few),
      )

  -- where as many are found as are wanted, the further rows do not matter
  pub found_full : SomeTruth → (IsBad : List ℕ → Type 0) (parts : List ModelParts) (at most : ℕ) (misses : List NearMiss) → length misses ≤ most → most ≤ length misses → IsFound shapes policy request IsBad parts at misses → AreNearMisses shapes policy request IsBad parts most misses
  found_full there IsBad parts at most misses few full so =
      let R = Lacks shapes policy request IsBad parts in
      let rest = zip_some R (lacks_there shapes policy request there IsBad parts) (drop at (rows policy P)) in
      let more = misses_from (1 + length so.lacks) rest.0 in
      let whole : misses_from 1 (so.lacks ++ rest.0) ≡ misses ++ more = misses_both 1 so.lacks rest.0 ∙ ap (λ (ms : List NearMiss). ms ++ more) (sym so.are) in (
        so.lacks ++ rest.0,
        zip_whole R (rows policy P) so.lacks rest.0 at so.have rest.1,
        sym (ap (take most) whole ∙ take-append-le most misses more full ∙ take_all most misses few),
      )

  -- no row is left
  pub found_end : (IsBad : List ℕ → Type 0) (parts : List ModelParts) (at most : ℕ) (misses : List NearMiss) → length (rows policy P) ≤ at → length misses ≤ most → IsFound shapes policy request IsBad parts at misses → AreNearMisses shapes policy request IsBad parts most misses
  found_end IsBad parts at most misses past few so = (
    so.lacks,
    subst (λ (l : List Fields). AllZip (Lacks shapes policy request IsBad parts) l so.lacks) (take_all at (rows policy P) past) so.have,
    sym (take_all most misses few) ∙ ap (take most) so.are,
  )
