-- Tables whose p is ranked afterwards.
use Rattle.std.proofs.Common.{◌≡◌, ℕ, ◌<◌, ◌^◌, Bool, true, List, [], length, filter, get_or, Option, Some, None, Result, Ok, Err, OnErr, OnOk, refl, sym, ap, subst, ◌∙◌, arith}
use Rattle.std.specs.Prelude.{if◌then◌else◌, nat_lt}
use Rattle.std.specs.List.{IsDistinct, sum_by}
use Rattle.std.specs.Option.{option_map_or}
use Rattle.std.proofs.Math.ListN.{set}
use Rattle.std.proofs.lemmas.List.{get_or-map, get_or-set_other, get_or-set_same, length-map, length-set, map-set}
use Rattle.std.proofs.lemmas.List.Elements.{All-set}
use Rattle.perm_base.specs.Patterns.{is_pattern}
use Rattle.perm_base.specs.declared.shapes.RoleShape.{RoleShape}
use Rattle.perm_base.specs.declared.shapes.Shapes.{Shapes}
use Rattle.perm_base.specs.declared.shapes.TableId.{TableId}
use Rattle.perm_base.specs.declared.shapes.TableId.TheVariants.{P, G}
use Rattle.policy_table.specs.Changes.{by_rank, ranked_policy}
use Rattle.policy_table.specs.Helps.Domains.{AreCounted, Counted}
use Rattle.policy_table.specs.Helps.Rows.{AreTables, Rows, lists_of, policy_of}
use Rattle.policy_table.specs.Limits.{different, domains_of, passed, with_domains}
use Rattle.policy_table.specs.Tables.{AreRising, Fields, IsKept, Policy, most_tables, place, rows, same}
use Rattle.policy_table.specs.declared.limit.Limit.TheVariants.{PolicyRows, RoleRows, PatternRows, Domains}
use Rattle.policy_table.proofs.CountedLemmas.{domains_sum, one}
use Rattle.policy_table.proofs.DomainLemmas.{recounted}
use Rattle.policy_table.proofs.PlaceLemmas.{place_number}
use Rattle.policy_table.proofs.SortLemmas.{distinct_by_rank, length-by_rank, rising_by_rank, sum-by_rank}
use Rattle.policy_table.proofs.TableLemmas.{counted_after}

-- the rules of p are ranked
pub ranked_own : (policy : Policy) → length policy.lists ≡ most_tables → rows (ranked_policy policy) P ≡ by_rank (rows policy P)
ranked_own policy nine = get_or-set_same policy.lists 0 (by_rank (rows policy P)) [] (omega (arith, nine))

-- those of the relations stay
pub ranked_other : (policy : Policy) (number : ℕ) → rows (ranked_policy policy) (G number) ≡ rows policy (G number)
ranked_other policy number = by (place (G number)) refl
  where
    by : (p : Option ℕ) → place (G number) ≡ p → option_map_or (λ (at : ℕ). get_or (ranked_policy policy).lists at []) p [] ≡ option_map_or (λ (at : ℕ). get_or policy.lists at []) p []
    by None here = refl
    by (Some at) here = get_or-set_other policy.lists 0 at (by_rank (rows policy P)) [] (λ e. let some = (place_number number at here).1 in absurd (omega (arith, e, some)))

-- so each table has as many rules
pub length_ranked : (policy : Policy) (table : TableId) → length policy.lists ≡ most_tables → length (rows (ranked_policy policy) table) ≡ length (rows policy table)
length_ranked policy P nine = ap length (ranked_own policy nine) ∙ length-by_rank (rows policy P)
length_ranked policy (G number) nine = ap length (ranked_other policy number)

-- and the same limit is passed
pub passed_ranked : (shapes : Shapes) (policy : Policy) → length policy.lists ≡ most_tables → passed shapes (ranked_policy policy) ≡ passed shapes policy
passed_ranked shapes policy nine =
    λ j. (if nat_lt 200000 (length_ranked policy P nine j) then Some PolicyRows
    else if nat_lt 200000 (sum_by (λ (shape : RoleShape). length (ranked_other policy shape.number j)) shapes.roles) then Some RoleRows
    else if nat_lt 64 (sum_by (λ (shape : RoleShape). length (filter (is_pattern shape.domains) (domains_of (ranked_other policy shape.number j)))) (with_domains shapes)) then Some PatternRows
    else if nat_lt 16384 (sum_by (λ (shape : RoleShape). length (different (domains_of (ranked_other policy shape.number j)))) (with_domains shapes)) then Some Domains
    else None)

-- and all keep what tables keep
pub ranked_kept : (policy : Policy) → IsKept policy → IsKept (ranked_policy policy)
ranked_kept policy kept = record {
  lists = record {
    counted = length-set policy.lists 0 (by_rank (rows policy P)) ∙ kept.lists.counted;
    few = All-set (λ (rules : List Fields). length rules < 2 ^ 32) policy.lists 0 (by_rank (rows policy P)) few kept.lists.few;
  };
  once = once;
  rising = λ mark. subst AreRising (sym (ranked_own policy kept.lists.counted)) (rising_by_rank (rows policy P));
}
  where
    few : length (by_rank (rows policy P)) < 2 ^ 32
    few = let before : length (rows policy P) < 2 ^ 32 = kept.lists.few 0 [] (omega (arith, kept.lists.counted)) in omega (arith, before, length-by_rank (rows policy P))

    once : (table : TableId) → IsDistinct same (rows (ranked_policy policy) table)
    once P = subst (IsDistinct same) (sym (ranked_own policy kept.lists.counted)) (distinct_by_rank (rows policy P) (kept.once P))
    once (G number) = subst (IsDistinct same) (sym (ranked_other policy number)) (kept.once (G number))

module _ (ranked : Bool) (tables : List Rows) (after d : Rows) (are : AreTables ranked tables) (made : after.rules ≡ by_rank (get_or tables 0 d).rules) where
  within : 0 < length tables
  within = omega (arith, are.kept.lists.counted, length-map tables (λ (r : Rows). r.rules))

  -- the tables with the ranked rules in the place of those of p
  pub policy_ranked : policy_of true (set tables 0 after) ≡ ranked_policy (policy_of ranked tables)
  policy_ranked =
      ap (λ l. record { lists = l; ranked = true })
      (map-set (λ (r : Rows). r.rules) tables 0 after ∙ ap (set (lists_of tables) 0) (made ∙ ap by_rank (sym (get_or-map (λ (r : Rows). r.rules) tables 0 d [] within))))

  pub tables_ranked : after.counted ≡ (get_or tables 0 d).counted → AreTables true (set tables 0 after)
  tables_ranked marked = record {
    kept = subst IsKept (sym policy_ranked) (ranked_kept (policy_of ranked tables) are.kept);
    counted = counted_after tables 0 after d within marked ∙ are.counted;
  }

-- the same domains are counted
pub counted_ranked : {T E : Type 0} (r : Result T E) (rules after : List Fields) (counted : Counted) → OnOk r (after ≡ by_rank rules) → OnErr r (after ≡ rules) → AreCounted (domains_of rules) counted → AreCounted (domains_of after) counted
counted_ranked (Ok x) rules after counted made stays are =
    subst (λ (l : List Fields). AreCounted (domains_of l) counted) (sym made) (recounted (domains_of rules) (domains_of (by_rank rules)) counted are (λ q. domains_sum q (by_rank rules) ∙ sum-by_rank (one q) rules ∙ sym (domains_sum q rules)))
counted_ranked (Err e) rules after counted made stays are = subst (λ (l : List Fields). AreCounted (domains_of l) counted) (sym stays) are
