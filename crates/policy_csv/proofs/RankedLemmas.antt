-- Tables that are filled first and ranked then.
use Rattle.std.proofs.Common.{◌≡◌, ℕ, zero, suc, ◌<◌, Bool, true, false, List, [], ◌∷◌, length, set, Option, Some, None, refl, sym, ap, ◌∙◌, arith}
use Rattle.std.specs.Prelude.{if◌then◌else◌}
use Rattle.std.proofs.lemmas.List.{get_or-set_other, get_or-set_same, set-set}
use Rattle.perm_base.specs.declared.shapes.Shapes.{Shapes}
use Rattle.perm_base.specs.declared.shapes.TableId.{TableId}
use Rattle.perm_base.specs.declared.shapes.TableId.TheVariants.{P, G}
use Rattle.std.specs.Option.{option_map_or}
use Rattle.policy_csv.specs.Helps.Filled.{ranked_if}
use Rattle.policy_csv.specs.Policy.{with_entry}
use Rattle.policy_csv.specs.declared.entry.Entry.{Entry}
use Rattle.policy_table.proofs.CallerLemmas.{by_rank_none, by_rank_one, length_ranked, passed_ranked, place_number, ranked_other, ranked_own, stands-by_rank}
use Rattle.policy_table.specs.Changes.{by_rank, changed, inserted, ranked_policy}
use Rattle.policy_table.specs.Limits.{passed}
use Rattle.policy_table.specs.Tables.{Fields, Lists, Policy, most_tables, place, rows, stands, without_rules}
use Rattle.policy_table.specs.declared.change.Change.TheVariants.{Insert}

-- writes at two places may change places
apart : {X : Type 0} (xs : List X) (at : ℕ) (x y : X) → 0 < at → set (set xs at x) 0 y ≡ set (set xs 0 y) at x
apart [] zero x y some = refl
apart [] (suc at) x y some = refl
apart (z ∷ zs) zero x y some = absurd (omega (arith, some))
apart (z ∷ zs) (suc at) x y some = refl

-- the tables with the mark
abbrev marked : Lists → Policy
marked lists = record { lists = lists; ranked = true }

module _ (rule : Fields) (policy : Policy) (nine : length policy.lists ≡ most_tables) (unranked : policy.ranked ≡ false) where
  filled : 0 < length policy.lists
  filled = omega (arith, nine)

  -- a rule of p
  own_stands : stands rule (rows (ranked_policy policy) P) ≡ stands rule (rows policy P)
  own_stands = ap (stands rule) (ranked_own policy nine) ∙ stands-by_rank rule (rows policy P)

  own_more : ranked_policy (changed (Insert P rule) policy) ≡ changed (Insert P rule) (ranked_policy policy)
  own_more =
      ap marked
      (ap (λ (l : List Fields). set (set policy.lists 0 (inserted policy.ranked rule (rows policy P))) 0 (by_rank l)) (get_or-set_same policy.lists 0 (inserted policy.ranked rule (rows policy P)) [] filled)
      ∙ set-set policy.lists 0 _ _
      ∙ ap (λ (b : Bool). set policy.lists 0 (by_rank (inserted b rule (rows policy P)))) unranked
      ∙ ap (set policy.lists 0) (by_rank_one (rows policy P) rule ∙ ap (inserted true rule) (sym (ranked_own policy nine)))
      ∙ sym (set-set policy.lists 0 _ _))

  -- a rule of a relation
  other_more : (number : ℕ) → ranked_policy (changed (Insert (G number) rule) policy) ≡ changed (Insert (G number) rule) (ranked_policy policy)
  other_more number = by (place (G number)) refl
    where
      new : List Fields
      new = inserted false rule (rows policy (G number))

      by : (p : Option ℕ) → place (G number) ≡ p
          → ranked_policy (record policy { lists = option_map_or (λ at. set policy.lists at new) p policy.lists })
          ≡ record (ranked_policy policy) { lists = option_map_or (λ at. set (ranked_policy policy).lists at (inserted false rule (rows (ranked_policy policy) (G number)))) p (ranked_policy policy).lists }
      by None here = refl
      by (Some at) here =
          let some : 0 < at = (place_number number at here).1 in
          ap marked
          (ap (λ (l : List Fields). set (set policy.lists at new) 0 (by_rank l)) (get_or-set_other policy.lists at 0 new [] (λ e. absurd (omega (arith, e, some))))
          ∙ apart policy.lists at new (by_rank (rows policy P)) some
          ∙ ap (λ (l : List Fields). set (set policy.lists 0 (by_rank (rows policy P))) at (inserted false rule l)) (sym (ranked_other policy number)))

  -- to put a rule in and rank then is to put it into the ranked tables
  entry_of : (table : TableId) → ranked_policy (with_entry (record { table = table; rule = rule }) policy) ≡ with_entry (record { table = table; rule = rule }) (ranked_policy policy)
  entry_of P = by (stands rule (rows policy P)) refl
    where
      by : (b : Bool) → stands rule (rows policy P) ≡ b
          → ranked_policy (if b then policy else changed (Insert P rule) policy) ≡ (if stands rule (rows (ranked_policy policy) P) then ranked_policy policy else changed (Insert P rule) (ranked_policy policy))
      by true e = sym (ap (λ (c : Bool). if c then ranked_policy policy else changed (Insert P rule) (ranked_policy policy)) (own_stands ∙ e))
      by false e = own_more ∙ sym (ap (λ (c : Bool). if c then ranked_policy policy else changed (Insert P rule) (ranked_policy policy)) (own_stands ∙ e))
  entry_of (G number) = by (stands rule (rows policy (G number))) refl
    where
      same_stands : stands rule (rows (ranked_policy policy) (G number)) ≡ stands rule (rows policy (G number))
      same_stands = ap (stands rule) (ranked_other policy number)

      by : (b : Bool) → stands rule (rows policy (G number)) ≡ b
          → ranked_policy (if b then policy else changed (Insert (G number) rule) policy)
          ≡ (if stands rule (rows (ranked_policy policy) (G number)) then ranked_policy policy else changed (Insert (G number) rule) (ranked_policy policy))
      by true e = sym (ap (λ (c : Bool). if c then ranked_policy policy else changed (Insert (G number) rule) (ranked_policy policy)) (same_stands ∙ e))
      by false e = other_more number ∙ sym (ap (λ (c : Bool). if c then ranked_policy policy else changed (Insert (G number) rule) (ranked_policy policy)) (same_stands ∙ e))

-- so do tables that are ranked or not
pub ranked_entry : (ranked : Bool) (entry : Entry) (policy : Policy) → length policy.lists ≡ most_tables → policy.ranked ≡ false → ranked_if ranked (with_entry entry policy) ≡ with_entry entry (ranked_if ranked policy)
ranked_entry true entry policy nine unranked = entry_of entry.rule policy nine unranked entry.table
ranked_entry false entry policy nine unranked = refl

-- tables without rules
pub ranked_none : (ranked : Bool) → ranked_if ranked (without_rules false) ≡ without_rules ranked
ranked_none true = ap (λ (l : List Fields). marked (set (without_rules false).lists 0 l)) by_rank_none
ranked_none false = refl

-- they have as many rules and pass the same limit
pub ranked_length : (ranked : Bool) (policy : Policy) (table : TableId) → length policy.lists ≡ most_tables → length (rows (ranked_if ranked policy) table) ≡ length (rows policy table)
ranked_length true policy table nine = length_ranked policy table nine
ranked_length false policy table nine = refl

pub ranked_passed : (shapes : Shapes) (ranked : Bool) (policy : Policy) → length policy.lists ≡ most_tables → passed shapes (ranked_if ranked policy) ≡ passed shapes policy
ranked_passed shapes true policy nine = passed_ranked shapes policy nine
ranked_passed shapes false policy nine = refl
