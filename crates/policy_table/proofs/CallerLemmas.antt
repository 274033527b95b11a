-- What a caller cites.
pub use Rattle.policy_table.proofs.NumberLemmas.{number_told}
pub use Rattle.policy_table.proofs.PlaceLemmas.{itself, one_table, place_few, place_number, rows_at, same_table, told_table}
pub use Rattle.policy_table.proofs.RuleLemmas.{distinct_changed, distinct_filter, distinct_inserted, distinct_replaced, fewer, inserted-IsPermutation, keeps_all, length-changed, length-inserted, length-replaced, length-without, one_longer, out_and_out, same-Decides, same_symm, stands-filter, stands-in_place, stands-inserted, stands-without}
pub use Rattle.policy_table.proofs.SortLemmas.{by_rank_none, by_rank_one, length-by_rank, stands-by_rank}
pub use Rattle.policy_table.proofs.RankedLemmas.{length_ranked, passed_ranked, ranked_other, ranked_own}
pub use Rattle.policy_table.proofs.LawLemmas.{applies_both, applies_by_table, counted_changed, counted_edited, edited_both, first_possible, kept_of, order_of, ordered_changed, ordered_edited, ranked_edited, replayed, rest_possible, rows_by_table, rows_other, rows_own, rows_possible}
pub use Rattle.policy_table.proofs.SoundLemmas.{Puts, PutAll, all_edited, are_lists, empty_is_sound, few_of_relation, few_rows, no_sum, shapes_edited, short_edited}
pub use Rattle.policy_table.proofs.DomainLemmas.{among_different, any_counted, distinct_different, keys_different}
pub use Rattle.policy_table.proofs.LimitLemmas.{different_fewer, different_none, different_push, passing_push}
pub use Rattle.policy_table.proofs.RoleLemmas.{sum_passing}
pub use Rattle.policy_table.proofs.TableLemmas.{slots_other, slots_own}
pub use Rattle.policy_table.proofs.SlotLemmas.{HasSlot, first_slot, found_first, found_slot, same_slot}
pub use Rattle.policy_table.proofs.SwapLemmas.{found_swap}
pub use Rattle.policy_table.proofs.WalkLemmas.{IsRow, next_row, no_more_rows}
use Rattle.std.proofs.Common.{◌≡◌, ◌+◌, ◌<◌, ◌^◌, true, List, [], ◌∷◌, ◌++◌, length, refl, sym, ap, subst, ◌∙◌}
use Rattle.policy_table.specs.Changes.{applies, edited, is_possible, table_of}
use Rattle.policy_table.specs.Tables.{AreLists, Policy, rows}
use Rattle.policy_table.specs.declared.change.Change.{Change}
use Rattle.policy_table.proofs.RuleLemmas.{changed_few}

-- an edit of one change that is possible applies
pub one_applies : (change : Change) (changes : List Change) (policy : Policy) → changes ≡ change ∷ [] → is_possible change policy ≡ true → applies (changes ++ []) policy ≡ true
unfolding applies
one_applies change changes policy alone possible = ap (λ (l : List Change). applies (l ++ []) policy) alone ∙ rw possible refl

-- and its table gets longer by one rule at most
pub one_few : (change : Change) (changes : List Change) (policy : Policy) → changes ≡ change ∷ [] → AreLists policy.lists → length (rows policy (table_of change)) + 1 < 2 ^ 32 → AreLists (edited (changes ++ []) policy).lists
unfolding edited
one_few change changes policy alone are few = subst (λ (l : List Change). AreLists (edited (l ++ []) policy).lists) (sym alone) (changed_few change policy are few)
