-- Tables without rules, and lists of rules and of texts with one more.
use Rattle.std.proofs.Common.{◌≡◌, ℕ, ◌+◌, Bool, true, false, List, [], ◌∷◌, ◌++◌, length, get_or, Option, Some, None, refl, arith, length-append}
use Rattle.std.specs.Prelude.{if◌then◌else◌}
use Rattle.std.specs.List.{list_any}
use Rattle.std.specs.Option.{option_map_or}
use Rattle.std.specs.Str.{bytes_eq}
use Rattle.std.proofs.lemmas.List.{get_or-replicate, map_push}
use Rattle.perm_base.specs.declared.shapes.TableId.{TableId}
use Rattle.policy_table.proofs.CallerLemmas.{place_few}
use Rattle.policy_table.specs.Limits.{domains_of}
use Rattle.policy_table.specs.Tables.{Fields, most_tables, place, rows, without_rules}

-- tables without rules have none
pub rows_none : (ranked : Bool) (table : TableId) → rows (without_rules ranked) table ≡ []
rows_none ranked table = by (place table) refl
  where
    by : (p : Option ℕ) → place table ≡ p → option_map_or (λ (at : ℕ). get_or (without_rules ranked).lists at []) p [] ≡ []
    by None e = refl
    by (Some at) e = get_or-replicate most_tables at [] [] (place_few table at e)

-- the domains of one more rule
pub domains_push : (rules : List Fields) (rule : Fields) → domains_of (rules ++ rule ∷ []) ≡ domains_of rules ++ get_or rule 2 [] ∷ []
domains_push rules rule = map_push (λ (r : Fields). get_or r 2 []) rules rule

-- texts with one more, unless it stands
abbrev with_text : List (List ℕ) → List ℕ → List (List ℕ)
with_text texts text = if list_any (bytes_eq text) texts then texts else texts ++ text ∷ []

pub length_insert : (keys : List (List ℕ)) (key : List ℕ) → length (with_text keys key) ≡ length keys + (if list_any (bytes_eq key) keys then 0 else 1)
length_insert keys key = by (list_any (bytes_eq key) keys)
  where
    by : (b : Bool) → length (if b then keys else keys ++ key ∷ []) ≡ length keys + (if b then 0 else 1)
    by true = omega arith
    by false = omega (arith, length-append keys (key ∷ []))
