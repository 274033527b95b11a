-- The places of tables, and their rules there.
use Rattle.std.proofs.Common.{◌≡◌, ℕ, ◌<◌, Bool, true, false, ◌&&◌, [], get_or, Option, Some, None, refl, sym, ap, subst, ◌∙◌, true≢false, arith}
use Rattle.std.specs.Prelude.{if◌then◌else◌, nat_lt}
use Rattle.std.specs.Option.{option_map_or}
use Rattle.std.proofs.lemmas.Bool.{and_parts, eqb-true, ltb-true}
use Rattle.std.proofs.lemmas.Bool.Decides.{Decides-eqb}
use Rattle.std.proofs.lemmas.Option.{same_Some}
use Rattle.perm_base.specs.declared.shapes.TableId.{TableId}
use Rattle.perm_base.specs.declared.shapes.TableId.TheVariants.{P, G}
use Rattle.policy_table.specs.Changes.{is_table}
use Rattle.policy_table.specs.Tables.{Policy, most_tables, place, rows}

-- the rules of a relation stand at its number
pub place_number : (number at : ℕ) → place (G number) ≡ Some at → (number ≡ at) × (0 < at) × (at < most_tables)
place_number number at e = by_test (nat_lt 0 number && nat_lt number most_tables) refl e
  where
    by_test : (test : Bool) → (nat_lt 0 number && nat_lt number most_tables) ≡ test → (if test then Some number else None) ≡ Some at → (number ≡ at) × (0 < at) × (at < most_tables)
    by_test true t there =
        let same = same_Some number at there in
        let parts = and_parts (nat_lt 0 number) (nat_lt number most_tables) t in
        (same, subst (λ n. 0 < n) same (ltb-true 0 number parts.0), subst (λ n. n < most_tables) same (ltb-true number most_tables parts.1))
    by_test false t there = absurd cc

-- a place is one of nine
pub place_few : (table : TableId) (at : ℕ) → place table ≡ Some at → at < most_tables
place_few P at e = subst (λ n. n < most_tables) (same_Some 0 at e) (omega arith)
place_few (G number) at e = (place_number number at e).2

-- and of one table
pub one_table : (table other : TableId) (at : ℕ) → place table ≡ Some at → place other ≡ Some at → table ≡ other
one_table P P at here there = refl
one_table P (G number) at here there = absurd (let zero = same_Some 0 at here in let some = (place_number number at there).1 in omega (arith, zero, some))
one_table (G number) P at here there = absurd (let zero = same_Some 0 at there in let some = (place_number number at here).1 in omega (arith, zero, some))
one_table (G number) (G other) at here there = ap G ((place_number number at here).0 ∙ sym (place_number other at there).0)

-- two names are the same table where the test says so
pub same_table : (table other : TableId) → is_table table other ≡ true → table ≡ other
same_table P P e = refl
same_table P (G number) e = absurd (true≢false (sym e))
same_table (G number) P e = absurd (true≢false (sym e))
same_table (G number) (G other) e = ap (λ n. G n) (eqb-true number other e)

-- a table is itself
pub itself : (table : TableId) → is_table table table ≡ true
itself P = refl
itself (G number) = (Decides-eqb number number).1 refl

-- tables with one place have one name
pub told_table : (table other : TableId) (at : ℕ) → place table ≡ Some at → place other ≡ Some at → is_table table other ≡ true
told_table table other at here there = subst (λ (t : TableId). is_table table t ≡ true) (one_table table other at here there) (itself table)

-- the rules of a table stand at its place
pub rows_at : (policy : Policy) (table : TableId) (at : ℕ) → place table ≡ Some at → rows policy table ≡ get_or policy.lists at []
rows_at policy table at here = ap (λ (p : Option ℕ). option_map_or (λ (i : ℕ). get_or policy.lists i []) p []) here
