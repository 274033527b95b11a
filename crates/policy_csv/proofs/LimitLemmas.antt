-- Tables within the limits.
use Rattle.std.proofs.Common.{◌≡◌, ◌≤◌, Bool, true, false, length, Option, Some, None, refl}
use Rattle.std.specs.Prelude.{if◌then◌else◌, nat_lt}
use Rattle.std.proofs.lemmas.Bool.{le-ltb, ltb-false}
use Rattle.perm_base.specs.declared.shapes.Shapes.{Shapes}
use Rattle.perm_base.specs.declared.shapes.TableId.{TableId}
use Rattle.perm_base.specs.declared.shapes.TableId.TheVariants.{P, G}
use Rattle.policy_table.proofs.CallerLemmas.{few_of_relation, few_rows}
use Rattle.policy_table.specs.Limits.{HaveShapes, domain_pairs, passed, pattern_rows, role_rows}
use Rattle.policy_table.specs.Tables.{Policy, rows}
use Rattle.policy_table.specs.declared.limit.Limit.{Limit}
use Rattle.policy_table.specs.declared.limit.Limit.TheVariants.{PolicyRows, RoleRows, PatternRows, Domains}

-- each limit is kept
pub record AreWithin (shapes : Shapes) (policy : Policy) : Type 0 where
  pub rules : length (rows policy P) ≤ 200000
  pub roles : role_rows shapes policy ≤ 200000
  pub patterns : pattern_rows shapes policy ≤ 64
  pub pairs : domain_pairs shapes policy ≤ 16384

abbrev first_of : Bool → Bool → Bool → Bool → Option Limit
first_of a b c d = if a then Some PolicyRows else if b then Some RoleRows else if c then Some PatternRows else if d then Some Domains else None

pub within_from_none : (shapes : Shapes) (policy : Policy) → passed shapes policy ≡ None → AreWithin shapes policy
within_from_none shapes policy none = by (nat_lt 200000 (length (rows policy P))) (nat_lt 200000 (role_rows shapes policy)) (nat_lt 64 (pattern_rows shapes policy)) (nat_lt 16384 (domain_pairs shapes policy)) refl refl refl refl none
  where
    by : (a b c d : Bool) → nat_lt 200000 (length (rows policy P)) ≡ a → nat_lt 200000 (role_rows shapes policy) ≡ b → nat_lt 64 (pattern_rows shapes policy) ≡ c → nat_lt 16384 (domain_pairs shapes policy) ≡ d
        → first_of a b c d ≡ None → AreWithin shapes policy
    by true b c d x y z w e = absurd cc
    by false true c d x y z w e = absurd cc
    by false false true d x y z w e = absurd cc
    by false false false true x y z w e = absurd cc
    by false false false false x y z w e = record {
      rules = ltb-false 200000 (length (rows policy P)) x;
      roles = ltb-false 200000 (role_rows shapes policy) y;
      patterns = ltb-false 64 (pattern_rows shapes policy) z;
      pairs = ltb-false 16384 (domain_pairs shapes policy) w;
    }

pub none_from_within : (shapes : Shapes) (policy : Policy) → AreWithin shapes policy → passed shapes policy ≡ None
none_from_within shapes policy is =
    rw (le-ltb 200000 (length (rows policy P)) is.rules, le-ltb 200000 (role_rows shapes policy) is.roles, le-ltb 64 (pattern_rows shapes policy) is.patterns, le-ltb 16384 (domain_pairs shapes policy) is.pairs) refl

-- each table has few rules
pub few_of_table : (shapes : Shapes) (policy : Policy) (table : TableId) → HaveShapes shapes policy → passed shapes policy ≡ None → length (rows policy table) ≤ 200000
few_of_table shapes policy P shaped none = (few_rows shapes policy none).0
few_of_table shapes policy (G number) shaped none = few_of_relation shapes policy number shaped (few_rows shapes policy none).1
