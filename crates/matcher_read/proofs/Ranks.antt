-- The operators of each rule, by their ranks.
use Rattle.std.proofs.Common.{◌≡◌, true, refl}
use Rattle.std.proofs.lemmas.Bool.{false≢true}
use Rattle.matcher_read.specs.Grammar.{IsPartOf, and_or, cmp_and, term_sum, unary_term, Joins, or_joins, and_joins, plus_joins, minus_joins, times_joins, over_joins, remainder_joins, Compares, equal_compares, not_equal_compares, less_compares, at_most_compares, greater_compares, at_least_compares, cmp_rule}
use Rattle.matcher_read.specs.Helps.Machine.{Rank, comparing_rank, rank}
use Rattle.matcher_read.specs.Helps.TakenTokens.{joins_by, part_of, rule_of}
use Rattle.matcher_read.specs.declared.tree.Operator.{Operator}
use Rattle.matcher_read.specs.declared.tree.Operator.TheVariants as op
use Rattle.matcher_read.specs.declared.words.Chain.{Chain}
use Rattle.matcher_read.specs.declared.words.Chain.TheVariants as chain

-- chains, by their rule and its part
pub part_is : (c : Chain) → IsPartOf (part_of c) (rule_of c)
part_is chain.Or = and_or
part_is chain.And = cmp_and
part_is chain.Sum = term_sum
part_is chain.Term = unary_term

pub joins_is : (c : Chain) (o : Operator) → joins_by (rule_of c) (rank o) ≡ true → Joins o (rule_of c)
joins_is chain.Or op.Or h = or_joins
joins_is chain.And op.And h = and_joins
joins_is chain.Sum op.Plus h = plus_joins
joins_is chain.Sum op.Minus h = minus_joins
joins_is chain.Term op.Times h = times_joins
joins_is chain.Term op.Over h = over_joins
joins_is chain.Term op.Remainder h = remainder_joins
joins_is _ _ h = absurd (false≢true h)

-- operators that compare
pub compares_is : (o : Operator) → joins_by cmp_rule (rank o) ≡ true → Compares o
compares_is op.Equal h = equal_compares
compares_is op.NotEqual h = not_equal_compares
compares_is op.Less h = less_compares
compares_is op.AtMost h = at_most_compares
compares_is op.Greater h = greater_compares
compares_is op.AtLeast h = at_least_compares
compares_is _ h = absurd (false≢true h)

pub comparing_is : (r : Rank) → joins_by cmp_rule r ≡ true → r ≡ comparing_rank
comparing_is comparing_rank h = refl
comparing_is _ h = absurd (false≢true h)

pub comparing : {o : Operator} → Compares o → rank o ≡ comparing_rank
comparing equal_compares = refl
comparing _ = refl
