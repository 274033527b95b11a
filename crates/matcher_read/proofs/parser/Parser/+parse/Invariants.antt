use Rattle.std.proofs.Common.{ℕ, ◌+◌, ◌*◌, length, map}
use Rattle.matcher_read.specs.Expression.{expression}
use Rattle.matcher_read.specs.Grammar.{or_rule}
use Rattle.matcher_read.specs.Helps.Parsed.{Read, ReadList}
use Rattle.matcher_read.specs.Helps.TakenTokens.{may_follow, part_of, rule_of}
use Rattle.matcher_read.specs.declared.words.Chain.{Chain}
use Rattle.matcher_read.specs.declared.words.Chain.TheVariants as chain
use Rattle.matcher_read.proofs.parser.Parser.+parse.Given as goal

-- how far a part is from an operand without a sign, with the same levels
abbrev steps_of : Chain → ℕ
steps_of chain.Term = 2
steps_of chain.Sum = 4
steps_of chain.And = 7
steps_of chain.Or = 9

abbrev pub decreases-primary : goal.decreases-primary
decreases-primary l = 12 * l.levels

abbrev pub decreases-unary : goal.decreases-unary
decreases-unary l = 12 * l.levels + 1

abbrev pub decreases-part : goal.decreases-part
decreases-part l = 12 * l.levels + steps_of l.chain

abbrev pub decreases-chain : goal.decreases-chain
decreases-chain l = 12 * l.levels + steps_of l.chain + 1

abbrev pub decreases-comparison : goal.decreases-comparison
decreases-comparison l = 12 * l.levels + 6

abbrev pub decreases-list : goal.decreases-list
decreases-list l = 12 * l.levels + 11

abbrev pub invariant-chain-loop-at : goal.invariant-chain-loop-at
invariant-chain-loop-at l = Read l.levels (rule_of l.chain) (part_of l.chain) (expression l.left) l.fn.self.tokens l.self.tokens

abbrev pub decreases-chain-loop-at : goal.decreases-chain-loop-at
decreases-chain-loop-at l = length l.self.tokens.tokens

abbrev pub invariant-list-loop-list : goal.invariant-list-loop-list
invariant-list-loop-list l = ReadList l.levels (may_follow or_rule) (map expression l.list.items) l.fn.self.tokens l.self.tokens

abbrev pub decreases-list-loop-list : goal.decreases-list-loop-list
decreases-list-loop-list l = length l.self.tokens.tokens
