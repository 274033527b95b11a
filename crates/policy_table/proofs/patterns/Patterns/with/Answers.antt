use Rattle.std.proofs.Common.{◌≡◌, ◌+◌, if◌then◌else◌, arith, rules}
use Rattle.perm_base.specs.Patterns.{is_pattern}
use Rattle.perm_base.specs.declared.shapes.Fit.{Fit}
use Rattle.perm_base.specs.declared.shapes.Fit.TheVariants.{Exact, KeyMatch, KeyMatch2, KeyMatch3, Glob}
use Rattle.policy_table.specs.Helps.Domains.{pattern_count}
use Rattle.policy_table.specs.declared.patterns.Patterns.{Patterns}
use Rattle.policy_table.proofs.DomainLemmas.{byte_fits, byte_added, no_pattern}
use Rattle.policy_table.proofs.patterns.Patterns.with.Goals as goal

pub overflow_add-result : goal.overflow_add-result
overflow_add-result c = let few = byte_fits c.args.self.key_match _ c.is_pattern.result c.from.ensures (c.requires KeyMatch) in search (rules, arith)

pub overflow_add-result-2 : goal.overflow_add-result-2
overflow_add-result-2 c = let few = byte_fits c.args.self.key_match2 _ c.is_pattern-2.result c.from-2.ensures (c.requires KeyMatch2) in search (rules, arith)

pub overflow_add-result-3 : goal.overflow_add-result-3
overflow_add-result-3 c = let few = byte_fits c.args.self.key_match3 _ c.is_pattern-3.result c.from-3.ensures (c.requires KeyMatch3) in search (rules, arith)

pub overflow_add-result-4 : goal.overflow_add-result-4
overflow_add-result-4 c = let few = byte_fits c.args.self.glob _ c.is_pattern-4.result c.from-4.ensures (c.requires Glob) in search (rules, arith)

pub returns : goal.returns
returns c = by
  where
    made : Patterns
    made = record {
      key_match = c.args.self.key_match + c.from.result;
      key_match2 = c.args.self.key_match2 + c.from-2.result;
      key_match3 = c.args.self.key_match3 + c.from-3.result;
      glob = c.args.self.glob + c.from-4.result;
    }

    by : (fit : Fit) → pattern_count made fit ≡ pattern_count c.args.self fit + (if is_pattern fit c.args.text.now then 1 else 0)
    by Exact = no_pattern c.args.text.now
    by KeyMatch = byte_added c.args.self.key_match _ _ _ c.from.ensures c.is_pattern.ensures
    by KeyMatch2 = byte_added c.args.self.key_match2 _ _ _ c.from-2.ensures c.is_pattern-2.ensures
    by KeyMatch3 = byte_added c.args.self.key_match3 _ _ _ c.from-3.ensures c.is_pattern-3.ensures
    by Glob = byte_added c.args.self.glob _ _ _ c.from-4.ensures c.is_pattern-4.ensures
