use Rattle.std.proofs.Common.{arith, rules}
use Rattle.policy_table.specs.Changes.{edited}
use Rattle.policy_table.proofs.MovedLemmas.{are_moved, few_put, pairs_after, pairs_few, pairs_told, patterns_after, patterns_few, patterns_told}
use Rattle.policy_table.proofs.counts_after.relation_after.Goals as goal

pub overflow_add-patterns : goal.overflow_add-patterns
overflow_add-patterns c =
    let few = few_put (are_moved c.kept.ensures c.requires.possible c.as_slice-changes.ensures c.in_ok-put.ensures c.in_ok-taken.ensures) c.args.shape.domains in
    search (rules, arith)

pub overflow_sub-patterns : goal.overflow_sub-patterns
overflow_sub-patterns c =
    let are = are_moved c.kept.ensures c.requires.possible c.as_slice-changes.ensures c.in_ok-put.ensures c.in_ok-taken.ensures in
    omega (arith, patterns_after are c.args.shape.domains, c.patterns.ensures.value, c.patterns-2.ensures, c.patterns-3.ensures)

pub overflow_sub-pairs : goal.overflow_sub-pairs
overflow_sub-pairs c =
    let are = are_moved c.kept.ensures c.requires.possible c.as_slice-changes.ensures c.in_ok-put.ensures c.in_ok-taken.ensures in
    omega (arith, pairs_after are c.kept-2.ensures.once c.kept-2.ensures.some c.kept-3.ensures.once c.kept-3.ensures.some, c.domains.ensures.value, c.new_domains.ensures.value, c.gone_domains.ensures)

pub returns-clause-patterns : goal.returns-clause-patterns
returns-clause-patterns c =
    let are = are_moved c.kept.ensures c.requires.possible c.as_slice-changes.ensures c.in_ok-put.ensures c.in_ok-taken.ensures in
    patterns_told (edited c.args.edit.now c.args.tables.now.policy) c.args.shape _ c.if-not-shape.false
    (omega (arith, patterns_after are c.args.shape.domains, c.patterns.ensures.value, c.patterns-2.ensures, c.patterns-3.ensures))

pub returns-clause-pairs : goal.returns-clause-pairs
returns-clause-pairs c =
    let are = are_moved c.kept.ensures c.requires.possible c.as_slice-changes.ensures c.in_ok-put.ensures c.in_ok-taken.ensures in
    pairs_told (edited c.args.edit.now c.args.tables.now.policy) c.args.shape _ c.if-not-shape.false
    (omega (arith, pairs_after are c.kept-2.ensures.once c.kept-2.ensures.some c.kept-3.ensures.once c.kept-3.ensures.some, c.domains.ensures.value, c.new_domains.ensures.value, c.gone_domains.ensures))

pub returns-clause-few_patterns : goal.returns-clause-few_patterns
returns-clause-few_patterns c =
    let are = are_moved c.kept.ensures c.requires.possible c.as_slice-changes.ensures c.in_ok-put.ensures c.in_ok-taken.ensures in
    let few = patterns_few (edited c.args.edit.now c.args.tables.now.policy) c.args.shape c.requires.few in
    omega (arith, few, patterns_after are c.args.shape.domains, c.patterns.ensures.value, c.patterns-2.ensures, c.patterns-3.ensures)

pub returns-clause-few_pairs : goal.returns-clause-few_pairs
returns-clause-few_pairs c =
    let are = are_moved c.kept.ensures c.requires.possible c.as_slice-changes.ensures c.in_ok-put.ensures c.in_ok-taken.ensures in
    let few = pairs_few (edited c.args.edit.now c.args.tables.now.policy) c.args.shape c.requires.few in
    omega (arith, few, pairs_after are c.kept-2.ensures.once c.kept-2.ensures.some c.kept-3.ensures.once c.kept-3.ensures.some, c.domains.ensures.value, c.new_domains.ensures.value, c.gone_domains.ensures)
