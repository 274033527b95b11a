use Rattle.std.proofs.Common.{◌≡◌, length, ap, arith, rules, sym, ◌∙◌}
use Rattle.policy_csv.specs.Helps.Filled.{ranked_if}
use Rattle.policy_csv.proofs.LimitLemmas.{few_of_table}
use Rattle.policy_csv.proofs.PutLemmas.{place_known}
use Rattle.policy_csv.proofs.RankedLemmas.{ranked_length, ranked_passed}
use Rattle.policy_table.specs.Limits.{passed}
use Rattle.policy_csv.proofs.fill.put.Goals as goal

pub insert-requires-clause-table : goal.insert-requires-clause-table
insert-requires-clause-table c = place_known c.args.shapes.now c.args.entry.table (length c.args.entry.rule) c.requires.valid.roles c.requires.columns

pub insert-requires-clause-few : goal.insert-requires-clause-few
insert-requires-clause-few c =
    let shapes = c.args.shapes.now in
    let policy = c.args.tables.now.policy in
    omega (arith, few_of_table shapes (ranked_if shapes.ranked policy) c.args.entry.table c.requires.filled.sound.shaped c.requires.filled.sound.within, ranked_length shapes.ranked policy c.args.entry.table c.requires.filled.nine)

pub returns-then-not-branch-clause-limit : goal.returns-then-not-branch-clause-limit
returns-then-not-branch-clause-limit c =
    let shapes = c.args.shapes.now in
    let policy = c.args.tables.now.policy in
    let same : c.insert.new.self.policy ≡ policy = search rules in
    sym (ap (passed shapes) same ∙ sym (ranked_passed shapes shapes.ranked policy c.requires.filled.nine) ∙ c.requires.filled.sound.within)
