use Rattle.std.proofs.Common.{arith, length, sym, ◌∙◌}
use Rattle.std.proofs.lemmas.Bool.{le-ltb, ltb-false}
use Rattle.perm_base.specs.declared.shapes.TableId.TheVariants.{P}
use Rattle.policy_table.specs.Changes.{edited}
use Rattle.policy_table.specs.Tables.{rows}
use Rattle.policy_table.proofs.SoundLemmas.{lists_few}
use Rattle.policy_table.proofs.PassedLemmas.{passed_none, relations_stay}
use Rattle.policy_table.proofs.tables.Tables.passed_after.Goals as goal

pub returns-then-not-is_of_roles : goal.returns-then-not-is_of_roles
returns-then-not-is_of_roles c =
    let policy = c.args.self.now.policy in
    let after = edited c.args.edit.now policy in
    let same = relations_stay c.args.edit.now policy (sym c.is_of_roles.ensures ∙ c.if-not-is_of_roles.true) in
    passed_none c.args.shapes.now policy after same c.requires.before (le-ltb 200000 (length (rows after P)) (omega (arith, c.rows_after.ensures.value, c.if-rows_after-gt-MOST_POLICY_ROWS.false)))
    (sym c.has_many_role_rows.ensures ∙ c.if-has_many_role_rows.false)

pub domain_limit-requires-clause-few : goal.domain_limit-requires-clause-few
domain_limit-requires-clause-few c =
    let after = edited c.args.edit.now c.args.self.now.policy in
    lists_few c.args.shapes.now after c.rows_after.ensures.still_nine c.requires.shaped (omega (arith, c.rows_after.ensures.value, c.if-rows_after-gt-MOST_POLICY_ROWS.false))
    (ltb-false 200000 _ (sym c.has_many_role_rows.ensures ∙ c.if-has_many_role_rows.false))
