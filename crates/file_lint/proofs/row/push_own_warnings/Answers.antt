use Rattle.std.proofs.Common.{◌≡◌, ◌++◌, sym, subst}
use Rattle.std.specs.Prelude.{OnOk}
use Rattle.effect_fold.specs.declared.effect.Effect.{Effect}
use Rattle.perm_base.specs.declared.shapes.TableId.{TableId}
use Rattle.file_lint.specs.RowWarnings.{order_warnings, own_warnings, policy_warnings}
use Rattle.file_lint.specs.Helps.Rows.{row_line}
use Rattle.file_lint.proofs.row.push_own_warnings.Goals as goal

pub returns-in-P : goal.returns-in-P
returns-in-P c = λ model same.
    let entry = c.args.entry.now in
    let told = subst (λ (effect : Effect). OnOk c.push_rule_warnings.result (c.push_rule_warnings.new.found.items ≡ c.args.found.now.items ++ (policy_warnings c.args.shapes.now (row_line c.args.row.now) entry.rule ++ order_warnings effect c.args.seen.now.policy (row_line c.args.row.now) entry.rule c.args.shapes.now.effect_column)))
    (sym same) c.push_rule_warnings.ensures in
    subst (λ (table : TableId). OnOk c.push_rule_warnings.result (c.push_rule_warnings.new.found.items ≡ c.args.found.now.items ++ own_warnings model c.args.shapes.now c.args.seen.now.policy (row_line c.args.row.now) entry table)) (sym c.in-P.is) told

pub returns-in-G : goal.returns-in-G
returns-in-G c = λ model same.
    let entry = c.args.entry.now in
    subst (λ (table : TableId). OnOk c.push_link.result (c.push_link.new.found.items ≡ c.args.found.now.items ++ own_warnings model c.args.shapes.now c.args.seen.now.policy (row_line c.args.row.now) entry table)) (sym c.in-G.is) c.push_link.ensures
