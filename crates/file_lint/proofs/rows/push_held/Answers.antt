use Rattle.std.proofs.Common.{sym, subst}
use Rattle.std.specs.Prelude.{OnOk}
use Rattle.file_lint.specs.Helps.Rows.{FindsMore, row_line}
use Rattle.file_lint.specs.RowWarnings.{HeldFinds}
use Rattle.file_lint.specs.declared.nodes.Held.{Held}
use Rattle.file_lint.proofs.rows.push_held.Goals as goal

pub returns-in-Block : goal.returns-in-Block
returns-in-Block c =
    subst (λ (held : Held). OnOk c.push_block.result (FindsMore (HeldFinds c.args.model.now (row_line c.args.row.now) c.args.look.at c.args.text.now held) c.args.found.now.items c.push_block.new.found.items)) (sym c.in-Block.is) (c.push_block.ensures c.args.model.now)

pub returns-in-KeyPattern : goal.returns-in-KeyPattern
returns-in-KeyPattern c =
    subst (λ (held : Held). OnOk c.push_key_pattern.result (FindsMore (HeldFinds c.args.model.now (row_line c.args.row.now) c.args.look.at c.args.text.now held) c.args.found.now.items c.push_key_pattern.new.found.items)) (sym c.in-KeyPattern.is) (c.push_key_pattern.ensures c.args.model.now)

pub returns-in-RuleText : goal.returns-in-RuleText
returns-in-RuleText c =
    subst (λ (held : Held). OnOk c.push_rule_text.result (FindsMore (HeldFinds c.args.model.now (row_line c.args.row.now) c.args.look.at c.args.text.now held) c.args.found.now.items c.push_rule_text.new.found.items)) (sym c.in-RuleText.is) c.push_rule_text.ensures
