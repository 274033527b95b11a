use Rattle.std.proofs.Common.{◌≡◌, ◌+◌, ◌++◌, ◌∷◌, [], codes, rules, ℕ, ap, ◌∙◌}
use Rattle.std.specs.Prelude.{string_bytes}
use Rattle.file_lint.specs.declared.finding.Finding.{Finding}
use Rattle.matcher_read.specs.Expression.{Expression}
use Rattle.model_conf.specs.RuleText.{IsNoRuleText, IsRuleText}
use Rattle.file_lint.specs.RowWarnings.{warning_in}
use Rattle.file_lint.specs.Texts.{quoted}
use Rattle.file_lint.specs.Helps.Rows.{row_line}
use Rattle.file_lint.proofs.RowLemmas.{no_surprise, surprise}
use Rattle.file_lint.proofs.rows.push_rule_text.Goals as goal

pub returns-then-says : goal.returns-then-says
returns-then-says c =
    let text = c.args.text.now in
    no_surprise ((e : Expression) × IsRuleText c.args.model.now text e) (IsNoRuleText c.args.model.now text) (warning_in (row_line c.args.row.now) (c.args.at + 1) (quoted text ++ codes " says no rule: eval fails with it")) c.args.found.now.items c.in_ok-says.says c.in_ok-says.ensures c.if-says.true

pub returns : goal.returns
returns c =
    let text = c.args.text.now in
    let told = warning_in (row_line c.args.row.now) (c.args.at + 1) (quoted text ++ codes " says no rule: eval fails with it") in
    let line = row_line c.args.row.now in
    let from : c.from.result ≡ c.args.at = search rules in
    let made : c.warning_in.result ≡ told
    = c.warning_in.ensures ∙ ap (λ (n : ℕ). warning_in line (n + 1) (string_bytes c.in_ok-words.words)) from ∙ ap (warning_in line (c.args.at + 1)) c.in_ok-words.ensures in
    let grown : c.push.new.self.items ≡ c.args.found.now.items ++ told ∷ [] = c.in_ok-push.ensures.items ∙ ap (λ (f : Finding). c.args.found.now.items ++ f ∷ []) made in
    surprise ((e : Expression) × IsRuleText c.args.model.now text e) (IsNoRuleText c.args.model.now text) told c.args.found.now.items c.push.new.self.items c.in_ok-says.says c.in_ok-says.ensures c.if-says.false grown
