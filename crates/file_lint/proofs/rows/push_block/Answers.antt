use Rattle.std.proofs.Common.{◌≡◌, ◌+◌, ◌++◌, ◌∷◌, [], codes, rules, ℕ, ap, ◌∙◌}
use Rattle.std.specs.Prelude.{string_bytes}
use Rattle.file_lint.specs.declared.finding.Finding.{Finding}
use Rattle.ip_match.specs.Blocks.{IsBlock}
use Rattle.ip_match.specs.declared.block.Block.{Block as IpBlock}
use Rattle.file_lint.specs.RowWarnings.{warning_in}
use Rattle.file_lint.specs.Texts.{quoted}
use Rattle.file_lint.specs.Helps.Rows.{row_line}
use Rattle.file_lint.proofs.RowLemmas.{no_surprise, surprise}
use Rattle.file_lint.proofs.rows.push_block.Goals as goal

pub returns-then-is_block : goal.returns-then-is_block
returns-then-is_block c = λ model.
    let text = c.args.text.now in
    no_surprise ((block : IpBlock) × IsBlock text block) ((block : IpBlock) → ¬ (IsBlock text block)) (warning_in (row_line c.args.row.now) (c.args.at + 1) (quoted text ++ codes " is no address and no block: ipMatch fails with it")) c.args.found.now.items c.is_block.result c.is_block.ensures c.if-is_block.true

pub returns : goal.returns
returns c = λ model.
    let text = c.args.text.now in
    let told = warning_in (row_line c.args.row.now) (c.args.at + 1) (quoted text ++ codes " is no address and no block: ipMatch fails with it") in
    let line = row_line c.args.row.now in
    let from : c.from.result ≡ c.args.at = search rules in
    let made : c.warning_in.result ≡ told
    = c.warning_in.ensures ∙ ap (λ (n : ℕ). warning_in line (n + 1) (string_bytes c.in_ok-words.words)) from ∙ ap (warning_in line (c.args.at + 1)) c.in_ok-words.ensures in
    let grown : c.push.new.self.items ≡ c.args.found.now.items ++ told ∷ [] = c.in_ok-push.ensures.items ∙ ap (λ (f : Finding). c.args.found.now.items ++ f ∷ []) made in
    surprise ((block : IpBlock) × IsBlock text block) ((block : IpBlock) → ¬ (IsBlock text block)) told c.args.found.now.items c.push.new.self.items c.is_block.result c.is_block.ensures c.if-is_block.false grown
