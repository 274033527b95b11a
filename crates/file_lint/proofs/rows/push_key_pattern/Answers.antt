use Rattle.std.proofs.Common.{◌≡◌, ◌+◌, ◌++◌, ◌∷◌, [], sym, ◌∙◌, rules, ℕ, ap}
use Rattle.std.specs.Prelude.{string_bytes}
use Rattle.file_lint.specs.declared.finding.Finding.{Finding}
use Rattle.text_parts.specs.Lines.{has_byte}
use Rattle.file_lint.specs.ModelWarnings.{brace_words}
use Rattle.file_lint.specs.RowWarnings.{warning_in}
use Rattle.file_lint.specs.Helps.Rows.{row_line}
use Rattle.file_lint.proofs.RowLemmas.{told_not, told_so}
use Rattle.file_lint.proofs.rows.push_key_pattern.Goals as goal

pub returns-then-not-has_byte : goal.returns-then-not-has_byte
returns-then-not-has_byte c = λ model. told_not (has_byte 123 c.args.text.now) (warning_in (row_line c.args.row.now) (c.args.at + 1) brace_words) c.args.found.now.items (sym c.has_byte.ensures ∙ c.if-not-has_byte.true)

pub returns : goal.returns
returns c = λ model.
    let told = warning_in (row_line c.args.row.now) (c.args.at + 1) brace_words in
    let line = row_line c.args.row.now in
    let from : c.from.result ≡ c.args.at = search rules in
    let made : c.warning_in.result ≡ told
    = c.warning_in.ensures ∙ ap (λ (n : ℕ). warning_in line (n + 1) (string_bytes c.in_ok-words.words)) from ∙ ap (warning_in line (c.args.at + 1)) c.in_ok-words.ensures.ok in
    let grown : c.push.new.self.items ≡ c.args.found.now.items ++ told ∷ [] = c.in_ok-push.ensures.items ∙ ap (λ (f : Finding). c.args.found.now.items ++ f ∷ []) made in
    told_so (has_byte 123 c.args.text.now) told c.args.found.now.items c.push.new.self.items (sym c.has_byte.ensures ∙ c.if-not-has_byte.false) grown
