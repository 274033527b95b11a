use Rattle.std.proofs.Common.{◌≡◌, ℕ, Bool, true, false, List, [], ◌∷◌, sym, ap, ◌∙◌}
use Rattle.std.specs.Prelude.{if◌then◌else◌}
use Rattle.std.specs.Str.{bytes_eq}
use Rattle.file_lint.specs.RowWarnings.{field_of, link_words, warning_in}
use Rattle.file_lint.specs.Helps.Rows.{row_line}
use Rattle.file_lint.proofs.ToldLemmas.{none_told, one_told}
use Rattle.file_lint.proofs.row.push_link.Goals as goal

pub returns-then-not-is_same : goal.returns-then-not-is_same
returns-then-not-is_same c =
    let rule = c.args.rule.now in
    let told = warning_in (row_line c.args.row.now) 2 (link_words (field_of rule 0)) in
    let other : bytes_eq (field_of rule 0) (field_of rule 1) ≡ false
    = sym (c.is_same.ensures ∙ ap (λ (name : List ℕ). bytes_eq name c.field-role.result.now) c.field-name.ensures ∙ ap (bytes_eq (field_of rule 0)) c.field-role.ensures) ∙ c.if-not-is_same.true in
    none_told c.args.found.now.items _ (ap (λ (b : Bool). if b then told ∷ [] else []) other)

pub returns : goal.returns
returns c =
    let line = row_line c.args.row.now in
    let rule = c.args.rule.now in
    let told = warning_in line 2 (link_words (field_of rule 0)) in
    let same : bytes_eq (field_of rule 0) (field_of rule 1) ≡ true
    = sym (c.is_same.ensures ∙ ap (λ (name : List ℕ). bytes_eq name c.field-role.result.now) c.field-name.ensures ∙ ap (bytes_eq (field_of rule 0)) c.field-role.ensures) ∙ c.if-not-is_same.false in
    let made : c.warning_in.result ≡ told = c.warning_in.ensures ∙ ap (warning_in line 2) (c.in_ok-words.ensures ∙ ap link_words c.field-name.ensures) in
    one_told c.args.found.now.items c.push.new.self.items _ told c.warning_in.result (ap (λ (b : Bool). if b then told ∷ [] else []) same) made c.in_ok-push.ensures.items
