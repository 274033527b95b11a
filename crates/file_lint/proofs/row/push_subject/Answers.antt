use Rattle.std.proofs.Common.{◌≡◌, ℕ, ◌+◌, ◌++◌, Bool, true, false, List, [], ◌∷◌, codes, sym, ap, ◌∙◌, rules}
use Rattle.std.specs.Prelude.{if◌then◌else◌, string_bytes}
use Rattle.perm_base.specs.Patterns.{is_pattern}
use Rattle.file_lint.specs.RowWarnings.{field_of, subject_warnings, warning_in}
use Rattle.file_lint.specs.Texts.{quoted}
use Rattle.file_lint.specs.Helps.Rows.{row_line}
use Rattle.file_lint.proofs.ToldLemmas.{none_told, one_told}
use Rattle.file_lint.proofs.row.push_subject.Goals as goal

pub returns-in_default : goal.returns-in_default
returns-in_default c = none_told c.args.found.now.items _ (ap (subject_warnings (row_line c.args.row.now) c.args.rule.now c.args.at) c.in_default.is)

pub returns-then-not-is_pattern : goal.returns-then-not-is_pattern
returns-then-not-is_pattern c =
    let line = row_line c.args.row.now in
    let rule = c.args.rule.now in
    let at = c.args.at in
    let names = c.in-Some.shape.names in
    let told = warning_in line (at + 1) (quoted (field_of rule at) ++ codes " is a pattern of g: a name that is asked is never a pattern, so this rule is for the name of these very bytes") in
    let is : is_pattern names (field_of rule at) ≡ false = sym (c.is_pattern.ensures ∙ ap (is_pattern names) (c.as_bytes.ensures.value ∙ c.field-text.ensures)) ∙ c.if-not-is_pattern.true in
    none_told c.args.found.now.items _ (ap (subject_warnings line rule at) c.in-Some.is ∙ ap (λ (b : Bool). if b then told ∷ [] else []) is)

pub returns : goal.returns
returns c =
    let line = row_line c.args.row.now in
    let rule = c.args.rule.now in
    let at = c.args.at in
    let names = c.in-Some.shape.names in
    let words = λ (text : List ℕ). quoted text ++ codes " is a pattern of g: a name that is asked is never a pattern, so this rule is for the name of these very bytes" in
    let told = warning_in line (at + 1) (words (field_of rule at)) in
    let is : is_pattern names (field_of rule at) ≡ true = sym (c.is_pattern.ensures ∙ ap (is_pattern names) (c.as_bytes.ensures.value ∙ c.field-text.ensures)) ∙ c.if-not-is_pattern.false in
    let from : c.from.result ≡ at = search rules in
    let made : c.warning_in.result ≡ told
    = c.warning_in.ensures ∙ ap (λ (n : ℕ). warning_in line (n + 1) (string_bytes c.in_ok-words.words)) from ∙ ap (warning_in line (at + 1)) (c.in_ok-words.ensures ∙ ap words c.field-text.ensures) in
    one_told c.args.found.now.items c.push.new.self.items _ told c.warning_in.result (ap (subject_warnings line rule at) c.in-Some.is ∙ ap (λ (b : Bool). if b then told ∷ [] else []) is) made c.in_ok-push.ensures.items
