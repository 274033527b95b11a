use Rattle.std.proofs.Common.{◌≡◌, ℕ, ◌+◌, Bool, true, false, List, [], ◌∷◌, ◌++◌, codes, sym, ap, ◌∙◌, rules}
use Rattle.std.specs.Prelude.{if◌then◌else◌, string_bytes}
use Rattle.file_lint.specs.RowWarnings.{effect_warnings, field_of, is_effect, warning_in}
use Rattle.file_lint.specs.Texts.{quoted}
use Rattle.file_lint.specs.Helps.Rows.{row_line}
use Rattle.file_lint.proofs.ToldLemmas.{none_told, one_told}
use Rattle.file_lint.proofs.row.push_effect.Goals as goal

pub returns-in_default : goal.returns-in_default
returns-in_default c = none_told c.args.found.now.items _ (ap (effect_warnings (row_line c.args.row.now) c.args.rule.now) c.in_default.is)

pub returns-then-is_effect : goal.returns-then-is_effect
returns-then-is_effect c =
    let line = row_line c.args.row.now in
    let rule = c.args.rule.now in
    let at = c.in-Some.at in
    let told = warning_in line (at + 1) (quoted (field_of rule at) ++ codes " is neither allow nor deny: the rule counts as not matched") in
    let is : is_effect (field_of rule at) ≡ true = sym (c.is_effect.ensures ∙ ap is_effect c.field-text.ensures) ∙ c.if-is_effect.true in
    none_told c.args.found.now.items _ (ap (effect_warnings line rule) c.in-Some.is ∙ ap (λ (b : Bool). if b then [] else told ∷ []) is)

pub returns : goal.returns
returns c =
    let line = row_line c.args.row.now in
    let rule = c.args.rule.now in
    let at = c.in-Some.at in
    let words = λ (text : List ℕ). quoted text ++ codes " is neither allow nor deny: the rule counts as not matched" in
    let told = warning_in line (at + 1) (words (field_of rule at)) in
    let other : is_effect (field_of rule at) ≡ false = sym (c.is_effect.ensures ∙ ap is_effect c.field-text.ensures) ∙ c.if-is_effect.false in
    let from : c.from.result ≡ at = search rules in
    let made : c.warning_in.result ≡ told
    = c.warning_in.ensures ∙ ap (λ (n : ℕ). warning_in line (n + 1) (string_bytes c.in_ok-words.words)) from ∙ ap (warning_in line (at + 1)) (c.in_ok-words.ensures ∙ ap words c.field-text.ensures) in
    one_told c.args.found.now.items c.push.new.self.items _ told c.warning_in.result (ap (effect_warnings line rule) c.in-Some.is ∙ ap (λ (b : Bool). if b then [] else told ∷ []) other) made c.in_ok-push.ensures.items
