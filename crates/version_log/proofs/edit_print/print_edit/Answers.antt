use Rattle.std.proofs.Common.{◌≡◌, ℕ, List, sym, subst, ap, ◌∙◌, arith}
use Rattle.std.specs.String.{string_bytes}
use Rattle.std.proofs.lemmas.Str.{IsUtf8-string_bytes}
use Rattle.policy_table.specs.declared.change.Change.{Change}
use Rattle.version_log.proofs.ReadLemmas.{printed_is_text}
use Rattle.version_log.specs.EditText.{IsEditText, NameRules, printed_edit}
use Rattle.version_log.proofs.PrintLemmas.{whole_edit}
use Rattle.version_log.proofs.edit_print.print_edit.Goals as goal

pub returns-clause-printed : goal.returns-clause-printed
returns-clause-printed c =
    c.from_string.ensures ∙ whole_edit c.as_slice-change-items.result.now c.loop-change.change-index (string_bytes c.loop-change.text) _ (omega arith) c.loop-change.invariant.lines c.in_ok-push_str.ensures.bytes
    ∙ ap printed_edit c.as_slice-change-items.ensures

pub returns-clause-read : goal.returns-clause-read
returns-clause-read c = λ names.
    let printed : string_bytes c.push_str.new.self ≡ printed_edit c.as_slice-change-items.result.now
    = whole_edit c.as_slice-change-items.result.now c.loop-change.change-index (string_bytes c.loop-change.text) _ (omega arith) c.loop-change.invariant.lines c.in_ok-push_str.ensures.bytes in
    let same : c.as_slice-change-items.result.now ≡ c.args.edit.now = c.as_slice-change-items.ensures in
    let text : IsEditText (string_bytes c.push_str.new.self) c.as_slice-change-items.result.now
    = printed_is_text c.as_slice-change-items.result.now c.loop-change.change-index (string_bytes c.push_str.new.self) (omega arith) printed (IsUtf8-string_bytes c.push_str.new.self) c.loop-change.invariant.whole (subst NameRules (sym same) names) in
    subst (λ (l : List Change). IsEditText c.from_string.result l) same (subst (λ (t : List ℕ). IsEditText t c.as_slice-change-items.result.now) (sym c.from_string.ensures) text)
