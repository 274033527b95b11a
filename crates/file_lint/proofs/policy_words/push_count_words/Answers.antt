use Rattle.std.proofs.Common.{◌≡◌, ◌-◌, ℕ, Option, codes, decimal, ap, ◌∙◌, arith}
use Rattle.std.specs.Prelude.{string_bytes}
use Rattle.perm_base.specs.TableNames.{table_named}
use Rattle.perm_base.specs.declared.shapes.TableId.{TableId}
use Rattle.file_lint.specs.Columns.{field_count}
use Rattle.file_lint.specs.PolicyWords.{name_in, wanted_text}
use Rattle.file_lint.specs.declared.columns.Within.TheVariants.{Front}
use Rattle.file_lint.proofs.PushLemmas.{pushed_so, three_pushed}
use Rattle.file_lint.proofs.policy_words.push_count_words.Goals as goal

pub returns : goal.returns
returns c =
    let line = c.args.line.now in
    let count : c.saturating_sub.result ≡ field_count Front line - 1 = omega (arith, c.field_count.ensures) in
    let wanted = wanted_text c.args.model.now in
    let named : c.named.result ≡ table_named (name_in line) = c.named.ensures ∙ ap table_named c.name_in.ensures in
    three_pushed (string_bytes c.args.words.now) (string_bytes c.push_number.new.text) (string_bytes c.push.new.text) (string_bytes c.push_wanted.new.words)
    (decimal (field_count Front line - 1)) (codes " fields, ") (wanted (table_named (name_in line)))
    (pushed_so _ _ (decimal c.saturating_sub.result) (decimal (field_count Front line - 1)) (ap (λ (n : ℕ). decimal n) count) c.in_ok-push_number.ensures)
    c.in_ok-push.ensures
    (pushed_so _ _ (wanted c.named.result) (wanted (table_named (name_in line))) (ap (λ (table : Option TableId). wanted table) named) c.in_ok-push_wanted.ensures)
