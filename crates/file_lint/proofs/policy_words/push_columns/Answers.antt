use Rattle.std.proofs.Common.{◌≡◌, ℕ, codes, decimal, length, ap, arith}
use Rattle.std.specs.Prelude.{string_bytes}
use Rattle.perm_base.specs.Fields.{joined}
use Rattle.file_lint.proofs.PushLemmas.{four_pushed, pushed_so}
use Rattle.file_lint.proofs.policy_words.push_columns.Goals as goal

pub returns : goal.returns
returns c =
    let columns = c.args.columns.now in
    let count : c.from.result ≡ length columns = omega (arith, c.len.ensures) in
    four_pushed (string_bytes c.args.words.now) (string_bytes c.push_number.new.text) (string_bytes c.push.new.text) (string_bytes c.push_texts.new.text) (string_bytes c.push-2.new.text)
    (decimal (length columns)) (codes " wanted (") (joined columns) (codes ")")
    (pushed_so _ _ (decimal c.from.result) (decimal (length columns)) (ap (λ (n : ℕ). decimal n) count) c.in_ok-push_number.ensures) c.in_ok-push.ensures c.in_ok-push_texts.ensures.ok c.in_ok-push-2.ensures
