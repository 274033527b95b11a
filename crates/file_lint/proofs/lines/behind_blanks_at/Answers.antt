use Rattle.std.proofs.Common.{◌≤◌, ◌+◌, List, ℕ, drop, length, ap, ◌∙◌, arith}
use Rattle.std.proofs.lemmas.List.{take_rest}
use Rattle.file_lint.specs.Places.{blanks_before}
use Rattle.file_lint.proofs.PlaceLemmas.{blanks_past}
use Rattle.file_lint.proofs.lines.behind_blanks_at.Goals as goal

pub returns-then-offset-bytes-clause-value : goal.returns-then-offset-bytes-clause-value
returns-then-offset-bytes-clause-value c =
    let past : length c.args.text.now ≤ c.args.offset = omega (arith, ap (λ (l : List ℕ). length l) c.as_bytes-bytes.ensures.value) in
    blanks_past c.args.text.now c.args.offset past

pub returns-clause-value : goal.returns-clause-value
returns-clause-value c =
    ap (λ n. c.args.offset + n)
    (c.blanks_before.ensures.value ∙ ap blanks_before (take_rest c.as_bytes-bytes.result.now c.args.offset) ∙ ap (λ l. blanks_before (drop c.args.offset l)) c.as_bytes-bytes.ensures.value)
