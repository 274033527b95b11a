use Rattle.std.proofs.Common.{ℕ, List, false, ap, ◌∙◌}
use Rattle.std.specs.Option.{option_and_then}
use Rattle.model_conf.specs.Faults.{key_text}
use Rattle.file_lint.specs.Mended.{with_column, with_column_of, word_front}
use Rattle.file_lint.specs.Places.{file_lines, from_key}
use Rattle.file_lint.proofs.mended.with_declared.Goals as goal

pub returns-in_default : goal.returns-in_default
returns-in_default c = ap (option_and_then (with_column_of c.args.text.now)) c.in_default.ensures

pub returns : goal.returns
returns c =
    let text = c.args.text.now in
    let key = key_text c.in-Some.key in
    c.in_ok-made.ensures ∙ ap (λ (k : List ℕ). with_column k c.word_front-column.result.now (from_key k false (file_lines text)) text) c.key_text-named.ensures
    ∙ ap (λ (column : List ℕ). with_column key column (from_key key false (file_lines text)) text) c.word_front-column.ensures ∙ ap (option_and_then (with_column_of text)) c.in-Some.ensures
