use Rattle.std.proofs.Common.{ℕ, List, ◌++◌, ap, ◌∙◌}
use Rattle.file_lint.specs.ModelWords.{error_at, error_of, fault_words, told_at}
use Rattle.file_lint.specs.Places.{file_lines, front_at, line_at, rest_at}
use Rattle.file_lint.proofs.model_words.error_of.Goals as goal

pub returns : goal.returns
unfolding error_of
returns c =
    let text = c.args.text.now in
    let at = c.place_of-at.result in
    let words = fault_words c.args.why text (line_at at.line (file_lines text)) (front_at at text) (rest_at at text) in
    c.error_at.ensures ∙ ap (error_at at) (c.in_ok-push_words.ensures ∙ ap (λ (l : List ℕ). l ++ words) c.new-words.ensures.bytes) ∙ ap (told_at c.args.why text) c.place_of-at.ensures
