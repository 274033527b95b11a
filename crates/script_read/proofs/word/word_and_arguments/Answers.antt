use Rattle.std.proofs.Common.{◌≡◌, take, drop, sym, ap, subst, ◌∙◌, arith}
use Rattle.std.specs.List.{prefix_len}
use Rattle.std.specs.Str.{IsCharBoundary}
use Rattle.std.proofs.lemmas.Grind.{common_steps}
use Rattle.text_parts.specs.Blanks.{trimmed}
use Rattle.script_read.specs.Helps.Ends.{is_no_blank}
use Rattle.script_read.proofs.AskLemmas.{asked_word}
use Rattle.script_read.proofs.WordLemmas.{behind_word-drop, word_boundary, word_of-take}
use Rattle.script_read.proofs.word.word_and_arguments.Goals as goal

-- a line that begins with `ask` and a blank
pub returns-then-begins_ask-clause-word : goal.returns-then-begins_ask-clause-word
returns-then-begins_ask-clause-word c = sym (asked_word c.args.line.now (c.begins_ask.ensures c.if-begins_ask.true))

pub range-requires-clause-end_boundary : goal.range-requires-clause-end_boundary
range-requires-clause-end_boundary c =
    subst (IsCharBoundary c.args.line.now) (sym (c.word_end-end.ensures ∙ ap (prefix_len is_no_blank) c.as_bytes.ensures.value)) (word_boundary c.args.line.now)

pub range_from-requires : goal.range_from-requires
range_from-requires c = λ some.
    subst (IsCharBoundary c.args.line.now) (sym (c.word_end-end.ensures ∙ ap (prefix_len is_no_blank) c.as_bytes.ensures.value)) (word_boundary c.args.line.now)

pub returns-clause-word : goal.returns-clause-word
returns-clause-word c =
    let front : c.range.result.now ≡ take c.word_end-end.result c.args.line.now = grind (arith, common_steps) in
    front ∙ ap (λ n. take n c.args.line.now) (c.word_end-end.ensures ∙ ap (prefix_len is_no_blank) c.as_bytes.ensures.value) ∙ sym (word_of-take c.args.line.now)

pub returns-clause-arguments : goal.returns-clause-arguments
returns-clause-arguments c =
    c.trimmed.ensures ∙ ap trimmed (c.range_from.ensures.value ∙ ap (λ n. drop n c.args.line.now) (c.word_end-end.ensures ∙ ap (prefix_len is_no_blank) c.as_bytes.ensures.value) ∙ sym (behind_word-drop c.args.line.now))
