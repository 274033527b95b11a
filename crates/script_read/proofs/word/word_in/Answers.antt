use Rattle.std.proofs.Common.{◌≡◌, take, sym, ap, subst, ◌∙◌, arith}
use Rattle.std.specs.List.{prefix_len}
use Rattle.std.specs.Str.{IsCharBoundary}
use Rattle.std.proofs.lemmas.Grind.{common_steps}
use Rattle.script_read.specs.Helps.Ends.{is_no_blank}
use Rattle.script_read.proofs.WordLemmas.{word_boundary, word_of-take}
use Rattle.script_read.proofs.word.word_in.Goals as goal

pub range-requires-clause-end_boundary : goal.range-requires-clause-end_boundary
range-requires-clause-end_boundary c =
    subst (IsCharBoundary c.args.line.now) (sym (c.word_end-end.ensures ∙ ap (prefix_len is_no_blank) c.as_bytes.ensures.value)) (word_boundary c.args.line.now)

pub returns : goal.returns
returns c =
    let front : c.range.result.now ≡ take c.word_end-end.result c.args.line.now = grind (arith, common_steps) in
    front ∙ ap (λ n. take n c.args.line.now) (c.word_end-end.ensures ∙ ap (prefix_len is_no_blank) c.as_bytes.ensures.value) ∙ sym (word_of-take c.args.line.now)
