use Rattle.std.proofs.Common.{◌∷◌, ◌++◌, [], List, ap, refl, ◌∙◌}
use Rattle.std.specs.String.{string_bytes}
use Rattle.answer_lines.proofs.MarkLemmas.{answer_more, pushed_marked, tells_line}
use Rattle.answer_lines.specs.LineText.{answer_text, numbered}
use Rattle.answer_lines.specs.Printed.{printed_answer}
use Rattle.answer_lines.specs.declared.kept.Mark.{Mark}
use Rattle.answer_lines.proofs.kept.KeptAnswers.push_answer.Goals as goal

pub invariant_of-self-2 : goal.invariant_of-self-2
invariant_of-self-2 c =
    let answer = c.args.answer.now in
    let mark : Mark = record { size = c.in_ok-size.size; number = c.args.number; shown = c.shown_by-shown.result } in
    pushed_marked c.self.inside.from c.self.inside.taken (string_bytes c.self.inside.texts) (numbered c.args.number (answer_text answer)) (string_bytes c.push_whole.new.text) c.self.inside.marks.items c.push_reserved.new.self.items mark c.self.invariant
    c.in_ok-size.ensures.appended (c.push_reserved.ensures.items ∙ ap (λ (l : List Mark). l ++ mark ∷ []) c.reserve.ensures.items) c.in_ok-size.ensures.size (tells_line c.args.number (answer_text answer) _ refl)

pub returns-clause-pushed : goal.returns-clause-pushed
returns-clause-pushed c =
    let answer = c.args.answer.now in
    let mark : Mark = record { size = c.in_ok-size.size; number = c.args.number; shown = c.shown_by-shown.result } in
    answer_more c.self.inside.from c.self.inside.taken (string_bytes c.self.inside.texts) (numbered c.args.number (answer_text answer)) (string_bytes c.push_whole.new.text) c.self.inside.marks.items c.push_reserved.new.self.items mark c.self.invariant
    c.in_ok-size.ensures.appended (c.push_reserved.ensures.items ∙ ap (λ (l : List Mark). l ++ mark ∷ []) c.reserve.ensures.items) c.in_ok-size.ensures.size
    c.args.number (printed_answer answer) c.args.self.now refl refl c.shown_by-shown.ensures c.self.view_is
