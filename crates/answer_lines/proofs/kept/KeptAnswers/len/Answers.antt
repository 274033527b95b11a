use Rattle.std.proofs.Common.{List, ap, arith, drop, length, sym}
use Rattle.std.proofs.lemmas.List.{length-drop}
use Rattle.std.specs.String.{string_bytes}
use Rattle.answer_lines.proofs.MarkLemmas.{length_marked}
use Rattle.answer_lines.specs.Printed.{PrintedAnswer}
use Rattle.answer_lines.proofs.kept.KeptAnswers.len.Goals as goal

pub returns : goal.returns
returns c =
    let left = length_marked (drop c.self.inside.taken c.self.inside.marks.items) (drop c.self.inside.from (string_bytes c.self.inside.texts)) in
    omega (arith, left, ap (λ (l : List PrintedAnswer). length l) (sym c.self.view_is), length-drop c.self.inside.taken c.self.inside.marks.items, c.len.ensures, c.self.inside.marks.ok.0)
