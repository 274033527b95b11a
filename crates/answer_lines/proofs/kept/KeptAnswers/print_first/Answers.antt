use Rattle.std.proofs.Common.{◌≡◌, ◌+◌, ◌-◌, List, Some, ap, arith, drop, refl, slice_get, subst, sym, ◌∙◌}
use Rattle.std.proofs.lemmas.Option.{slice_get_read}
use Rattle.std.specs.String.{string_bytes}
use Rattle.answer_lines.proofs.MarkLemmas.{first_out, first_tells}
use Rattle.answer_lines.specs.Helps.Marked.{marked}
use Rattle.answer_lines.specs.Printed.{AreTakenOut, PrintedAnswer}
use Rattle.answer_lines.specs.declared.kept.Mark.{Mark}
use Rattle.answer_lines.proofs.kept.KeptAnswers.print_first.Goals as goal

pub told_in-told-requires : goal.told_in-told-requires
told_in-told-requires c =
    let here : slice_get c.self.inside.marks.items c.self.inside.taken ≡ Some c.in-Some.mark.now = ap (λ (l : List Mark). slice_get l c.self.inside.taken) (sym c.deref.ensures.value) ∙ slice_get_read c.deref.result.now _ c.self.inside.taken c.in-Some.mark.now refl c.in-Some.ensures.lookup.3.0 c.in-Some.ensures.lookup.1 in
    let size : c.self.inside.from + c.in-Some.mark.now.size - c.self.inside.from ≡ c.in-Some.mark.now.size = omega arith in
    first_tells c.self.inside.from c.self.inside.taken (string_bytes c.self.inside.texts) c.self.inside.marks.items c.in-Some.mark.now c.self.invariant here (c.self.inside.from + c.in-Some.mark.now.size - c.self.inside.from) c.as_bytes.result.now size c.as_bytes.ensures.value

pub returns-clause-taken : goal.returns-clause-taken
returns-clause-taken c =
    let here : slice_get c.self.inside.marks.items c.self.inside.taken ≡ Some c.in-Some.mark.now = ap (λ (l : List Mark). slice_get l c.self.inside.taken) (sym c.deref.ensures.value) ∙ slice_get_read c.deref.result.now _ c.self.inside.taken c.in-Some.mark.now refl c.in-Some.ensures.lookup.3.0 c.in-Some.ensures.lookup.1 in
    let size : c.self.inside.from + c.in-Some.mark.now.size - c.self.inside.from ≡ c.in-Some.mark.now.size = omega arith in
    subst (λ (l : List PrintedAnswer). AreTakenOut 1 c.args.number l (marked (drop (c.self.inside.taken + 1) c.self.inside.marks.items) (drop (c.self.inside.from + c.in-Some.mark.now.size) (string_bytes c.self.inside.texts))) c.args.lines.now c.push_line_of.new.lines) c.self.view_is
    (first_out c.self.inside.from c.self.inside.taken (string_bytes c.self.inside.texts) c.self.inside.marks.items c.in-Some.mark.now c.self.invariant here c.args.number (c.self.inside.from + c.in-Some.mark.now.size - c.self.inside.from) c.as_bytes.result.now c.told_in-told.result.now
    c.args.lines.now c.push_line_of.new.lines size c.as_bytes.ensures.value c.told_in-told.ensures c.in_ok-push_line_of.ensures.added)
