use Rattle.std.proofs.Common.{◌≡◌, ◌+◌, ◌-◌, ◌<◌, ◌≤◌, ◌^◌, ◌++◌, ℕ, List, ap, arith, drop, length, map, subst, sym, take, ◌∙◌}
use Rattle.std.proofs.lemmas.List.{length-drop, take_rest}
use Rattle.std.specs.String.{string_bytes}
use Rattle.answer_lines.proofs.MarkLemmas.{run_few, run_fits, run_left, run_out, size_lines}
use Rattle.answer_lines.specs.Helps.Marked.{IsRun, marked, shown_by_mark, size_of}
use Rattle.answer_lines.specs.Printed.{AreTakenOut, PrintedAnswer}
use Rattle.answer_lines.specs.declared.kept.Mark.{Mark}
use Rattle.answer_lines.proofs.kept.KeptAnswers.print_some.Goals as goal

pub run_of-run-requires : goal.run_of-run-requires
run_of-run-requires c =
    let left : take (length c.deref.result.now - c.self.inside.taken) (drop c.self.inside.taken c.deref.result.now) ≡ drop c.self.inside.taken c.self.inside.marks.items = take_rest c.deref.result.now c.self.inside.taken ∙ ap (λ (l : List Mark). drop c.self.inside.taken l) c.deref.ensures.value in
    let size : size_of (drop c.self.inside.taken c.self.inside.marks.items) ≡ length (drop c.self.inside.from (string_bytes c.self.inside.texts)) = size_lines (drop c.self.inside.taken c.self.inside.marks.items) (drop c.self.inside.from (string_bytes c.self.inside.texts)) c.self.invariant.lines in
    let few : length (drop c.self.inside.from (string_bytes c.self.inside.texts)) < 2 ^ 63 = omega (arith, length-drop c.self.inside.from (string_bytes c.self.inside.texts), c.self.inside.texts.bytes.ok, c.self.inside.texts.bytes.small) in
    subst (λ (l : List Mark). size_of l < 2 ^ 63) (sym left) (omega (arith, size, few))

pub overflow_add-until : goal.overflow_add-until
overflow_add-until c =
    let left : take (length c.deref.result.now - c.self.inside.taken) (drop c.self.inside.taken c.deref.result.now) ≡ drop c.self.inside.taken c.self.inside.marks.items = take_rest c.deref.result.now c.self.inside.taken ∙ ap (λ (l : List Mark). drop c.self.inside.taken l) c.deref.ensures.value in
    let run : IsRun c.args.number c.run_of-run.result.count (drop c.self.inside.taken c.self.inside.marks.items) = subst (λ (l : List Mark). IsRun c.args.number c.run_of-run.result.count l) left c.run_of-run.ensures.run in
    let size : c.run_of-run.result.size ≡ size_of (take c.run_of-run.result.count (drop c.self.inside.taken c.self.inside.marks.items)) = c.run_of-run.ensures.size ∙ ap (λ (l : List Mark). size_of (take c.run_of-run.result.count l)) left in
    let fits : c.self.inside.from + c.run_of-run.result.size ≤ length (string_bytes c.self.inside.texts) = run_fits c.self.inside.from c.self.inside.taken c.args.number c.run_of-run.result.count c.run_of-run.result.size (string_bytes c.self.inside.texts) c.self.inside.marks.items c.self.invariant run size in
    omega (arith, fits, c.self.inside.texts.bytes.ok, c.self.inside.texts.bytes.small)

pub slice_bounds-push_shown-end : goal.slice_bounds-push_shown-end
slice_bounds-push_shown-end c =
    let left : take (length c.deref.result.now - c.self.inside.taken) (drop c.self.inside.taken c.deref.result.now) ≡ drop c.self.inside.taken c.self.inside.marks.items = take_rest c.deref.result.now c.self.inside.taken ∙ ap (λ (l : List Mark). drop c.self.inside.taken l) c.deref.ensures.value in
    let run : IsRun c.args.number c.run_of-run.result.count (drop c.self.inside.taken c.self.inside.marks.items) = subst (λ (l : List Mark). IsRun c.args.number c.run_of-run.result.count l) left c.run_of-run.ensures.run in
    let size : c.run_of-run.result.size ≡ size_of (take c.run_of-run.result.count (drop c.self.inside.taken c.self.inside.marks.items)) = c.run_of-run.ensures.size ∙ ap (λ (l : List Mark). size_of (take c.run_of-run.result.count l)) left in
    let few : c.self.inside.taken + c.run_of-run.result.count ≤ length c.self.inside.marks.items = run_few c.self.inside.from c.self.inside.taken c.args.number c.run_of-run.result.count c.run_of-run.result.size (string_bytes c.self.inside.texts) c.self.inside.marks.items c.self.invariant run size in
    omega (arith, few, ap (λ (l : List Mark). length l) c.deref-2.ensures.value, length-drop c.self.inside.taken c.deref-2.result.now)

pub slice_bounds-extend_from_slice-end : goal.slice_bounds-extend_from_slice-end
slice_bounds-extend_from_slice-end c =
    let left : take (length c.deref.result.now - c.self.inside.taken) (drop c.self.inside.taken c.deref.result.now) ≡ drop c.self.inside.taken c.self.inside.marks.items = take_rest c.deref.result.now c.self.inside.taken ∙ ap (λ (l : List Mark). drop c.self.inside.taken l) c.deref.ensures.value in
    let run : IsRun c.args.number c.run_of-run.result.count (drop c.self.inside.taken c.self.inside.marks.items) = subst (λ (l : List Mark). IsRun c.args.number c.run_of-run.result.count l) left c.run_of-run.ensures.run in
    let size : c.run_of-run.result.size ≡ size_of (take c.run_of-run.result.count (drop c.self.inside.taken c.self.inside.marks.items)) = c.run_of-run.ensures.size ∙ ap (λ (l : List Mark). size_of (take c.run_of-run.result.count l)) left in
    let fits : c.self.inside.from + c.run_of-run.result.size ≤ length (string_bytes c.self.inside.texts) = run_fits c.self.inside.from c.self.inside.taken c.args.number c.run_of-run.result.count c.run_of-run.result.size (string_bytes c.self.inside.texts) c.self.inside.marks.items c.self.invariant run size in
    omega (arith, fits, ap (λ (l : List ℕ). length l) c.as_bytes.ensures.value, length-drop c.self.inside.from c.as_bytes.result.now)

pub invariant_of-self : goal.invariant_of-self
invariant_of-self c =
    let left : take (length c.deref.result.now - c.self.inside.taken) (drop c.self.inside.taken c.deref.result.now) ≡ drop c.self.inside.taken c.self.inside.marks.items = take_rest c.deref.result.now c.self.inside.taken ∙ ap (λ (l : List Mark). drop c.self.inside.taken l) c.deref.ensures.value in
    let run : IsRun c.args.number c.run_of-run.result.count (drop c.self.inside.taken c.self.inside.marks.items) = subst (λ (l : List Mark). IsRun c.args.number c.run_of-run.result.count l) left c.run_of-run.ensures.run in
    let size : c.run_of-run.result.size ≡ size_of (take c.run_of-run.result.count (drop c.self.inside.taken c.self.inside.marks.items)) = c.run_of-run.ensures.size ∙ ap (λ (l : List Mark). size_of (take c.run_of-run.result.count l)) left in
    run_left c.self.inside.from c.self.inside.taken c.args.number c.run_of-run.result.count c.run_of-run.result.size (string_bytes c.self.inside.texts) c.self.inside.marks.items c.self.invariant run size

pub returns-clause-taken : goal.returns-clause-taken
returns-clause-taken c =
    let left : take (length c.deref.result.now - c.self.inside.taken) (drop c.self.inside.taken c.deref.result.now) ≡ drop c.self.inside.taken c.self.inside.marks.items = take_rest c.deref.result.now c.self.inside.taken ∙ ap (λ (l : List Mark). drop c.self.inside.taken l) c.deref.ensures.value in
    let run : IsRun c.args.number c.run_of-run.result.count (drop c.self.inside.taken c.self.inside.marks.items) = subst (λ (l : List Mark). IsRun c.args.number c.run_of-run.result.count l) left c.run_of-run.ensures.run in
    let size : c.run_of-run.result.size ≡ size_of (take c.run_of-run.result.count (drop c.self.inside.taken c.self.inside.marks.items)) = c.run_of-run.ensures.size ∙ ap (λ (l : List Mark). size_of (take c.run_of-run.result.count l)) left in
    let more : c.self.inside.taken + c.run_of-run.result.count - c.self.inside.taken ≡ c.run_of-run.result.count = omega arith in
    let bytes : c.self.inside.from + c.run_of-run.result.size - c.self.inside.from ≡ c.run_of-run.result.size = omega arith in
    subst (λ (l : List PrintedAnswer). AreTakenOut c.run_of-run.result.count c.args.number l (marked (drop (c.self.inside.taken + c.run_of-run.result.count) c.self.inside.marks.items) (drop (c.self.inside.from + c.run_of-run.result.size) (string_bytes c.self.inside.texts))) c.args.lines.now record { text = c.extend_from_slice.new.self; shown = c.push_shown.new.shown }) c.self.view_is
    (run_out c.self.inside.from c.self.inside.taken c.args.number c.run_of-run.result.count c.run_of-run.result.size (string_bytes c.self.inside.texts) c.self.inside.marks.items c.self.invariant run size c.args.lines.now record { text = c.extend_from_slice.new.self; shown = c.push_shown.new.shown }
    (c.in_ok-extend_from_slice.ensures.items ∙ (λ j. c.args.lines.now.text.items ++ take (bytes j) (drop c.self.inside.from (c.as_bytes.ensures.value j))))
    (c.in_ok-push_shown.ensures ∙ (λ j. c.args.lines.now.shown.items ++ map shown_by_mark (take (more j) (drop c.self.inside.taken (c.deref-2.ensures.value j))))))
