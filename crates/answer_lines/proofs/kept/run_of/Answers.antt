use Rattle.std.proofs.Common.{◌≡◌, ◌≤◌, ◌+◌, Some, ap, arith, refl, slice_get, sym, ◌∙◌}
use Rattle.std.proofs.lemmas.Option.{slice_get_read}
use Rattle.answer_lines.proofs.MarkLemmas.{run_more, size_fits, size_more}
use Rattle.answer_lines.specs.Helps.Marked.{size_of}
use Rattle.answer_lines.proofs.kept.run_of.Goals as goal

pub overflow_add-size : goal.overflow_add-size
overflow_add-size c =
    let here : slice_get c.args.marks.now c.loop-mark.count ≡ Some c.in-Some.mark.now = slice_get_read c.args.marks.now _ c.loop-mark.count c.in-Some.mark.now refl c.in-Some.ensures.lookup.3.0 c.in-Some.ensures.lookup.1 in
    let within : c.loop-mark.size + c.in-Some.mark.now.size ≤ size_of c.args.marks.now = size_fits c.loop-mark.size c.loop-mark.count c.args.marks.now c.in-Some.mark.now here c.loop-mark.invariant.1 in
    omega (arith, within, c.requires)

pub loop-mark-preserved : goal.loop-mark-preserved
loop-mark-preserved c =
    let here : slice_get c.args.marks.now c.loop-mark.count ≡ Some c.in-Some.mark.now = slice_get_read c.args.marks.now _ c.loop-mark.count c.in-Some.mark.now refl c.in-Some.ensures.lookup.3.0 c.in-Some.ensures.lookup.1 in
    let next : c.in-Some.mark.now.number ≡ c.args.number + c.loop-mark.count = c.is_behind.ensures c.if-not-is_behind.false in (
      run_more c.args.number c.loop-mark.count c.args.marks.now c.in-Some.mark.now c.loop-mark.invariant.0 here next,
      ap (λ n. n + c.in-Some.mark.now.size) c.loop-mark.invariant.1 ∙ sym (size_more c.loop-mark.count c.args.marks.now c.in-Some.mark.now here),
      omega (arith, c.if-count-most.false),
      omega (arith, next),
    )
