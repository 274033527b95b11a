use Rattle.std.proofs.Common.{◌≡◌, ◌+◌, true, false, sym, ap, ◌∙◌, arith, rules}
use Rattle.text_parts.specs.Numbered.{Line, line, numbered, text_lines}
use Rattle.file_lint.specs.Places.{behind_blanks_at, place_in, value_in}
use Rattle.file_lint.proofs.PlaceLemmas.{numbered_first, numbered_none, value_in-here, value_in-last, value_in-next}
use Rattle.file_lint.proofs.values.value_in.Goals as goal

pub returns-then-not-is_blank_front : goal.returns-then-not-is_blank_front
returns-then-not-is_blank_front c =
    let at = c.loop-next.at in
    let text = c.loop-next.text.now in
    let cut = numbered_first (at + 1) c.loop-next.rest.now c.in-Some.next.now c.in-Some.after.now c.in-Some.ensures.first in
    let after = numbered (at + 1 + 1) (text_lines c.in-Some.after.now) in
    c.behind_front.ensures ∙ ap (λ l. place_in (line at text) l (behind_blanks_at c.loop-next.skipped text + c.args.before)) cut
    ∙ sym (value_in-here c.loop-next.skipped at text (line (at + 1) c.in-Some.next.now) after c.args.before (sym c.is_blank_front.ensures ∙ c.if-not-is_blank_front.true))
    ∙ ap (λ l. value_in c.loop-next.skipped (line at text) l c.args.before) (sym cut) ∙ c.loop-next.invariant.left

pub loop-next-preserved : goal.loop-next-preserved
loop-next-preserved c =
    let at = c.loop-next.at in
    let text = c.loop-next.text.now in
    let cut = numbered_first (at + 1) c.loop-next.rest.now c.in-Some.next.now c.in-Some.after.now c.in-Some.ensures.first in
    let after = numbered (at + 1 + 1) (text_lines c.in-Some.after.now) in
    record {
      left = sym (value_in-next c.loop-next.skipped at text (line (at + 1) c.in-Some.next.now) after c.args.before (sym c.is_blank_front.ensures ∙ c.if-not-is_blank_front.false))
          ∙ ap (λ l. value_in c.loop-next.skipped (line at text) l c.args.before) (sym cut) ∙ c.loop-next.invariant.left;
      within = omega (arith, c.in-Some.ensures.shorter, c.loop-next.invariant.within);
      skipped = omega arith;
      utf8 = search rules;
      text_utf8 = search rules;
    }

pub returns : goal.returns
returns c =
    let at = c.loop-next.at in
    let text = c.loop-next.text.now in
    let none = numbered_none (at + 1) c.loop-next.rest.now c.in_default.ensures.none in
    c.behind_front-2.ensures ∙ ap (λ l. place_in (line at text) l (behind_blanks_at c.loop-next.skipped text + c.args.before)) none ∙ sym (value_in-last c.loop-next.skipped at text c.args.before)
    ∙ ap (λ l. value_in c.loop-next.skipped (line at text) l c.args.before) (sym none) ∙ c.loop-next.invariant.left
