use Rattle.std.proofs.Common.{◌+◌, sym, ap, ◌∙◌, arith, rules}
use Rattle.text_parts.specs.Numbered.{line, numbered, text_lines}
use Rattle.file_lint.specs.Places.{place_in}
use Rattle.file_lint.proofs.PlaceLemmas.{numbered_first, numbered_none, place_in-here, place_in-last, place_in-next}
use Rattle.file_lint.proofs.lines.place_in.Goals as goal

pub returns-then-not-goes_past : goal.returns-then-not-goes_past
returns-then-not-goes_past c =
    let at = c.loop-next.at in
    let text = c.loop-next.text.now in
    let after = numbered (at + 1 + 1) (text_lines c.in-Some.after.now) in
    c.place_behind.ensures ∙ sym (place_in-here at text (line (at + 1) c.in-Some.next.now) after c.loop-next.left (sym c.goes_past.ensures ∙ c.if-not-goes_past.true))
    ∙ ap (λ l. place_in (line at text) l c.loop-next.left) (sym (numbered_first (at + 1) c.loop-next.rest.now c.in-Some.next.now c.in-Some.after.now c.in-Some.ensures.first)) ∙ c.loop-next.invariant.left

pub loop-next-preserved : goal.loop-next-preserved
loop-next-preserved c =
    let at = c.loop-next.at in
    let text = c.loop-next.text.now in
    let after = numbered (at + 1 + 1) (text_lines c.in-Some.after.now) in
    record {
      left = ap (place_in (line (at + 1) c.in-Some.next.now) after) c.behind_line-left.ensures
          ∙ sym (place_in-next at text (line (at + 1) c.in-Some.next.now) after c.loop-next.left (sym c.goes_past.ensures ∙ c.if-not-goes_past.false))
          ∙ ap (λ l. place_in (line at text) l c.loop-next.left) (sym (numbered_first (at + 1) c.loop-next.rest.now c.in-Some.next.now c.in-Some.after.now c.in-Some.ensures.first)) ∙ c.loop-next.invariant.left;
      within = omega (arith, c.in-Some.ensures.shorter, c.loop-next.invariant.within);
      few = omega (arith, c.behind_line-left.ensures, c.loop-next.invariant.few);
      utf8 = search rules;
      text_utf8 = search rules;
    }

pub returns : goal.returns
returns c =
    let at = c.loop-next.at in
    let text = c.loop-next.text.now in
    c.place_behind-2.ensures ∙ sym (place_in-last at text c.loop-next.left) ∙ ap (λ l. place_in (line at text) l c.loop-next.left) (sym (numbered_none (at + 1) c.loop-next.rest.now c.in_default.ensures.none)) ∙ c.loop-next.invariant.left
