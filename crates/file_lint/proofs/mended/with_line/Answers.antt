use Rattle.std.proofs.Common.{◌≡◌, ◌+◌, ◌++◌, ◌∷◌, [], ap, sym, ◌∙◌, append-nil, arith, rules}
use Rattle.std.specs.Prelude.{string_bytes}
use Rattle.text_parts.specs.Lines.{with_ends}
use Rattle.text_parts.specs.Numbered.{line, numbered, text_lines}
use Rattle.file_lint.specs.Mended.{piece, replaced}
use Rattle.file_lint.proofs.MendLemmas.{replaced_next, replaced_none}
use Rattle.file_lint.proofs.PlaceLemmas.{numbered_first, numbered_none}
use Rattle.file_lint.proofs.mended.with_line.Goals as goal

pub loop-line-preserved : goal.loop-line-preserved
loop-line-preserved c =
    let by = c.args.by.now in
    let next = line c.loop-line.number c.in-Some.line.now in
    let others = numbered (c.loop-line.number + 1) (text_lines c.in-Some.after.now) in
    let whole = ap (λ l. string_bytes c.loop-line.made ++ with_ends (replaced c.args.extent c.args.at by c.loop-line.reach l)) (sym (numbered_first c.loop-line.number c.loop-line.rest.now c.in-Some.line.now c.in-Some.after.now c.in-Some.ensures.first)) ∙ c.loop-line.invariant.left in
    record {
      left = rw c.reach_behind-next.ensures (rw c.in_ok-push_str.ensures.bytes (rw c.in_ok-push_piece.ensures (rw c.reach_behind-next.ensures (replaced_next c.args.extent c.args.at by c.loop-line.reach next others (string_bytes c.loop-line.made) _ whole))));
      within = omega (arith, c.in-Some.ensures.shorter, c.loop-line.invariant.within);
      utf8 = search rules;
    }

pub returns : goal.returns
returns c =
    let by = c.args.by.now in
    sym (append-nil (string_bytes c.loop-line.made))
    ∙ ap (λ l. string_bytes c.loop-line.made ++ l) (sym (ap (λ l. with_ends (replaced c.args.extent c.args.at by c.loop-line.reach l)) (numbered_none c.loop-line.number c.loop-line.rest.now c.in_default.ensures.none) ∙ replaced_none c.args.extent c.args.at by c.loop-line.reach))
    ∙ c.loop-line.invariant.left
