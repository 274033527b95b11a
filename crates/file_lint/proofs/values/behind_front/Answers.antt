use Rattle.std.proofs.Common.{◌+◌, ap, ◌∙◌}
use Rattle.text_parts.specs.Numbered.{line, numbered, text_lines}
use Rattle.file_lint.specs.Places.{place_in}
use Rattle.file_lint.proofs.values.behind_front.Goals as goal

pub returns : goal.returns
returns c =
    c.place_in.ensures
    ∙ ap (λ n. place_in (line c.args.number c.args.text.now) (numbered (c.args.number + 1) (text_lines c.args.rest.now)) (n + c.args.before)) c.behind_blanks_at-front.ensures.value
