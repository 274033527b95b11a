use Rattle.std.proofs.Common.{◌+◌, ap, ◌∙◌}
use Rattle.text_parts.specs.Numbered.{line, numbered, text_lines}
use Rattle.file_lint.specs.Places.{value_in, value_place}
use Rattle.file_lint.proofs.values.place_of_value.Goals as goal

pub returns-in-Some : goal.returns-in-Some
returns-in-Some c =
    c.value_in.ensures
    ∙ ap (λ offset. value_in offset (line c.in-Some.number c.in-Some.first.now) (numbered (c.in-Some.number + 1) (text_lines c.in-Some.behind.now)) c.args.before) c.value_offset.ensures.value
    ∙ ap (value_place c.args.before) c.in-Some.ensures.found

pub returns-in-None : goal.returns-in-None
returns-in-None c = ap (value_place c.args.before) c.in-None.ensures.found
