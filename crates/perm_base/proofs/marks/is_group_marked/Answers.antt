use Rattle.std.proofs.Common.{◌||◌, Bool, sym, ap, ◌∙◌}
use Rattle.std.specs.Simd.Lanes.{chunk}
use Rattle.text_parts.specs.Lines.{has_byte}
use Rattle.perm_base.proofs.PlainLemmas.{either_mark, or_left}
use Rattle.perm_base.proofs.marks.is_group_marked.Goals as goal

pub returns-then-group_has : goal.returns-then-group_has
returns-then-group_has g c =
    let group = chunk c.args.at g.row.N c.args.bytes.now in
    c.if-group_has.true ∙ sym (either_mark group ∙ or_left (has_byte 44 group) (has_byte 34 group) (sym c.group_has.ensures ∙ c.if-group_has.true))

pub returns-else-group_has : goal.returns-else-group_has
returns-else-group_has g c =
    let group = chunk c.args.at g.row.N c.args.bytes.now in
    c.group_has-else-group_has.ensures ∙ sym (either_mark group ∙ ap (λ (b : Bool). b || has_byte 34 group) (sym c.group_has.ensures ∙ c.if-group_has.false))
