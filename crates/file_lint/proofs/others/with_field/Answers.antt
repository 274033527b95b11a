use Rattle.std.proofs.Common.{◌≡◌, List, ℕ, false, length, sym, ap, ◌∙◌, arith}
use Rattle.std.proofs.lemmas.List.{set_past}
use Rattle.perm_base.specs.LineEnds.{has_line_end}
use Rattle.file_lint.proofs.OtherLemmas.{fields_with}
use Rattle.file_lint.proofs.others.with_field.Goals as goal

pub returns-then-at-len : goal.returns-then-at-len
returns-then-at-len c = c.in_ok-copy.ensures ∙ sym (set_past c.args.rule.now c.args.at c.args.text.now (omega (arith, c.len.ensures, ap (λ (l : List (List ℕ)). length l) c.in_ok-copy.ensures)))

pub from_vec-requires : goal.from_vec-requires
from_vec-requires c =
    let whole : has_line_end c.in_ok-field.field ≡ false = ap (λ (text : List ℕ). has_line_end text) c.in_ok-field.ensures ∙ c.requires in
    fields_with c.into_fields-fields.result.items c.args.at c.in_ok-field.field whole c.into_fields-fields.ensures.fields
