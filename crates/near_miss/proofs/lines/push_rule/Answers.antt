use Rattle.std.proofs.Common.{◌≡◌, ◌-◌, ◌++◌, List, [], None, get_or, slice_get, string_bytes, append-nil, ap, arith, sym, ◌∙◌}
use Rattle.std.specs.Prelude.{unwrap_or}
use Rattle.std.specs.Option.{option_copied}
use Rattle.std.proofs.lemmas.Option.{unwrap_or-slice_get}
use Rattle.perm_base.specs.FieldLine.{printed}
use Rattle.perm_base.specs.declared.shapes.TableId.TheVariants.{P}
use Rattle.policy_table.specs.Tables.{Fields, rows}
use Rattle.near_miss.proofs.lines.push_rule.Goals as goal

pub returns-in-None : goal.returns-in-None
returns-in-None c =
    let rules = rows c.args.tables.now.policy P in
    let at = c.args.number - 1 in
    let place : c.saturating_sub.result ≡ at = omega arith in
    let none : slice_get rules at ≡ None = ap (slice_get rules) (sym place) ∙ sym c.get.ensures ∙ ap option_copied c.in-None.is in
    let empty : get_or rules at [] ≡ [] = sym (unwrap_or-slice_get rules at []) ∙ ap (λ o. unwrap_or o []) none in
    sym (append-nil (string_bytes c.args.text.now)) ∙ ap (λ (fields : Fields). string_bytes c.args.text.now ++ printed fields) (sym empty)
