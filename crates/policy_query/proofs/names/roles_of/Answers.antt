use Rattle.std.proofs.Common.{◌∙◌, ◌<◌, All, length, subst, sym}
use Rattle.std.specs.Option.{option_copied}
use Rattle.std.specs.Prelude.{is_some}
use Rattle.policy_table.specs.Tables.{Fields}
use Rattle.policy_query.specs.Names.{named_columns}
use Rattle.policy_query.proofs.ShapeLemmas.{names_within}
use Rattle.policy_query.proofs.names.roles_of.Goals as goal

pub names_beside-requires-clause-columns : goal.names_beside-requires-clause-columns
names_beside-requires-clause-columns c =
    subst (All (λ (rule : Fields). named_columns (is_some (option_copied c.args.domain)) < length rule)) (sym c.rows-rules.ensures.value)
    (names_within c.args.shapes.now c.args.tables.now.policy c.args.relation (option_copied c.args.domain) c.requires.shaped (sym c.names_refusal.ensures ∙ c.in_default.is))
