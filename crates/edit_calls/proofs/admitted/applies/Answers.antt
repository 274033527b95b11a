use Rattle.std.proofs.Common.{rules, arith, refl, ◌∙◌, ap}
use Rattle.std.proofs.lemmas.Option.{slice_get_read}
use Rattle.policy_table.specs.Changes.{applies}
use Rattle.edit_calls.proofs.StandingLemmas.{alone_applies}
use Rattle.edit_calls.proofs.admitted.applies.Goals as goal

pub returns-then-changes-eq1 : goal.returns-then-changes-eq1
returns-then-changes-eq1 c =
    let here = slice_get_read c.as_slice-changes.result.now _ 0 c.index-changes-0.result refl (search (rules, arith)) c.index-changes-0.is in
    c.allows.ensures ∙ alone_applies _ _ c.args.tables.now.policy (search rules) here ∙ ap (λ l. applies l c.args.tables.now.policy) c.as_slice-changes.ensures
