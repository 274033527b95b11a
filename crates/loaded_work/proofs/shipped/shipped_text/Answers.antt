use Rattle.std.proofs.Common.{ap, ◌∙◌}
use Rattle.std.specs.Prelude.{map}
use Rattle.std.proofs.lemmas.Result.{IfOk-weaker}
use Rattle.perm_base.specs.declared.shapes.Shapes.{Shapes}
use Rattle.policy_state.specs.States.{tables}
use Rattle.policy_table.specs.Tables.{Policy}
use Rattle.script_read.specs.Said.{seen}
use Rattle.loaded_work.specs.Shipped.{ship_text}
use Rattle.loaded_work.proofs.shipped.shipped_text.Goals as goal

pub returns-clause-shown : goal.returns-clause-shown
returns-clause-shown g c =
    let is = c.in_ok-program.ensures in
    IfOk-weaker c.text_behind.result _ _ (λ text shown. shown ∙ ap (λ (s : Shapes). ship_text s (tables c.in_ok-program.field-0.state) (map seen c.args.script.now)) is.shapes_are ∙ ap (λ (p : Policy). ship_text c.args.loaded.shapes p (map seen c.args.script.now)) is.policy_is) c.text_behind.ensures.shown
