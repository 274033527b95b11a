use Rattle.std.proofs.Common.{List, ℕ, subst}
use Rattle.std.specs.Prelude.{false}
use Rattle.script_read.specs.Script.{IsScript}
use Rattle.demo_run.proofs.demo.demo_script.Goals as goal

pub returns-clause-checked : goal.returns-clause-checked
returns-clause-checked c =
    let found = c.in-Ok.ensures.found in
    (found.0, subst (λ (text : List ℕ). IsScript false text found.0) c.as_str.ensures.value found.1)
