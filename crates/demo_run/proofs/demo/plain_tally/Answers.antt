use Rattle.std.proofs.Common.{List, ℕ, map, subst}
use Rattle.std.specs.Prelude.{false}
use Rattle.policy_state.specs.States.{tables}
use Rattle.script_read.specs.Said.{seen}
use Rattle.script_read.specs.Script.{IsScript}
use Rattle.demo_run.proofs.DemoLemmas.{tally_plain}
use Rattle.demo_run.proofs.demo.plain_tally.Goals as goal

pub returns-clause-plain : goal.returns-clause-plain
returns-clause-plain g c =
    let says = subst (λ (text : List ℕ). IsScript false text (map seen c.in-Ok.items)) c.as_bytes.ensures.value c.in-Ok.ensures.found in
    let is = c.in_ok-lines.ensures.plain in
    tally_plain c.args.program.now c.args.desk.state.shapes (tables c.args.desk.state) c.args.script.now (map seen c.in-Ok.items) is.refused c.in_ok-lines.lines c.none-tally.result c.count_lines.new.tally says is.plain c.none-tally.ensures.items c.none-tally.ensures.counts (rw c.as_slice.ensures at c.in_ok-count_lines.ensures)
