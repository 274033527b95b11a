use Rattle.std.proofs.Common.{◌≡◌, ℕ, Some, ap, subst, take}
use Rattle.script_read.proofs.ItemLemmas.{front_is}
use Rattle.script_read.specs.ItemLines.{ScriptLines, said}
use Rattle.script_read.proofs.said_lines.ItemLines.front.Goals as goal

pub returns : goal.returns
returns c =
    let old : ScriptLines = record { json = c.self.inside.json; number = c.self.inside.number; text = c.self.inside.text.now; most = c.self.inside.most } in
    let new : ScriptLines = record { json = c.self.inside.json; number = c.self.inside.number; text = c.self.inside.text.now; most = Some c.limited.result } in
    subst (λ (l : ScriptLines). said new ≡ take c.args.count (said l)) c.self.view_is (front_is old new c.args.count (ap (λ (k : ℕ). record old { most = Some k }) c.limited.ensures))
