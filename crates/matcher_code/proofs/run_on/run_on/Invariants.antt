use Rattle.std.proofs.Common.{◌≡◌, ◌-◌, ◌≤◌, map, length}
use Rattle.model_conf.specs.ModelText.{ModelParts}
use Rattle.perm_value.specs.Seen.{datum_of_view}
use Rattle.matcher_code.specs.Helps.Ends.{case_for}
use Rattle.matcher_code.specs.Helps.Runs.{IsAt, LeadsOn}
use Rattle.matcher_code.proofs.run_on.run_on.Given as goal

abbrev pub invariant-loop-reached : goal.invariant-loop-reached
invariant-loop-reached g l = record {
  leads : (model : ModelParts) → LeadsOn (case_for model l.fn.asked (g.K.Links.shapes l.links) (g.K.Links.policy l.links)) l.code.ops l.fn.place (map datum_of_view l.initial.stack) l.reached (map datum_of_view l.stack);
  behind : l.fn.place ≤ l.reached;
  at : IsAt l.code.ops l.reached (length l.stack);
  none : g.P.Finder.refusals l.finder ≡ g.P.Finder.refusals l.initial.finder;
}

abbrev pub decreases-loop-reached : goal.decreases-loop-reached
decreases-loop-reached g l = length l.code.ops - l.reached
