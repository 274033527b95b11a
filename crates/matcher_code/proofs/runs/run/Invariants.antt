use Rattle.std.proofs.Common.{◌≡◌, ◌-◌, [], map, length, option_copied}
use Rattle.perm_value.specs.Seen.{datum, datum_of_view}
use Rattle.matcher_code.specs.RunEnds.{case_of}
use Rattle.matcher_code.specs.Helps.Runs.{IsAt, LeadsOn}
use Rattle.matcher_code.proofs.runs.run.Given as goal

abbrev pub invariant-loop-pause : goal.invariant-loop-pause
invariant-loop-pause g l = record {
  leads : LeadsOn (case_of l.model (map datum l.request) (option_copied l.fn.row) (g.K.Links.shapes l.links) (g.K.Links.policy l.links)) l.code.ops 0 [] l.place (map datum_of_view l.stack);
  at : IsAt l.code.ops l.place (length l.stack);
  none : g.P.Finder.refusals l.finder ≡ g.P.Finder.refusals l.initial.finder;
}

abbrev pub decreases-loop-pause : goal.decreases-loop-pause
decreases-loop-pause g l = length l.code.ops - l.place
