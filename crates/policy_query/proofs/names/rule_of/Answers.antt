use Rattle.std.proofs.Common.{ap, arith, length, ◌∙◌}
use Rattle.std.specs.List.{list_any}
use Rattle.std.proofs.lemmas.List.{length-map, take_all}
use Rattle.perm_base.specs.LineEnds.{has_line_end}
use Rattle.policy_query.proofs.NameLemmas.{shown}
use Rattle.policy_query.proofs.names.rule_of.Goals as goal

pub from_vec-requires : goal.from_vec-requires
from_vec-requires c =
    let all = c.loop-name.invariant ∙ ap shown (take_all c.loop-name.name-index c.args.names.now c.loop-name-test.false) in
    record {
      few = omega (arith, ap length all, length-map c.args.names.now (λ name. name.now), c.requires.few);
      whole_lines = ap (list_any has_line_end) all ∙ c.requires.whole_lines;
    }
