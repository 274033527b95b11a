use Rattle.std.proofs.Common.{get_or, length, refl, ap, ◌∙◌}
use Rattle.std.proofs.lemmas.Simd.{length-put_chunk}
use Rattle.dist_rows.proofs.RelaxLemmas.{relax_step, rows_written}
use Rattle.dist_rows.specs.Helps.Rows.{RowSeen}
use Rattle.dist_rows.proofs.relaxation.relax_group.Goals as goal

pub returns-clause-square : goal.returns-clause-square
returns-clause-square c =
    rows_written _ c.args.rows.now c.args.a c.lower_lanes.new.self c.index-rows-a.result c.requires.square c.requires.a
    (ap (λ (r : RowSeen). length r.cells) c.lower_lanes.ensures ∙ length-put_chunk c.args.at (get_or c.args.rows.now c.args.a c.index-rows-a.result).cells _)

pub returns-clause-relaxed : goal.returns-clause-relaxed
returns-clause-relaxed c = λ old are first is.
    relax_step 32 c.args.at c.args.a c.args.add c.args.v old c.args.rows.now _ c.lower_lanes.new.self c.index-rows-a.result c.index-rows-v.result c.lanes-others.result are first c.requires.v c.requires.at is c.lanes-others.ensures c.lower_lanes.ensures refl
