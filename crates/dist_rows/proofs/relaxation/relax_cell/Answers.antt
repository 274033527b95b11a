use Rattle.std.proofs.Common.{get_or, length, length-set, refl, ap, ◌∙◌}
use Rattle.dist_rows.proofs.RelaxLemmas.{relax_one, rows_written}
use Rattle.dist_rows.specs.Helps.Rows.{RowSeen}
use Rattle.dist_rows.proofs.relaxation.relax_cell.Goals as goal

pub returns-clause-square : goal.returns-clause-square
returns-clause-square c =
    rows_written _ c.args.rows.now c.args.a c.lower.new.self c.index-rows-a.result c.requires.square c.requires.a
    (ap (λ (r : RowSeen). length r.cells) c.lower.ensures ∙ length-set (get_or c.args.rows.now c.args.a c.index-rows-a.result).cells c.args.at _)

pub returns-clause-relaxed : goal.returns-clause-relaxed
returns-clause-relaxed c = λ old are first is.
    relax_one c.args.at c.args.a c.args.add c.args.v old c.args.rows.now _ c.lower.new.self c.index-rows-a.result c.index-rows-v.result c.cell-other.result are c.requires.square first c.requires.v c.requires.at is c.cell-other.ensures c.lower.ensures refl
