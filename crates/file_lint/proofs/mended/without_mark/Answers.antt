use Rattle.std.proofs.Common.{sym, ◌∙◌}
use Rattle.file_lint.proofs.CutLemmas.{mark_boundary}
use Rattle.file_lint.proofs.mended.without_mark.Goals as goal

pub range_from-requires : goal.range_from-requires
range_from-requires c = λ some. mark_boundary c.args.line.now c.utf8.line (sym c.has_order_mark.ensures ∙ c.if-not-has_order_mark.false)
