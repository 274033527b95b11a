-- What a caller cites.
pub use Rattle.dist_rows.proofs.CellLemmas.{cleared_column, cleared_other, cleared_own, dropped_moved, length_row, place_before, relaxed_other, relaxed_own, widened_column, widened_old, widened_own, widened_row, with_cell_column, with_cell_own, with_cell_row}
