-- What a caller cites.
pub use Rattle.decision.proofs.NamedRowLemmas.{OrdersMove, judged_row, row_of}
pub use Rattle.decision.proofs.SuitLemmas.{suits_columns}
