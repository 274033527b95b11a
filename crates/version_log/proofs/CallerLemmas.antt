-- What a caller cites of logs, of edits in two parts, and of the texts of edits.
pub use Rattle.version_log.proofs.LogLemmas.{replay_both, stands_from, stands_more}
pub use Rattle.version_log.proofs.ReadLemmas.{edit_once, no_edit, one_fault}
