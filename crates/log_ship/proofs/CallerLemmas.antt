-- What callers cite of packets that are taken and of their texts.
pub use Rattle.log_ship.proofs.AppendLemmas.{more_tables, more_versions, same_itself, same_stands, same_tables, same_version}
pub use Rattle.log_ship.proofs.PartLemmas.{packets_once}
pub use Rattle.log_ship.proofs.TakeLemmas.{reading_once}
