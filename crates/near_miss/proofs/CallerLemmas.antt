-- What callers cite.
pub use Rattle.near_miss.proofs.OneLemmas.{misses_for_more}
