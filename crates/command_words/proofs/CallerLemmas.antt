-- What callers cite.
pub use Rattle.command_words.proofs.RangeLemmas.{CacheHas, HasRanges, command_of-ranges}
