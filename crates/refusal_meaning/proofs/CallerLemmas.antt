-- What a caller's proof cites of lists of patterns that cannot be read.
pub use Rattle.refusal_meaning.proofs.UnreadLemmas.{unread_left, unread_right}
