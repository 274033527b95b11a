-- What a caller cites.
pub use Rattle.live_seat.proofs.CacheLemmas.{serves_asked, serves_empty, serves_longer}
pub use Rattle.live_seat.proofs.DecidedLemmas.{at_front}
pub use Rattle.live_seat.proofs.OpeningLemmas.{suits_plain}
