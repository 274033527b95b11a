-- What callers cite.
pub use Rattle.edit_calls.proofs.FrontLemmas.{all_admitted, back_admitted, front_admitted, front_ends, one_more, replay_both, replay_more}
pub use Rattle.edit_calls.proofs.ResolveLemmas.{has_place}
pub use Rattle.edit_calls.proofs.KnownLemmas.{filter_through, places_have}
