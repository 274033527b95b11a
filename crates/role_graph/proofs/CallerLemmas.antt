-- What a caller cites.
pub use Rattle.role_graph.proofs.CountLemmas.{Parted, as_long, parted, reaches_as_often, same_itself, stands_from_times, times_both, times_filter, times_first, times_from_stands}
pub use Rattle.role_graph.proofs.EditLemmas.{once, pair_is, times_more}
pub use Rattle.role_graph.proofs.PrepareLemmas.{still_prepared}
pub use Rattle.role_graph.proofs.Keyed.{found_other, found_there, seen_after, seen_at, text_there}
pub use Rattle.role_graph.proofs.PutLemmas.{same_text, text_itself}
