-- What a caller cites.
pub use Rattle.live_meaning.proofs.EventLemmas.{notes_both, notes_later, seats_both, versions_both}
pub use Rattle.live_meaning.proofs.CutLemmas.{cut_kept, cut_later, cut_none, cut_published, cut_rises, cut_whole}
pub use Rattle.live_meaning.proofs.LawLemmas.{entered_cut, following_entries, legal_entry, rising_entries, whole_entry}
