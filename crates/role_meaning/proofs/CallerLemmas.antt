-- What a caller cites.
pub use Rattle.key_match.proofs.CallerLemmas.{Decided}
pub use Rattle.role_meaning.proofs.Decided.{told}
pub use Rattle.role_meaning.proofs.Rows.{map_cases, map_stands, stands_behind, stands_cases, stands_here, stands_nowhere}
pub use Rattle.role_meaning.proofs.Reach.{far_tells, least_unique, link_weaker, reaches_among, reaches_itself, reaches_last, reaches_more, reaches_on}
pub use Rattle.role_meaning.proofs.Order.{all_standing, implied_unique, one_list, pairs_head, pairs_map, pairs_tail}
pub use Rattle.role_meaning.proofs.PlainNames.{plain_fits}
pub use Rattle.role_meaning.proofs.Tried.{they_agree, they_differ}
