-- What a caller cites.
pub use Rattle.key_match.proofs.Decided.{Decided, decided_and, decided_by, decided_false, decided_or, decided_true, same_text}
-- that a key which fits begins with the front of its pattern
pub use Rattle.key_match.proofs.FrontLemmas.{alike_begins, brace_begins, colon_begins, cut_begins, glob_begins, star_begins}
