-- What proofs need, and no public clause cites.
pub mod EqualityLaws
pub mod Texts
