-- What the steps of a reader see and give, and how expressions are told apart: helps for proofs, which no public clause cites.
pub mod Steps
pub mod Seen
pub mod Outlines
pub mod Misuses
pub mod MatcherStops
pub mod RuleTexts
pub mod ExpressionCode
