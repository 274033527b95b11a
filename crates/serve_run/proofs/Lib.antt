pub mod WordLemmas
pub mod ServeLemmas
pub mod OpenLemmas
