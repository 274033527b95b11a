pub mod LintLemmas
pub mod StopLemmas
