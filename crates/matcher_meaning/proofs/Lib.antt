pub mod CallerLemmas
mod CallLemmas
mod RefusalLemmas
mod StepLemmas
mod PatternLemmas
mod CaseCallLemmas
mod ComesLemmas
mod CaseRefusalLemmas
mod CasePatternLemmas
mod VerdictLemmas
mod PlainLemmas
mod VerdictRefusalLemmas
mod OrderLemmas
mod WorkedLemmas
mod PlaceLemmas
mod JudgedLemmas
mod WorkedOrder
