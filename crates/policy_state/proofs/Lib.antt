mod GrownLemmas
mod DraftLemmas
mod RoleLemmas
mod AdmittedLemmas
mod CopyLemmas
mod NamedLemmas
mod QueryLemmas
mod IndexLemmas
mod IndexStepLemmas
mod SectionLemmas
mod LogLemmas
mod StateLemmas
pub mod CallerLemmas
