-- What a caller cites of edits that are admitted one after the other, of tables that grow by them, and of what a policy stands for.
pub use Rattle.policy_state.proofs.AdmittedLemmas.{admitted_both, admitted_front, admitted_rest}
pub use Rattle.policy_state.proofs.GrownLemmas.{grown_more, grown_new, grown_same}
pub use Rattle.policy_state.proofs.LogLemmas.{log_stands_same, stands_after, stands_same, version_stands}
pub use Rattle.policy_state.proofs.NamedLemmas.{has_stood, named_at, named_edits, named_grown}
