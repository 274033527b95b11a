-- What the crates above cite.
pub use Rattle.policy_csv.proofs.PutLemmas.{place_known}
pub use Rattle.policy_csv.proofs.LineFaultLemmas.{says_fault, says_rule}
