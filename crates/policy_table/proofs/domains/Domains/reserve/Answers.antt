use Rattle.std.proofs.Common.{refl, subst, sym}
use Rattle.policy_table.specs.Helps.Domains.{AreCounted}
use Rattle.policy_table.proofs.DomainLemmas.{entries_stay}
use Rattle.policy_table.proofs.domains.Domains.reserve.Goals as goal

pub returns-in_err-reserve-clause-counted : goal.returns-in_err-reserve-clause-counted
returns-in_err-reserve-clause-counted c = λ texts are. entries_stay texts _ _ (subst (AreCounted texts) (sym c.self.view_is) are) c.reserve.ensures.entries refl

pub returns-clause-counted : goal.returns-clause-counted
returns-clause-counted c = λ texts are. entries_stay texts _ _ (subst (AreCounted texts) (sym c.self.view_is) are) c.reserve.ensures.entries refl
