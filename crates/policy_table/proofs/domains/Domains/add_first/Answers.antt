use Rattle.std.proofs.Common.{◌+◌, ◌<◌, ◌^◌, ap, refl, ◌∙◌, subst, sym}
use Rattle.policy_table.specs.Helps.Domains.{AreCounted, Counted, count_of, pattern_count}
use Rattle.policy_table.proofs.DomainLemmas.{added, entries_stay, on_err}
use Rattle.policy_table.proofs.domains.Domains.add_first.Goals as goal

pub with-patterns-requires : goal.with-patterns-requires
with-patterns-requires c = λ fit. subst (λ (d : Counted). pattern_count d.patterns fit + 1 < 2 ^ 64) (sym c.self.view_is) (c.requires.few.patterns fit)

pub returns-in_err-_none-clause-refused : goal.returns-in_err-_none-clause-refused
returns-in_err-_none-clause-refused c = on_err c.from_residual.result _ (λ texts are. entries_stay texts _ _ (subst (AreCounted texts) (sym c.self.view_is) are) c.in_err-_none.ensures.err refl)

pub returns-clause-counted : goal.returns-clause-counted
returns-clause-counted c =
    λ texts are. added texts c.args.domain 1 _ _ (subst (AreCounted texts) (sym c.self.view_is) are)
    (ap (λ n. n + 1) (sym c.requires.new ∙ ap (λ (d : Counted). count_of d c.args.domain) (sym c.self.view_is))) c.in_ok-_none.ensures.updates.0 c.bytes.result.now c.bytes.ensures.value c.with-patterns.ensures
