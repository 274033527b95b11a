use Rattle.std.proofs.Common.{◌≡◌, arith, ap, subst, ◌∙◌, List, ℕ}
use Rattle.std.proofs.lemmas.List.{take_all}
use Rattle.std.specs.Str.{bytes_eq}
use Rattle.indexmap.specs.IndexMap.{insert_entry}
use Rattle.policy_table.specs.Helps.Domains.{Counted}
use Rattle.policy_table.proofs.DomainLemmas.{entries_stay, entry_copied}
use Rattle.policy_table.proofs.domains.Domains.copy.Goals as goal

pub loop-at-preserved : goal.loop-at-preserved
loop-at-preserved c =
    let entries = c.args.self.now.entries in
    let key = c.entry-count.result.0.now in
    let value = c.entry-count.result.1 in
    entry_copied entries c.loop-at.counts.entries c.insert.new.self.entries c.loop-at.at key value c.len-len.ensures.once (omega (arith, c.loop-at-test.true, c.len-len.ensures.value)) c.entry-count.ensures c.loop-at.invariant
    (subst (λ (k : List ℕ). c.insert.new.self.entries ≡ insert_entry bytes_eq c.loop-at.counts.entries k value) (c.in_ok-domain.ensures ∙ c.as_str.ensures) c.in_ok-_before.ensures.entries)

pub returns : goal.returns
returns c =
    λ texts are. entries_stay texts c.args.self.now _ are (c.loop-at.invariant ∙ take_all c.loop-at.at c.args.self.now.entries (omega (arith, c.loop-at-test.false, c.len-len.ensures.value)))
    (ap (λ (d : Counted). d.patterns) c.self.view_is)
