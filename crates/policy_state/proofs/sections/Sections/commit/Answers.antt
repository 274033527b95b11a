use Rattle.std.proofs.Common.{◌≡◌, [], ◌∷◌, List, arith, rules, subst, sym}
use Rattle.std.proofs.lemmas.List.{nil_from_length}
use Rattle.policy_state.proofs.DraftLemmas.{Commits, commits_all, commits_more}
use Rattle.role_domain.specs.Sections.{Draft}
use Rattle.policy_state.proofs.sections.Sections.commit.Goals as goal

pub loop-ready-preserved : goal.loop-ready-preserved
loop-ready-preserved c =
    let more : c.loop-ready.ready-iterator.rest.items ≡ c.in-Some.ready ∷ c.next.new.self.rest.items = search rules in
    commits_more c.args.self.now c.args.prepared.items c.loop-ready.self-inside.sections.items c.loop-ready.at c.index_mut.result.now c.commit.new.self c.in-Some.ready c.next.new.self.rest.items
    (sym c.index_mut.ensures.value) c.commit.ensures.shape c.commit.ensures.limit c.commit.ensures.section
    (subst (λ (l : List Draft). Commits c.args.self.now c.args.prepared.items c.loop-ready.self-inside.sections.items c.loop-ready.at l) more c.loop-ready.invariant)

pub returns-clause-each : goal.returns-clause-each
returns-clause-each c = λ after can.
    let rest : c.loop-ready.ready-iterator.rest.items ≡ [] = nil_from_length c.loop-ready.ready-iterator.rest.items (search (rules, arith)) in
    commits_all c.args.self.now c.args.prepared.items c.loop-ready.self-inside.sections.items c.loop-ready.at after
    (subst (λ (l : List Draft). Commits c.args.self.now c.args.prepared.items c.loop-ready.self-inside.sections.items c.loop-ready.at l) rest c.loop-ready.invariant) can
