use Rattle.std.proofs.Common.{◌≡◌, ◌++◌, ◌∷◌, [], arith, rules, subst, sym}
use Rattle.policy_state.proofs.DraftLemmas.{Prepares, prepares_more}
use Rattle.policy_state.proofs.SectionLemmas.{taking_each, taking_next, taking_set, taking_within}
use Rattle.policy_state.proofs.sections.Sections.prepare.Goals as goal

pub prepare-requires-clause-section : goal.prepare-requires-clause-section
prepare-requires-clause-section c =
    (taking_next c.args.edits.now c.args.tables.now.policy c.args.self.now c.loop-at.self-inside.sections.items c.loop-at.at c.index_mut.result.now
    (taking_within c.args.edits.now c.args.tables.now.policy c.self.inside.sections.items c.args.self.now c.loop-at.self-inside.sections.items c.loop-at.at c.self.view_is c.loop-at.invariant.taking (omega arith))
    (sym c.index_mut.ensures.value) c.loop-at.invariant.taking).section_of

pub returns-in_err-prepare-clause-kept : goal.returns-in_err-prepare-clause-kept
returns-in_err-prepare-clause-kept c =
    (taking_set c.args.edits.now c.args.tables.now.policy c.args.self.now c.loop-at.self-inside.sections.items c.loop-at.at c.index_mut.result.now c.prepare.new.self
    (taking_within c.args.edits.now c.args.tables.now.policy c.self.inside.sections.items c.args.self.now c.loop-at.self-inside.sections.items c.loop-at.at c.self.view_is c.loop-at.invariant.taking (omega arith))
    (sym c.index_mut.ensures.value) c.in_err-prepare.ensures.shape c.in_err-prepare.ensures.limit c.in_err-prepare.ensures.stays c.loop-at.invariant.taking).kept

pub returns-in_err-prepare-clause-each : goal.returns-in_err-prepare-clause-each
returns-in_err-prepare-clause-each c =
    taking_each c.args.edits.now c.args.tables.now.policy c.args.self.now _
    (taking_set c.args.edits.now c.args.tables.now.policy c.args.self.now c.loop-at.self-inside.sections.items c.loop-at.at c.index_mut.result.now c.prepare.new.self
    (taking_within c.args.edits.now c.args.tables.now.policy c.self.inside.sections.items c.args.self.now c.loop-at.self-inside.sections.items c.loop-at.at c.self.view_is c.loop-at.invariant.taking (omega arith))
    (sym c.index_mut.ensures.value) c.in_err-prepare.ensures.shape c.in_err-prepare.ensures.limit c.in_err-prepare.ensures.stays c.loop-at.invariant.taking)

pub returns-in_err-push-clause-kept : goal.returns-in_err-push-clause-kept
returns-in_err-push-clause-kept c =
    (taking_set c.args.edits.now c.args.tables.now.policy c.args.self.now c.loop-at.self-inside.sections.items c.loop-at.at c.index_mut.result.now c.prepare.new.self
    (taking_within c.args.edits.now c.args.tables.now.policy c.self.inside.sections.items c.args.self.now c.loop-at.self-inside.sections.items c.loop-at.at c.self.view_is c.loop-at.invariant.taking (omega arith))
    (sym c.index_mut.ensures.value) c.in_ok-prepare.ensures.shape c.in_ok-prepare.ensures.limit c.in_ok-prepare.ensures.stays c.loop-at.invariant.taking).kept

pub returns-in_err-push-clause-each : goal.returns-in_err-push-clause-each
returns-in_err-push-clause-each c =
    taking_each c.args.edits.now c.args.tables.now.policy c.args.self.now _
    (taking_set c.args.edits.now c.args.tables.now.policy c.args.self.now c.loop-at.self-inside.sections.items c.loop-at.at c.index_mut.result.now c.prepare.new.self
    (taking_within c.args.edits.now c.args.tables.now.policy c.self.inside.sections.items c.args.self.now c.loop-at.self-inside.sections.items c.loop-at.at c.self.view_is c.loop-at.invariant.taking (omega arith))
    (sym c.index_mut.ensures.value) c.in_ok-prepare.ensures.shape c.in_ok-prepare.ensures.limit c.in_ok-prepare.ensures.stays c.loop-at.invariant.taking)

pub loop-at-preserved : goal.loop-at-preserved
loop-at-preserved c =
    let drafts : c.push.new.self.items ≡ c.loop-at.prepared.items ++ c.in_ok-prepare.field-0 ∷ [] = search rules in
    subst (Prepares c.args.edits.now c.args.tables.now.policy c.args.self.now _ _) (sym drafts)
    (prepares_more c.args.edits.now c.args.tables.now.policy c.args.self.now c.loop-at.self-inside.sections.items c.loop-at.at c.loop-at.prepared.items c.index_mut.result.now c.prepare.new.self c.in_ok-prepare.field-0
    (taking_within c.args.edits.now c.args.tables.now.policy c.self.inside.sections.items c.args.self.now c.loop-at.self-inside.sections.items c.loop-at.at c.self.view_is c.loop-at.invariant.taking (omega arith))
    (sym c.index_mut.ensures.value) c.loop-at.invariant c.in_ok-prepare.ensures.shape c.in_ok-prepare.ensures.limit c.in_ok-prepare.ensures.stays c.in_ok-prepare.ensures.ready)
