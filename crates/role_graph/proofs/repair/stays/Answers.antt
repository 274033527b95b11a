use Rattle.std.proofs.Common.{◌∙◌, arith, eq-eqb, eqb-true, sym, true≢false}
use Rattle.std.proofs.lemmas.Bool.{false≢true}
use Rattle.role_graph.proofs.Mended.{far_gone, kept_zero}
use Rattle.role_graph.proofs.repair.stays.Goals as goal

pub returns-then-far-ne1-clause-kept : goal.returns-then-far-ne1-clause-kept
returns-then-far-ne1-clause-kept c = λ linked names old holds same long closed left.
    kept_zero linked names old c.args.node c.args.other c.distance-far.result closed (omega (arith, c.requires.node, long)) (omega (arith, c.requires.other, long)) (c.distance-far.ensures.cell ∙ same) (eqb-true c.distance-far.result 0 holds)

pub returns-then-far-ne1-clause-gone : goal.returns-then-far-ne1-clause-gone
returns-then-far-ne1-clause-gone c = λ linked names old fails same long closed left.
    far_gone linked names old c.args.node c.args.other c.distance-far.result (c.distance-far.ensures.cell ∙ same) c.if-far-ne1.true (λ none. true≢false (sym (eq-eqb c.distance-far.result 0 none) ∙ fails))

pub returns-clause-kept : goal.returns-clause-kept
returns-clause-kept c = λ linked names old holds same long closed left. (left c.args.other (omega (arith, c.requires.other, long)) (sym (c.distance-far.ensures.cell ∙ same) ∙ c.if-far-ne1.false)).0 holds

pub returns-clause-gone : goal.returns-clause-gone
returns-clause-gone c = λ linked names old fails same long closed left kept.
    false≢true (sym fails ∙ (left c.args.other (omega (arith, c.requires.other, long)) (sym (c.distance-far.ensures.cell ∙ same) ∙ c.if-far-ne1.false)).1 kept)
