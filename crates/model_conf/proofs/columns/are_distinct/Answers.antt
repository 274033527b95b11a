use Rattle.std.proofs.Common.{refl, sym, ◌∙◌}
use Rattle.std.proofs.lemmas.Bool.{false≢true}
use Rattle.model_conf.proofs.ColumnLemmas.{distinct_all, distinct_more, repeated}
use Rattle.model_conf.proofs.columns.are_distinct.Goals as goal

pub returns-then-has_name : goal.returns-then-has_name
returns-then-has_name c = (λ e. absurd (false≢true e), λ distinct. absurd (repeated c.args.names.now _ c.loop-at.at c.loop-at-test.true (c.has_name.ensures.0 c.if-has_name.true) distinct))

pub loop-at-preserved : goal.loop-at-preserved
loop-at-preserved c = distinct_more c.args.names.now _ c.loop-at.at c.loop-at-test.true c.loop-at.invariant (λ has. false≢true (sym c.if-has_name.false ∙ c.has_name.ensures.1 has))

pub returns : goal.returns
returns c = (λ _. distinct_all c.args.names.now c.loop-at.at c.loop-at-test.false c.loop-at.invariant, λ _. refl)
