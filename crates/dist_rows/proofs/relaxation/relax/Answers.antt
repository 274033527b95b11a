use Rattle.std.proofs.Common.{◌≡◌, ℕ, ◌+◌, ◌*◌, ◌/◌, length, sym, ap, subst, ◌∙◌, arith}
use Rattle.dist_rows.proofs.RelaxLemmas.{relaxed_none}
use Rattle.dist_rows.specs.Helps.Rows.{AreRows, relaxed_to}
use Rattle.dist_rows.proofs.relaxation.relax.Goals as goal

pub loop-group-init : goal.loop-group-init
loop-group-init g c = record {
  square = c.requires.square;
  relaxed = relaxed_none c.args.rows.now c.args.a c.args.add c.args.v;
  steps = omega arith;
}

pub loop-group-preserved : goal.loop-group-preserved
loop-group-preserved g c =
    let next : c.loop-group.group * 32 + 32 ≡ (c.loop-group.group + 1) * 32 = omega arith in
    record {
      square = subst (λ (n : ℕ). AreRows n 0 c.relax_group.new.rows) (sym c.relax_group.auto.rows) c.relax_group.ensures.square;
      relaxed = c.relax_group.ensures.relaxed c.args.rows.now c.requires.square c.requires.a c.loop-group.invariant.relaxed ∙ ap (λ (n : ℕ). relaxed_to n c.args.rows.now c.args.a c.args.add c.args.v) next;
      steps = omega (arith, c.tick.ensures, c.loop-group.invariant.steps);
    }

pub returns-then-whole-size-clause-rows : goal.returns-then-whole-size-clause-rows
returns-then-whole-size-clause-rows g c =
    let at : c.loop-group.group * 32 ≡ length c.args.rows.now / 32 * 32 = omega arith in
    let before = c.loop-group.invariant.relaxed ∙ ap (λ (n : ℕ). relaxed_to n c.args.rows.now c.args.a c.args.add c.args.v) at in
    c.relax_rest.ensures.relaxed c.args.rows.now c.requires.square c.requires.a before ∙ ap (λ (n : ℕ). relaxed_to n c.args.rows.now c.args.a c.args.add c.args.v) c.loop-group.auto.rows

pub returns-then-whole-size-clause-steps : goal.returns-then-whole-size-clause-steps
returns-then-whole-size-clause-steps g c = omega (arith, c.tick-then-whole-size.ensures, c.loop-group.invariant.steps)

pub returns-else-whole-size-clause-rows : goal.returns-else-whole-size-clause-rows
returns-else-whole-size-clause-rows g c =
    let at : c.loop-group.group * 32 ≡ length c.args.rows.now = omega arith in
    c.loop-group.invariant.relaxed ∙ ap (λ (n : ℕ). relaxed_to n c.args.rows.now c.args.a c.args.add c.args.v) at

pub returns-else-whole-size-clause-steps : goal.returns-else-whole-size-clause-steps
returns-else-whole-size-clause-steps g c = omega (arith, c.loop-group.invariant.steps)
