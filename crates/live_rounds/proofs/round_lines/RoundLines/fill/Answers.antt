use Rattle.std.proofs.Common.{◌≡◌, Bool, arith, length, rules, subst, vec_len}
use Rattle.live_rounds.proofs.MergingLemmas.{filled_all, filled_more, filled_none, filled_out, shown_more}
use Rattle.live_rounds.specs.Helps.MergedItems.{AreSomePrinted}
use Rattle.live_rounds.proofs.round_lines.RoundLines.fill.Goals as goal

pub loop-self-init : goal.loop-self-init
loop-self-init c = filled_none c.args.self.now c.args.lines.now c.requires.none

-- the run that stands first is printed
pub loop-self-preserved : goal.loop-self-preserved
loop-self-preserved c = filled_more c.args.self.now c.loop-self.self c.take_run.new.self c.loop-self.lines c.take_run.new.lines c.loop-self.invariant c.in_ok-take_run.field-0 c.in_ok-take_run.ensures

pub loop-self-smaller : goal.loop-self-smaller
loop-self-smaller c =
    let run = subst (λ (b : Bool). AreSomePrinted b c.loop-self.self c.take_run.new.self c.loop-self.lines c.take_run.new.lines) c.if-not-branch.false c.in_ok-take_run.ensures in
    let size : length c.loop-self.lines.shown.items ≡ vec_len c.loop-self.lines.shown = search rules in
    omega (arith, size, c.loop-self-test.true, shown_more c.loop-self.self c.take_run.new.self c.loop-self.lines c.take_run.new.lines run)

-- no item is left
pub returns-then-not-branch : goal.returns-then-not-branch
returns-then-not-branch c =
    filled_out c.args.self.now c.loop-self.self c.take_run.new.self c.loop-self.lines c.take_run.new.lines c.loop-self.invariant
    (subst (λ (b : Bool). AreSomePrinted b c.loop-self.self c.take_run.new.self c.loop-self.lines c.take_run.new.lines) c.if-not-branch.true c.in_ok-take_run.ensures)

pub returns : goal.returns
returns c =
    let size : length c.loop-self.lines.shown.items ≡ vec_len c.loop-self.lines.shown = search rules in
    filled_all c.args.self.now c.loop-self.self c.loop-self.lines c.loop-self.invariant (omega (arith, size, c.loop-self-test.false))
