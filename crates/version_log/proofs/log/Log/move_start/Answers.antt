use Rattle.std.proofs.Common.{◌≡◌, ◌-◌, ◌∙◌, ℕ, ap, arith, drop, refl}
use Rattle.version_log.proofs.LogLemmas.{dropped_more, same_versions, some_left, stands_from}
use Rattle.version_log.proofs.log.Log.move_start.Goals as goal

pub loop-init : goal.loop-init
loop-init c = record {
  start = omega arith;
  until = c.requires.from;
  tail = refl;
  spare = omega arith;
}

pub drop_first-requires : goal.drop_first-requires
drop_first-requires c =
    some_left c.args.self.now c.loop.self c.loop.counter c.loop.invariant.tail (omega (arith, c.loop-test.true, c.start.ensures, c.requires.from, c.requires.until))

pub loop-preserved : goal.loop-preserved
loop-preserved c = record {
  start = omega (arith, c.drop_first.ensures.start, c.loop.invariant.start);
  until = omega (arith, c.drop_first.ensures.start, c.loop.invariant.start, c.loop-test.true, c.start.ensures, c.requires.from);
  tail = dropped_more c.args.self.now.tail c.loop.self.tail c.drop_first.new.self.tail c.loop.counter c.loop.invariant.tail c.drop_first.ensures.tail;
  spare = omega (arith, c.drop_first.ensures.spare, c.loop.invariant.spare);
}

pub returns-clause-start : goal.returns-clause-start
returns-clause-start c = omega (arith, c.loop-test.false, c.start.ensures, c.requires.from, c.loop.invariant.start, c.loop.invariant.until)

pub returns-clause-tail : goal.returns-clause-tail
returns-clause-tail c =
    let count : c.loop.counter ≡ c.args.to - c.args.self.now.start = omega (arith, c.loop-test.false, c.start.ensures, c.requires.from, c.loop.invariant.start, c.loop.invariant.until) in
    c.loop.invariant.tail ∙ ap (λ (n : ℕ). drop n c.args.self.now.tail) count

pub returns-clause-spare : goal.returns-clause-spare
returns-clause-spare c = c.loop.invariant.spare

pub returns-clause-versions : goal.returns-clause-versions
returns-clause-versions c =
    same_versions c.args.self.now c.loop.self c.loop.counter c.loop.invariant.start c.loop.invariant.tail (omega (arith, c.loop.invariant.start, c.loop.invariant.until, c.requires.until))

pub returns-clause-stands : goal.returns-clause-stands
returns-clause-stands c = λ history stands.
    let count : c.loop.counter ≡ c.args.to - c.args.self.now.start = omega (arith, c.loop-test.false, c.start.ensures, c.requires.from, c.loop.invariant.start, c.loop.invariant.until) in
    let start : c.loop.self.start ≡ c.args.to = omega (arith, c.loop-test.false, c.start.ensures, c.requires.from, c.loop.invariant.start, c.loop.invariant.until) in
    stands_from c.args.self.now c.loop.self history c.args.to c.requires.from c.requires.until start (c.loop.invariant.tail ∙ ap (λ (n : ℕ). drop n c.args.self.now.tail) count) stands
