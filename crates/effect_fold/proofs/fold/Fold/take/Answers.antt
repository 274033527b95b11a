use Rattle.std.proofs.Common.{rules, ◌≡◌, true, is_some, refl, sym}
use Rattle.effect_fold.proofs.FoldLemmas.{settled_taken, took_more, took_settled}
use Rattle.effect_fold.proofs.fold.Fold.take.Goals as goal

pub returns-then-is_some-clause-taken : goal.returns-then-is_some-clause-taken
returns-then-is_some-clause-taken c = λ e outcomes has.
    (let some : is_some c.args.self.now.settled ≡ true = search rules in
    took_more e outcomes c.args.self.now c.args.self.now c.args.row c.args.outcome (settled_taken c.args.self.now c.args.row c.args.outcome some) has)

pub returns-then-is_some-clause-settled : goal.returns-then-is_some-clause-settled
returns-then-is_some-clause-settled c = λ e outcomes has.
    (let some : is_some c.args.self.now.settled ≡ true = search rules in
    took_settled e outcomes c.args.self.now c.args.self.now c.args.row c.args.outcome true (settled_taken c.args.self.now c.args.row c.args.outcome some) (sym some) has)

pub returns-clause-taken : goal.returns-clause-taken
returns-clause-taken c = λ e outcomes has. took_more e outcomes c.args.self.now c.put.new.self c.args.row c.args.outcome c.put.ensures.taken has

pub returns-clause-settled : goal.returns-clause-settled
returns-clause-settled c = λ e outcomes has. took_settled e outcomes c.args.self.now c.put.new.self c.args.row c.args.outcome c.put.result c.put.ensures.taken c.put.ensures.known has
