use Rattle.std.proofs.Common.{List, ℕ, Some, ◌++◌, ap, arith, length, rules, sym, take_all, ◌∙◌}
use Rattle.enforce_core.proofs.lines.GatheringSink.push.Goals as goal

pub returns-in-Ok : goal.returns-in-Ok
returns-in-Ok c = record {
  within = omega arith;
  some = λ has. has;
  took = ap (λ (items : List ℕ). Some items) (c.in-Ok.ensures.items ∙ ap (λ (back : List ℕ). c.args.self.now.bytes.items ++ back) (sym (take_all (length c.args.piece.now) c.args.piece.now (omega arith))));
  kept = tt;
  counted = omega arith;
  failed = tt;
}

pub returns-in-Err : goal.returns-in-Err
returns-in-Err c = record {
  within = tt;
  some = tt;
  took = tt;
  kept = ap (λ (items : List ℕ). Some items) c.in-Err.ensures.items;
  counted = search rules;
  failed = search rules;
}
