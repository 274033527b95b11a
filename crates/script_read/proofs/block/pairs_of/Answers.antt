use Rattle.std.proofs.Common.{◌≡◌, ◌∷◌, [], ◌++◌, List, Some, sym, ap, ◌∙◌, arith}
use Rattle.std.proofs.lemmas.Grind.{common_steps}
use Rattle.policy_table.specs.Tables.{Fields}
use Rattle.script_read.specs.Blocks.{pairs_of}
use Rattle.script_read.proofs.PairLemmas.{behind_pairs, pairs_done, pairs_on, pairs_stop}
use Rattle.script_read.proofs.block.pairs_of.Goals as goal

pub returns-in_default-next : goal.returns-in_default-next
returns-in_default-next c =
    let first : c.loop-old.rules.rest.items ≡ c.in-Some.old ∷ c.next.new.self.rest.items = c.in-Some.ensures.cases.0 in
    let none : c.next.new.self.rest.items ≡ [] = grind (arith, common_steps) in
    ap pairs_of (sym c.into_iter-rules.ensures.rest) ∙ pairs_stop c.loop-old.pairs.items c.loop-old.rules.rest.items c.next.new.self.rest.items c.in-Some.old (pairs_of c.into_iter-rules.result.rest.items) first none c.loop-old.invariant.pairs

pub loop-old-preserved : goal.loop-old-preserved
loop-old-preserved c =
    let first : c.loop-old.rules.rest.items ≡ c.in-Some.old ∷ c.next.new.self.rest.items = c.in-Some.ensures.cases.0 in
    let second : c.next.new.self.rest.items ≡ c.in-Some-next.new ∷ c.next-in-Some.new.self.rest.items = c.in-Some-next.ensures.cases.0 in
    let pushed : c.push.new.self.items ≡ c.loop-old.pairs.items ++ (c.in-Some.old, c.in-Some-next.new) ∷ [] = grind (arith, common_steps) in
    record {
      pairs =
          ap (λ (l : List (Fields × Fields)). behind_pairs l (pairs_of c.next-in-Some.new.self.rest.items)) pushed
          ∙ pairs_on c.loop-old.pairs.items c.loop-old.rules.rest.items c.next.new.self.rest.items c.next-in-Some.new.self.rest.items c.in-Some.old c.in-Some-next.new (pairs_of c.into_iter-rules.result.rest.items) first second c.loop-old.invariant.pairs;
      few = grind (arith, common_steps, first, second, pushed);
    }

pub returns : goal.returns
returns c =
    let none : c.loop-old.rules.rest.items ≡ [] = grind (arith, common_steps) in
    ap pairs_of (sym c.into_iter-rules.ensures.rest) ∙ pairs_done c.loop-old.pairs.items c.loop-old.rules.rest.items (pairs_of c.into_iter-rules.result.rest.items) none c.loop-old.invariant.pairs ∙ ap (λ (l : List (Fields × Fields)). Some l) (sym c.from_vec.ensures)
