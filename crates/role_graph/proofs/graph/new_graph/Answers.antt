use Rattle.std.proofs.Common.{◌≡◌, ◌∙◌, ◌++◌, [], ap, arith, length, sym}
use Rattle.dist_rows.specs.Squares.{Square}
use Rattle.role_graph.specs.Groups.{rows_of, rows_with}
use Rattle.role_graph.specs.Helps.Kept.{linked_of}
use Rattle.role_graph.proofs.AnswerLemmas.{no_rows, nodes_none}
use Rattle.role_graph.proofs.graph.new_graph.Goals as goal

pub returns-clause-rows : goal.returns-clause-rows
returns-clause-rows c = no_rows c.new.result.plain.groups c.new.result.patterned.groups c.new.ensures.plain c.new.ensures.patterned

pub invariant_of-result : goal.invariant_of-result
invariant_of-result c =
    let none : rows_of (c.new.result.plain.groups ++ c.new.result.patterned.groups) ≡ [] = no_rows c.new.result.plain.groups c.new.result.patterned.groups c.new.ensures.plain c.new.ensures.patterned in
    record {
      links = c.new.ensures.sound;
      few = omega (arith, ap length none);
      some = c.requires.some;
      limited = c.requires.most;
      counted = λ role. c.new-2.ensures.counts role ∙ sym (ap (rows_with role) none);
      number = sym (ap length none);
      nodes = nodes_none (linked_of c.new.result) _ c.new-2.ensures.none none;
      exact = λ some. absurd (omega (arith, some, ap (λ (square : Square). length square.cells) c.empty.ensures));
    }
