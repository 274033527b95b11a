use Rattle.std.proofs.Common.{◌≡◌, ◌++◌, ◌∙◌, [], ap, arith, length, sym}
use Rattle.role_graph.specs.Groups.{rows_of, rows_with}
use Rattle.role_graph.proofs.AnswerLemmas.{no_rows}
use Rattle.role_graph.proofs.builder.GraphBuilder.new.Goals as goal

pub returns-clause-rows : goal.returns-clause-rows
returns-clause-rows c = no_rows c.new.result.plain.groups c.new.result.patterned.groups c.new.ensures.plain c.new.ensures.patterned

pub returns-clause-counted : goal.returns-clause-counted
returns-clause-counted c =
    let none : rows_of (c.new.result.plain.groups ++ c.new.result.patterned.groups) ≡ [] = no_rows c.new.result.plain.groups c.new.result.patterned.groups c.new.ensures.plain c.new.ensures.patterned in
    record {
      counted = λ role. c.new-2.ensures.counts role ∙ sym (ap (rows_with role) none);
      number = sym (ap length none);
      few = omega (arith, ap length none);
    }
