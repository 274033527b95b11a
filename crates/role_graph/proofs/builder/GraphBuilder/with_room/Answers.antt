use Rattle.std.proofs.Common.{◌≡◌, ◌++◌, ◌∙◌, [], List, ℕ, ap, arith, length, sym}
use Rattle.role_graph.specs.Groups.{rows_of, rows_with}
use Rattle.role_graph.specs.Helps.Roles.{number_in}
use Rattle.role_graph.proofs.AnswerLemmas.{no_rows}
use Rattle.role_graph.proofs.builder.GraphBuilder.with_room.Goals as goal

pub returns-clause-rows : goal.returns-clause-rows
returns-clause-rows c =
    no_rows c.reserve_plain.new.self.plain.groups c.reserve_plain.new.self.patterned.groups (c.reserve_plain.ensures.plain ∙ c.new-links.ensures.plain) (c.reserve_plain.ensures.patterned ∙ c.new-links.ensures.patterned)

pub returns-clause-counted : goal.returns-clause-counted
returns-clause-counted c =
    let none : rows_of (c.reserve_plain.new.self.plain.groups ++ c.reserve_plain.new.self.patterned.groups) ≡ [] =
    no_rows c.reserve_plain.new.self.plain.groups c.reserve_plain.new.self.patterned.groups (c.reserve_plain.ensures.plain ∙ c.new-links.ensures.plain) (c.reserve_plain.ensures.patterned ∙ c.new-links.ensures.patterned) in
    record {
      counted = λ role. ap (λ (entries : List (List ℕ × ℕ)). number_in entries role) c.reserve.ensures.same ∙ c.new-roles.ensures.counts role ∙ sym (ap (rows_with role) none);
      number = sym (ap length none);
      few = omega (arith, ap length none);
    }
