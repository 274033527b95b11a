use Rattle.std.proofs.Common.{◌≡◌, Ok, Some, true, rules, subst, sym}
use Rattle.edit_calls.specs.Answers.{answer}
use Rattle.edit_calls.specs.Found.{AreKnown}
use Rattle.perm_base.specs.declared.shapes.Shapes.{Shapes}
use Rattle.policy_desk.proofs.AnswerLemmas.{found}
use Rattle.policy_desk.specs.Desks.{Work}
use Rattle.policy_table.specs.Changes.{applies}
use Rattle.policy_desk.proofs.desk.Desk.edit_by.Goals as goal

pub returns-clause-admitted : goal.returns-clause-admitted
returns-clause-admitted c =
    let said : answer c.args.self.now.state.shapes c.args.self.now.drafts c.args.call.now ≡ Ok (Some c.in-Some.edit) = search rules in
    let possible : applies c.in-Some.edit c.args.self.now.drafts ≡ true = search rules in
    let is = found c.args.self.now.state.shapes c.args.self.now.drafts c.args.call.now c.in-Some.edit said in
    c.edits_are_admitted.ensures c.args.self.now.state.shapes c.args.self.now.drafts c.args.call.now c.in-Some.edit is.passes is.is possible is.within

pub resolve-requires-clause-known : goal.resolve-requires-clause-known
resolve-requires-clause-known c =
    subst (λ (s : Shapes). AreKnown s c.self.inside.drafts c.args.known.now c.args.call.now) (sym c.shapes-shapes.ensures.shapes)
    (subst (λ (d : Work). AreKnown d.state.shapes d.drafts c.args.known.now c.args.call.now) (sym c.self.view_is) c.requires.known)
