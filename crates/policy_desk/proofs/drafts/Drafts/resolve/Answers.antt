use Rattle.std.proofs.Common.{◌≡◌, IfOk, Ok, subst, sym, true}
use Rattle.std.specs.Prelude.{IfSome, MatchResult}
use Rattle.edit_calls.specs.Answers.{answer}
use Rattle.edit_calls.specs.Found.{AreKnown}
use Rattle.edit_calls.specs.Told.{IsTold}
use Rattle.policy_table.specs.Changes.{applies}
use Rattle.policy_table.specs.Limits.{AreSound}
use Rattle.policy_table.specs.Tables.{Policy}
use Rattle.policy_desk.proofs.drafts.Drafts.resolve.Goals as goal

pub resolve-requires-clause-sound : goal.resolve-requires-clause-sound
resolve-requires-clause-sound c = subst (AreSound c.args.shapes.now) (sym c.self.view_is) c.requires.sound

pub resolve-requires-clause-known : goal.resolve-requires-clause-known
resolve-requires-clause-known c = subst (λ (p : Policy). AreKnown c.args.shapes.now p c.args.known.now c.args.call.now) (sym c.self.view_is) c.requires.known

pub returns-clause-answered : goal.returns-clause-answered
returns-clause-answered c =
    subst (λ (p : Policy). MatchResult c.resolve.result (λ edit. answer c.args.shapes.now p c.args.call.now ≡ Ok edit) (IsTold (answer c.args.shapes.now p c.args.call.now))) c.self.view_is c.resolve.ensures.answered

pub returns-clause-applies : goal.returns-clause-applies
returns-clause-applies c = subst (λ (p : Policy). IfOk c.resolve.result (λ found. IfSome found (λ edit. applies edit p ≡ true))) c.self.view_is c.resolve.ensures.applies
