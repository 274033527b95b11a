use Rattle.std.proofs.Common.{◌∙◌, List, ℕ, subst}
use Rattle.policy_query.specs.Answers.{IsAnswer}
use Rattle.policy_query.specs.Names.{users_answer}
use Rattle.policy_state.specs.States.{tables}
use Rattle.policy_desk.proofs.desk.Desk.users_sought.Goals as goal

pub returns : goal.returns
returns c =
    subst (λ answered. IsAnswer answered c.users_of.result)
    (λ j. users_answer (c.state-state.ensures.state j).shapes (tables (c.state-state.ensures.state j)) c.args.relation (c.bytes.ensures.value j) (c.bytes_of.ensures j)) c.users_of.ensures.answer
