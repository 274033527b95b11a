use Rattle.std.proofs.Common.{ap, subst, sym, ◌∙◌}
use Rattle.decision.specs.Programs.{Suits}
use Rattle.policy_state.specs.States.{State, tables}
use Rattle.version_log.specs.Log.{versions}
use Rattle.enforce_core.proofs.parts.parts_of.Goals as goal

pub returns : goal.returns
returns c = record {
  model_is = c.in_ok-opened.ensures.program_is;
  shapes_are = ap (λ (s : State). s.shapes) c.in_ok-desk.ensures.state ∙ c.in_ok-opened.ensures.shapes_are;
  policy_is = ap (λ (s : State). tables s) c.in_ok-desk.ensures.state ∙ c.in_ok-opened.ensures.policy_is;
  suits = subst (λ (s : State). Suits c.in_ok-opened.opened.program s.shapes) (sym c.in_ok-desk.ensures.state) c.in_ok-opened.ensures.suits;
  version = ap (λ (s : State). versions s.log) c.in_ok-desk.ensures.state ∙ c.in_ok-opened.ensures.opening;
  pending = c.in_ok-desk.ensures.pending;
  kept = c.in_ok-desk.ensures.kept;
  is_desk = c.holds.ensures.desk;
}
