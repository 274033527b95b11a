use Rattle.std.proofs.Common.{false, inl, inr, ⊎_elim}
use Rattle.loaded_work.proofs.CallerLemmas.{followed_once}
use Rattle.casbin_run.proofs.ModelLemmas.{HasMatchers, some_model}
use Rattle.casbin_run.proofs.SomeEnd.{SaysSome, some_end}
use Rattle.casbin_run.proofs.OneEnd.{SaysOnce, no_cause, one_cause, one_text}
use Rattle.casbin_run.proofs.ExplainWork.{ExplainsOnce, explained_once}
use Rattle.loaded_work.proofs.CallerLemmas.{ImpliesOnce, implied_once, long_or_short, reported_once}
use Rattle.casbin_run.proofs.laws.one_end.Goals as goal
use Rattle.casbin_run.proofs.laws.one_end.Goals.{After-relation_has_one_report}

-- what is asked of roles has one answer
implies : After-relation_has_one_report → ImpliesOnce
implies c = record {
  roles = c.implied_roles_are_one.ensures;
  users = c.implied_users_are_one.ensures;
  rules = c.permissions_are_one.ensures;
  report = c.relation_has_one_report.ensures.unique;
}

-- requests are explained in one way
explains : After-relation_has_one_report → ExplainsOnce
explains c = record {
  parts = c.parts_are_one.ensures;
  misses = c.near_misses_are_one.ensures;
  lines = c.lines_are_one.ensures;
}

-- what the laws of the crates below say of texts
once : After-relation_has_one_report → SaysOnce
once c = record {
  model = c.text_says_one_model.ensures;
  model_fault = c.text_has_one_model_fault.ensures;
  model_either = c.faulty_text_is_no_model.ensures;
  policy = c.text_says_one_policy.ensures;
  policy_fault = c.text_has_one_policy_fault.ensures;
  policy_either = c.faulty_text_is_no_policy.ensures;
  script = c.text_says_one_script.ensures;
  script_fault = c.text_has_one_script_fault.ensures;
  script_either = c.faulty_text_is_no_script.ensures;
  requests = c.input_says_one_list_of_requests.ensures;
  packets = c.bytes_say_packets_once.ensures.packets;
  packet_fault = c.bytes_say_packets_once.ensures.fault;
  packet_either = c.bytes_say_packets_once.ensures.apart;
  lines = c.lines_are_one.ensures;
  explained = explained_once (explains c);
  implied = implied_once (implies c);
  followed = followed_once c.texts_read_in_one_way.ensures.some;
  reported = reported_once (implies c);
}

pub returns-clause-one_cause : goal.returns-clause-one_cause
returns-clause-one_cause c = one_cause (once (goal.at.returns-clause-one_cause c).After-relation_has_one_report)

pub returns-clause-no_cause : goal.returns-clause-no_cause
returns-clause-no_cause c = no_cause (once (goal.at.returns-clause-no_cause c).After-relation_has_one_report)

pub returns-clause-one_text : goal.returns-clause-one_text
returns-clause-one_text c = one_text (once (goal.at.returns-clause-one_text c).After-relation_has_one_report)

pub returns-clause-there : goal.returns-clause-there
returns-clause-there c =
    let matchers : HasMatchers = record {
      matcher = c.every_text_is_a_matcher_or_at_fault.ensures;
      utf8 = λ bytes. ⊎_elim (λ said. inl (c.every_input_is_requests_or_at_fault.ensures.never_both false bytes said.0 said.1)) (λ none. inr none) (c.every_input_is_requests_or_at_fault.ensures.always false bytes);
    } in
    let some : SaysSome = record {
      model = some_model matchers;
      policy = c.every_text_is_a_policy_or_at_fault.ensures;
      script = c.every_text_is_a_script_or_at_fault.ensures;
      requests = c.every_input_is_requests_or_at_fault.ensures.always;
      packets = c.every_input_is_packets_or_at_fault.ensures;
      report = long_or_short (implies (goal.at.returns-clause-there c).After-relation_has_one_report) c.relation_has_one_report.ensures.there;
    } in
    some_end some
