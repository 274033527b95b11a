use Rattle.std.proofs.Common.{ap, ◌∙◌}
use Rattle.std.specs.Option.{option_copied}
use Rattle.std.specs.Prelude.{string_bytes}
use Rattle.command_words.specs.FileNames.{SubjectName}
use Rattle.policy_state.specs.States.{tables}
use Rattle.loaded_work.proofs.RolesLemmas.{implied_of, three_appended}
use Rattle.loaded_work.proofs.implied.implied_text.Goals as goal

pub returns : goal.returns
returns c =
    implied_of c.args.model.now c.args.state.now.shapes (tables c.args.state.now) c.args.subject.now c.as_bytes-name.result.now (option_copied c.bytes_of-domain.result) c.in_ok-roles.roles c.in_ok-users.users c.in_ok-rules.rules (string_bytes c.push_reply-3.new.text)
    (c.as_bytes-name.ensures.value ∙ ap (λ (s : SubjectName). s.name) c.subject.view_is)
    (c.bytes_of-domain.ensures ∙ ap (λ (s : SubjectName). s.domain) c.subject.view_is)
    c.in_ok-roles.ensures.reply c.in_ok-users.ensures.reply c.in_ok-rules.ensures.reply
    (three_appended _ _ _ _ _ _ _ c.new-text.ensures.bytes c.in_ok-push_reply.ensures c.in_ok-push_reply-2.ensures c.in_ok-push_reply-3.ensures)
