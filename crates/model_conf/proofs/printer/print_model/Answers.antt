use Rattle.std.proofs.Common.{◌≡◌, ap, ◌∙◌}
use Rattle.perm_base.specs.Fields.{joined}
use Rattle.text_parts.specs.Lines.{with_ends}
use Rattle.model_conf.specs.Effects.{effect_text}
use Rattle.model_conf.specs.Printed.{printed, role_lines}
use Rattle.model_conf.proofs.PrintLemmas.{push_one, pushed-parts}
use Rattle.model_conf.proofs.ReadBackLemmas.{read_back}
use Rattle.model_conf.proofs.printer.print_model.Goals as goal

pub returns : goal.returns
returns c =
    let whole : c.from_string.result ≡ printed c.args.model.now =
    c.from_string.ensures
    ∙ push_one _ _ _ _ (push_one _ _ _ _ (push_one _ _ _ _ (push_one _ _ _ _ (push_one _ _ _ _ (push_one _ _ _ _ (push_one _ _ _ _ (push_one _ _ _ _ (push_one _ _ _ _ (push_one _ _ _ _ (push_one _ _ _ _
    c.new-text.ensures.bytes c.in_ok-push_str.ensures.bytes) c.in_ok-push_texts.ensures.ok) c.in_ok-push_str-2.ensures.bytes) c.in_ok-push_texts-2.ensures.ok) c.in_ok-push_str-3.ensures.bytes) c.in_ok-push_relations.ensures)
    c.in_ok-push_str-4.ensures.bytes) c.in_ok-push_str-5.ensures.bytes) c.in_ok-push_str-6.ensures.bytes) c.in_ok-push_str-7.ensures.bytes) c.in_ok-push_str-8.ensures.bytes
    ∙ pushed-parts c.args.model.now _ _ _ _ _ (ap joined c.request_columns.ensures.value) (ap joined c.policy_columns.ensures.value) (ap (λ l. with_ends (role_lines l)) c.relations.ensures.value)
    (c.effect_text.ensures ∙ ap effect_text c.effect.ensures) (c.as_str.ensures ∙ c.matcher_text.ensures.value) in
    record { form = whole; read_back = read_back c.args.model.now c.from_string.result c.matcher_text.ensures.kept whole }
