use Rattle.std.proofs.Common.{◌++◌, ◌∷◌, [], Option, ap, map, ◌∙◌}
use Rattle.answer_lines.specs.Printed.{printed_answer}
use Rattle.answer_lines.specs.declared.answer.Answer.TheVariants.{Decided}
use Rattle.desk_session.proofs.CallerLemmas.{decided_printable}
use Rattle.perm_value.specs.Seen.{datum}
use Rattle.policy_table.specs.Tables.{Fields}
use Rattle.live_seat.proofs.printed.judged_printed.Goals as goal

pub push_verdict-requires : goal.push_verdict-requires
push_verdict-requires g c =
    record { printable = decided_printable c.order_of_rows_is_one.ensures.moved c.args.program.now c.args.state.now _ (map datum c.args.request.now) 0 _ _ c.in_ok-verdict.ensures.judged c.named_rule-rule.ensures }

pub returns-clause-judged : goal.returns-clause-judged
returns-clause-judged g c = (
  c.in_ok-verdict.verdict,
  c.in_ok-verdict.ensures.judged,
  c.in_ok-verdict.ensures.refused,
  c.in_ok-push_verdict.ensures.pushed ∙ ap (λ (rule : Option Fields). c.args.replies.now ++ printed_answer (Decided c.args.version c.in_ok-verdict.verdict rule) ∷ []) c.named_rule-rule.ensures,
)
