use Rattle.std.proofs.Common.{rules}
use Rattle.edit_calls.proofs.EditLemmas.{once_next, repeat_empty, repeat_found, seen_next}
use Rattle.edit_calls.proofs.named.has_repeat.Goals as goal

pub loop-at-init : goal.loop-at-init
loop-at-init g c = record { taken = search rules; once = repeat_empty }

pub returns-then-not-branch : goal.returns-then-not-branch
returns-then-not-branch g c = repeat_found _ _ c.loop-at.at _ c.in_ok-insert.field-0 c.at.ensures c.loop-at.invariant.taken (search rules) (search rules)

pub loop-at-preserved : goal.loop-at-preserved
loop-at-preserved g c = record {
  taken = seen_next _ c.loop-at.seen.keys c.loop-at.at _ c.in_ok-insert.field-0 c.at.ensures c.loop-at.invariant.taken (search rules) _ (search rules) (search rules);
  once = once_next _ c.loop-at.seen.keys c.loop-at.at _ c.in_ok-insert.field-0 c.at.ensures c.loop-at.invariant.taken (search rules) (search rules) c.loop-at.invariant.once;
}
