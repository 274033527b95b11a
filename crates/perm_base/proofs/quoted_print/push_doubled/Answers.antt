use Rattle.std.proofs.Common.{rules}
use Rattle.perm_base.proofs.BehindLemmas.{behind_more}
use Rattle.perm_base.proofs.QuotedLemmas.{doubled_step, doubled_last}
use Rattle.perm_base.proofs.quoted_print.push_doubled.Goals as goal

pub loop-before-preserved : goal.loop-before-preserved
loop-before-preserved c = record {
  same = doubled_step _ _ _ c.loop-before.rest.now c.in-Some.before.now c.in-Some.after.now _ c.loop-before.invariant.same (record { parts = c.in-Some.ensures.parts; first = c.in-Some.ensures.first }) c.in_ok-push_str.ensures.bytes c.in_ok-push_str-2.ensures.bytes;
  utf8 = search rules;
  kept = behind_more _ _ _ _ (behind_more _ _ _ _ c.loop-before.invariant.kept c.in_ok-push_str.ensures.bytes) c.in_ok-push_str-2.ensures.bytes;
}

pub returns-clause-doubled : goal.returns-clause-doubled
returns-clause-doubled c = doubled_last _ _ c.loop-before.rest.now _ c.loop-before.invariant.same c.in_default.ensures.none c.in_ok-push_str-3.ensures.bytes
