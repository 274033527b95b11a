use Rattle.std.proofs.Common.{rules}
use Rattle.perm_base.proofs.QuotedLemmas.{quoted_end, quoted_next, quoted_never}
use Rattle.perm_base.proofs.quoted.quoted_text.Goals as goal

pub returns-in_default-behind : goal.returns-in_default-behind
returns-in_default-behind c = quoted_end c.args.inside.now c.loop-before.rest.now _ c.in-Some.before.now c.in-Some.after.now _ c.from_string.result c.loop-before.invariant.same (record { parts = c.in-Some.ensures.parts; first = c.in-Some.ensures.first }) c.in_default-behind.ensures c.in_ok-push_str.ensures.bytes c.from_string.ensures

pub loop-before-preserved : goal.loop-before-preserved
loop-before-preserved c = record {
  same = quoted_next c.args.inside.now c.loop-before.rest.now _ c.in-Some.before.now c.in-Some.after.now c.in-Some-behind.next.now _ _ c.loop-before.invariant.same (record { parts = c.in-Some.ensures.parts; first = c.in-Some.ensures.first }) c.in-Some-behind.ensures c.in_ok-push_str.ensures.bytes c.in_ok-push_str-2.ensures.bytes;
  utf8 = search rules;
}

pub returns : goal.returns
returns c = quoted_never c.args.inside.now c.loop-before.rest.now _ c.loop-before.invariant.same c.in_default.ensures.none
