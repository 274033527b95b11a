use Rattle.std.proofs.Common.{ℕ, ◌+◌, List, ◌++◌, ap, ◌∙◌, arith, rules}
use Rattle.std.specs.Prelude.{string_bytes}
use Rattle.text_parts.specs.Numbered.{line, numbered, text_lines}
use Rattle.model_conf.proofs.OpenLemmas.{drop_first, join_next, none_open}
use Rattle.model_conf.proofs.joined_lines.join_lines.Goals as goal

pub returns-in_default-clause-whole : goal.returns-in_default-clause-whole
returns-in_default-clause-whole c =
    c.loop-rest.invariant.joins _ _ (rw c.in_default.ensures.none (drop_first _ _ _ _ c.loop-rest-test.true c.drop_open.ensures c.drop_all_open.ensures))

pub loop-rest-preserved : goal.loop-rest-preserved
loop-rest-preserved c = record {
  utf8 = search rules;
  joins = λ whole left is. c.loop-rest.invariant.joins whole left (rw c.in-Some.ensures.first
      (join_next (string_bytes c.loop-rest.text) (string_bytes c.drop_open.new.text) _ whole (line c.loop-rest.next c.in-Some.line.now) (numbered (c.loop-rest.next + 1) (text_lines c.in-Some.after.now)) left _ c.loop-rest-test.true c.drop_open.ensures
      (c.in_ok-push_str.ensures.bytes ∙ ap (λ (t : List ℕ). t ++ c.in-Some.line.now) (c.in_ok-push.ensures.bytes ∙ ap (λ (t : List ℕ). string_bytes c.drop_open.new.text ++ t) (c.in_ok-push.ensures.ascii (omega arith)))) is));
  fewer = omega (arith, c.in-Some.ensures.shorter);
  shorter = omega (arith, c.in-Some.ensures.shorter);
}

pub returns-clause-whole : goal.returns-clause-whole
returns-clause-whole c = c.loop-rest.invariant.joins _ _ (none_open _ _ _ _ c.loop-rest-test.false c.drop_open.ensures)
