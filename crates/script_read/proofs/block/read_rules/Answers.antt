use Rattle.std.proofs.Common.{◌≡◌, ℕ, ◌+◌, true, false, ◌∷◌, [], ◌++◌, List, Some, Err, sym, ap, subst, ◌∙◌, arith, rules}
use Rattle.std.proofs.lemmas.Grind.{common_steps}
use Rattle.policy_table.specs.Tables.{Fields}
use Rattle.script_read.specs.Blocks.{at_line, inner_rule}
use Rattle.script_read.specs.Helps.Given.{Fails, fields_read}
use Rattle.script_read.specs.Lines.{ends_block}
use Rattle.text_parts.specs.Full.{full_lines}
use Rattle.script_read.specs.Results.{mapped}
use Rattle.script_read.proofs.BlockLemmas.{behind_rules, left, rules_begin, rules_end, rules_here, rules_on, rules_stop}
use Rattle.script_read.proofs.block.read_rules.Goals as goal

pub loop-at-init : goal.loop-at-init
loop-at-init c = record {
  reads = ap (λ (l : List Fields). mapped (behind_rules l) (left c.args.table (full_lines c.args.number c.args.text.now))) c.new-rules.ensures.items ∙ rules_begin c.args.table (full_lines c.args.number c.args.text.now);
  within = omega arith;
  utf8 = search rules;
}

pub returns-then-ends_block : goal.returns-then-ends_block
returns-then-ends_block c =
    let ends : ends_block c.in-Some.line.now ≡ true = sym c.ends_block.ensures ∙ c.if-ends_block.true in
    rules_here c.loop-at.first c.in-Some.at c.loop-at.rest.now c.in-Some.line.now c.in-Some.after.now c.in-Some.ensures.first c.loop-at.table c.loop-at.rules.items (left c.args.table (full_lines c.args.number c.args.text.now)) c.loop-at.invariant.reads ends

pub returns-in_err-own : goal.returns-in_err-own
returns-in_err-own c =
    let goes : ends_block c.in-Some.line.now ≡ false = sym c.ends_block.ensures ∙ c.if-ends_block.false in
    let stop : c.from_residual.result ≡ Err c.in_err-own.field-0.0 = search rules in
    let bad = subst (λ (n : ℕ). Fails c.in_err-own.field-0.0 (at_line n (inner_rule fields_read c.loop-at.table c.in-Some.line.now))) c.given_number.ensures c.in_err-own.ensures in
    rw stop (rules_stop c.loop-at.first c.in-Some.at c.loop-at.rest.now c.in-Some.line.now c.in-Some.after.now c.in-Some.ensures.first c.loop-at.table c.loop-at.rules.items (left c.args.table (full_lines c.args.number c.args.text.now)) c.loop-at.invariant.reads
    c.in_err-own.field-0.0 goes bad)

pub loop-at-preserved : goal.loop-at-preserved
loop-at-preserved c =
    let goes : ends_block c.in-Some.line.now ≡ false = sym c.ends_block.ensures ∙ c.if-ends_block.false in
    let pushed : c.push.new.self.items ≡ c.loop-at.rules.items ++ c.in_ok-own.rule ∷ [] = grind (arith, common_steps) in
    let says = ap (λ (n : ℕ). at_line n (inner_rule fields_read c.loop-at.table c.in-Some.line.now)) (sym c.given_number.ensures) ∙ c.in_ok-own.ensures in
    record {
      reads = ap (λ (l : List Fields). mapped (behind_rules l) (left (Some c.in_ok-own.own) (full_lines (c.in-Some.at + 1) c.in-Some.after.now))) pushed
          ∙ rules_on c.loop-at.first c.in-Some.at c.loop-at.rest.now c.in-Some.line.now c.in-Some.after.now c.in-Some.ensures.first c.loop-at.table c.loop-at.rules.items (left c.args.table (full_lines c.args.number c.args.text.now)) c.loop-at.invariant.reads
          c.in_ok-own.own c.in_ok-own.rule goes says;
      within = omega (arith, c.in-Some.ensures.within);
      utf8 = search rules;
    }

pub returns : goal.returns
returns c = rules_end (full_lines c.loop-at.first c.loop-at.rest.now) c.loop-at.table c.loop-at.rules.items (left c.args.table (full_lines c.args.number c.args.text.now)) c.in_default.ensures.none c.loop-at.invariant.reads
