use Rattle.std.proofs.Common.{◌≡◌, ℕ, List, Ok, Err, length, refl, sym, ap, subst, ◌∙◌, arith, rules}
use Rattle.std.specs.Str.{IsUtf8}
use Rattle.policy_csv.specs.Helps.Filled.{IsFilled, ranked_if}
use Rattle.text_parts.specs.Full.{full_lines}
use Rattle.policy_table.specs.Tables.{Policy, without_rules}
use Rattle.text_parts.specs.Numbered.{Line}
use Rattle.text_parts.proofs.ReaderLemmas.{end_is_value, no_fault, stop_is_first}
use Rattle.policy_csv.proofs.PolicyLemmas.{only_memory, text_read, whole}
use Rattle.policy_csv.proofs.ReadingLemmas.{reading, reading_none}
use Rattle.policy_csv.proofs.TakeLemmas.{filled_none, read_on, read_stop}
use Rattle.policy_csv.proofs.RankedLemmas.{ranked_none}
use Rattle.policy_csv.proofs.policy.read_policy.Goals as goal

pub loop-at-init : goal.loop-at-init
loop-at-init c =
    let same : c.in-Ok.text.now ≡ c.args.bytes.now = search rules in
    let start : ranked_if c.args.shapes.now.ranked c.no_tables-tables.result.policy ≡ without_rules c.args.shapes.now.ranked
    = ap (ranked_if c.args.shapes.now.ranked) c.no_tables-tables.ensures.policy ∙ ranked_none c.args.shapes.now.ranked in
    record {
      reads = ap (reading c.args.shapes.now (full_lines 1 c.in-Ok.text.now)) start
          ∙ ap (λ (text : List ℕ). reading c.args.shapes.now (full_lines 1 text) (without_rules c.args.shapes.now.ranked)) same;
      filled = subst (IsFilled c.args.shapes.now) (sym c.no_tables-tables.ensures.policy) (filled_none c.args.shapes.now);
      within = omega (arith, ap (λ (l : List ℕ). length l) same);
      utf8 = search rules;
    }

pub loop-at-preserved : goal.loop-at-preserved
loop-at-preserved c =
    let took = c.in_ok-take_line.ensures.taken in
    record {
      reads = read_on c.args.shapes.now c.args.bytes.now c.loop-at.rest.now c.in-Some.line.now c.in-Some.after.now c.loop-at.number c.in-Some.at (ranked_if c.args.shapes.now.ranked c.loop-at.tables.policy) c.loop-at.invariant.reads c.in-Some.ensures.first
          c.loop-at.tables.policy c.take_line.new.tables.policy refl took;
      filled = took.filled;
      within = omega (arith, c.in-Some.ensures.within);
      utf8 = search rules;
    }

pub returns-in_err-take_line-clause-only : goal.returns-in_err-take_line-clause-only
returns-in_err-take_line-clause-only c = λ policy is.
    let stop : c.from_residual.result ≡ Err c.in_err-take_line.field-0.0 = search rules in
    let stopped = read_stop c.args.shapes.now c.args.bytes.now c.loop-at.rest.now c.in-Some.line.now c.in-Some.after.now c.loop-at.number c.in-Some.at (ranked_if c.args.shapes.now.ranked c.loop-at.tables.policy) c.loop-at.invariant.reads c.in-Some.ensures.first
    c.given_number.result c.in_err-take_line.field-0.0 c.given_number.ensures c.in_err-take_line.ensures.fault in
    rw stop (only_memory c.args.shapes.now c.args.bytes.now c.in_err-take_line.field-0.0 policy stopped is)

pub returns-in_err-take_line-clause-fault : goal.returns-in_err-take_line-clause-fault
returns-in_err-take_line-clause-fault c =
    let stop : c.from_residual.result ≡ Err c.in_err-take_line.field-0.0 = search rules in
    let stopped = read_stop c.args.shapes.now c.args.bytes.now c.loop-at.rest.now c.in-Some.line.now c.in-Some.after.now c.loop-at.number c.in-Some.at (ranked_if c.args.shapes.now.ranked c.loop-at.tables.policy) c.loop-at.invariant.reads c.in-Some.ensures.first
    c.given_number.result c.in_err-take_line.field-0.0 c.given_number.ensures c.in_err-take_line.ensures.fault in
    let utf8 : IsUtf8 c.args.bytes.now = search rules in
    rw stop (λ other. (text_read c.args.shapes.now c.args.bytes.now).has c.in_err-take_line.field-0.0 utf8 (stopped other))

pub returns-in_err-take_line-clause-only_fault : goal.returns-in_err-take_line-clause-only_fault
returns-in_err-take_line-clause-only_fault c = λ first is.
    let stop : c.from_residual.result ≡ Err c.in_err-take_line.field-0.0 = search rules in
    let stopped = read_stop c.args.shapes.now c.args.bytes.now c.loop-at.rest.now c.in-Some.line.now c.in-Some.after.now c.loop-at.number c.in-Some.at (ranked_if c.args.shapes.now.ranked c.loop-at.tables.policy) c.loop-at.invariant.reads c.in-Some.ensures.first
    c.given_number.result c.in_err-take_line.field-0.0 c.given_number.ensures c.in_err-take_line.ensures.fault in
    let utf8 : IsUtf8 c.args.bytes.now = search rules in
    rw stop (λ other. stop_is_first (text_read c.args.shapes.now c.args.bytes.now) c.in_err-take_line.field-0.0 first utf8 (stopped other) is)

pub returns-clause-found : goal.returns-clause-found
returns-clause-found c =
    let end : whole c.args.shapes.now c.args.bytes.now ≡ Ok c.in_ok-ranked_if.field-0.policy
    = sym c.loop-at.invariant.reads ∙ ap (λ (lines : List Line). reading c.args.shapes.now lines (ranked_if c.args.shapes.now.ranked c.loop-at.tables.policy)) c.in_default-next_full_line.ensures.none ∙ reading_none c.args.shapes.now (ranked_if c.args.shapes.now.ranked c.loop-at.tables.policy)
    ∙ ap (λ (p : Policy). Ok p) (sym c.in_ok-ranked_if.ensures) in
    let utf8 : IsUtf8 c.args.bytes.now = search rules in
    (text_read c.args.shapes.now c.args.bytes.now).says c.in_ok-ranked_if.field-0.policy utf8 end

pub returns-clause-only : goal.returns-clause-only
returns-clause-only c = λ policy is.
    let end : whole c.args.shapes.now c.args.bytes.now ≡ Ok c.in_ok-ranked_if.field-0.policy
    = sym c.loop-at.invariant.reads ∙ ap (λ (lines : List Line). reading c.args.shapes.now lines (ranked_if c.args.shapes.now.ranked c.loop-at.tables.policy)) c.in_default-next_full_line.ensures.none ∙ reading_none c.args.shapes.now (ranked_if c.args.shapes.now.ranked c.loop-at.tables.policy)
    ∙ ap (λ (p : Policy). Ok p) (sym c.in_ok-ranked_if.ensures) in
    end_is_value (text_read c.args.shapes.now c.args.bytes.now) c.in_ok-ranked_if.field-0.policy policy end is

pub returns-clause-only_fault : goal.returns-clause-only_fault
returns-clause-only_fault c = λ first is.
    let end : whole c.args.shapes.now c.args.bytes.now ≡ Ok c.in_ok-ranked_if.field-0.policy
    = sym c.loop-at.invariant.reads ∙ ap (λ (lines : List Line). reading c.args.shapes.now lines (ranked_if c.args.shapes.now.ranked c.loop-at.tables.policy)) c.in_default-next_full_line.ensures.none ∙ reading_none c.args.shapes.now (ranked_if c.args.shapes.now.ranked c.loop-at.tables.policy)
    ∙ ap (λ (p : Policy). Ok p) (sym c.in_ok-ranked_if.ensures) in
    let utf8 : IsUtf8 c.args.bytes.now = search rules in
    no_fault (text_read c.args.shapes.now c.args.bytes.now) c.in_ok-ranked_if.field-0.policy first utf8 end is
