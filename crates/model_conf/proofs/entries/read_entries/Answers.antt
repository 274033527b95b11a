use Rattle.std.proofs.Common.{◌∙◌, sym, rules, arith}
use Rattle.std.proofs.lemmas.Result.{err_from_is_err_and}
use Rattle.model_conf.specs.Helps.Seen.{standing_seen}
use Rattle.model_conf.proofs.ReadLemmas.{read_all, read_passed, read_stopped, read_taken}
use Rattle.model_conf.proofs.entries.read_entries.Goals as goal

pub loop-line-preserved-then-is_passed_in_model : goal.loop-line-preserved-then-is_passed_in_model
loop-line-preserved-then-is_passed_in_model c = record {
  utf8 = search rules;
  read = read_passed c.args.text.now c.loop-line.rest.now c.in-Some.after.now c.in-Some.line.now c.loop-line.number _ c.loop-line.invariant.read c.in-Some.ensures.first (sym c.is_passed_in_model.ensures ∙ c.if-is_passed_in_model.true);
  few = omega (arith, c.in-Some.ensures.shorter, c.loop-line.invariant.few);
}

pub returns-in_err-behind : goal.returns-in_err-behind
returns-in_err-behind c =
    let p = err_from_is_err_and c.from_residual.result c.from_residual.ensures.1 in
    rw (p.1, p.2) (λ other. read_stopped c.args.text.now c.loop-line.rest.now c.in-Some.after.now c.in-Some.line.now c.loop-line.number (standing_seen c.loop-line.entries) (standing_seen c.take_lines.new.self) c.in_err-behind.field-0.0 c.loop-line.invariant.read c.in-Some.ensures.first (sym c.is_passed_in_model.ensures ∙ c.if-is_passed_in_model.false) c.in_err-behind.ensures.taken other)

pub loop-line-preserved : goal.loop-line-preserved
loop-line-preserved c = record {
  utf8 = search rules;
  read = read_taken c.args.text.now c.loop-line.rest.now c.in-Some.after.now c.in-Some.line.now c.in_ok-behind.behind c.loop-line.number c.in_ok-behind.next _ _ c.loop-line.invariant.read c.in-Some.ensures.first (sym c.is_passed_in_model.ensures ∙ c.if-is_passed_in_model.false) c.in_ok-behind.ensures.taken;
  few = omega (arith, c.in-Some.ensures.shorter, c.loop-line.invariant.few, c.in_ok-behind.ensures.fewer);
}

pub returns : goal.returns
returns c = read_all c.args.text.now c.loop-line.rest.now c.loop-line.number _ c.loop-line.invariant.read c.in_default.ensures.none
