use Rattle.std.proofs.Common.{rules, arith, refl, ◌≡◌, false, true, sym, subst, ◌∙◌}
use Rattle.std.proofs.lemmas.Option.{slice_get_read}
use Rattle.edit_calls.specs.Helps.ToldRules.{AreTold}
use Rattle.edit_calls.proofs.StandingLemmas.{goes_on, made_behind, none_applies, none_told, stops}
use Rattle.edit_calls.proofs.admitted.told_apply.Goals as goal

pub loop-change-init : goal.loop-change-init
loop-change-init c = record {
  front = none_applies _;
  told = none_told _ _ c.kept.ensures.lists (search rules);
}

pub returns-then-not-branch : goal.returns-then-not-branch
returns-then-not-branch c =
    let at = c.loop-change.change-index in
    let here = slice_get_read c.args.changes.now _ at c.change-item.result refl (omega arith) c.change-item.is in
    let fails : c.in_ok-tell_change.field-0 ≡ false = search rules in
    stops _ at _ here _ c.loop-change.invariant.front (sym (c.in_ok-tell_change.ensures.possible _ c.loop-change.invariant.told) ∙ fails)

pub loop-change-preserved : goal.loop-change-preserved
loop-change-preserved c =
    let at = c.loop-change.change-index in
    let here = slice_get_read c.args.changes.now _ at c.change-item.result refl (omega arith) c.change-item.is in
    let passes : c.in_ok-tell_change.field-0 ≡ true = search rules in
    let possible = sym (c.in_ok-tell_change.ensures.possible _ c.loop-change.invariant.told) ∙ passes in
    record {
      front = goes_on _ at _ here _ c.loop-change.invariant.front possible;
      told = subst (AreTold c.tell_change.new.told.entries c.args.tables.now.policy) (sym (made_behind _ at _ here _ c.loop-change.invariant.front))
          (c.in_ok-tell_change.ensures.told passes _ c.loop-change.invariant.told);
    }
