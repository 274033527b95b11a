use Rattle.std.proofs.Common.{◌≡◌, ap, arith, length, refl, subst, sym, true}
use Rattle.policy_table.specs.Changes.{flat}
use Rattle.policy_index.specs.Indexed.{Indexed, all_fit}
use Rattle.policy_index.proofs.CommitLemmas.{ready_more}
use Rattle.policy_index.proofs.index.Index.prepare.Goals as goal

pub reserve-requires : goal.reserve-requires
reserve-requires c = subst (λ (i : Indexed). all_fit i.key (flat c.args.edits.now) ≡ true) (sym c.self.view_is) c.requires.columns

pub returns-in_err-reserve-clause-others : goal.returns-in_err-reserve-clause-others
returns-in_err-reserve-clause-others c = ready_more c.args.self.now _ _ _ _ _ _ _ c.self.view_is refl (omega arith) c.reserve.ensures.more

pub returns-in_err-taken-clause-others : goal.returns-in_err-taken-clause-others
returns-in_err-taken-clause-others c = ready_more c.args.self.now _ _ _ _ _ _ _ c.self.view_is refl (omega arith) c.reserve.ensures.more

pub returns-then-taken-len-clause-others : goal.returns-then-taken-len-clause-others
returns-then-taken-len-clause-others c = ready_more c.args.self.now _ _ _ _ _ _ _ c.self.view_is refl (omega arith) c.reserve.ensures.more

pub returns-in_err-reserve-2-clause-others : goal.returns-in_err-reserve-2-clause-others
returns-in_err-reserve-2-clause-others c = ready_more c.args.self.now _ _ _ _ _ _ _ c.self.view_is c.reserve-2.ensures.items (omega (arith, c.reserve-2.ensures.capacity, c.reserve-2.ensures.len)) c.reserve.ensures.more

pub returns-in_err-reserve-3-clause-others : goal.returns-in_err-reserve-3-clause-others
returns-in_err-reserve-3-clause-others c = ready_more c.args.self.now _ _ _ _ _ _ _ c.self.view_is c.reserve-2.ensures.items (omega (arith, c.reserve-2.ensures.capacity, c.reserve-2.ensures.len, c.reserve-3.ensures.capacity, c.reserve-3.ensures.len)) c.reserve.ensures.more

pub returns-in_err-reserve-4-clause-others : goal.returns-in_err-reserve-4-clause-others
returns-in_err-reserve-4-clause-others c = ready_more c.args.self.now _ _ _ _ _ _ _ c.self.view_is c.reserve-2.ensures.items (omega (arith, c.reserve-2.ensures.capacity, c.reserve-2.ensures.len, c.reserve-3.ensures.capacity, c.reserve-3.ensures.len)) c.reserve.ensures.more

pub returns-clause-others : goal.returns-clause-others
returns-clause-others c = ready_more c.args.self.now _ _ _ _ _ _ _ c.self.view_is c.reserve-2.ensures.items (omega (arith, c.reserve-2.ensures.capacity, c.reserve-2.ensures.len, c.reserve-3.ensures.capacity, c.reserve-3.ensures.len)) c.reserve.ensures.more

pub returns-clause-ready : goal.returns-clause-ready
returns-clause-ready c = record {
  columns = subst (λ (i : Indexed). all_fit i.key (flat c.args.edits.now) ≡ true) (sym c.self.view_is) c.requires.columns;
  few = omega (arith, c.if-taken-len.false, c.in_ok-taken.ensures, c.self.invariant.few, ap length c.reserve-2.ensures.items);
  spare = omega (arith, c.in_ok-reserve-2.ensures.ok, c.in_ok-reserve-3.ensures.ok, c.in_ok-taken.ensures);
  room = c.in_ok-reserve.ensures.room;
}
