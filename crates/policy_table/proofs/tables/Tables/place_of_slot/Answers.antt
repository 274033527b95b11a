use Rattle.std.proofs.Common.{◌<◌, List, length, slice_get, arith, ap, sym, subst, ◌∙◌}
use Rattle.policy_table.specs.Tables.{Fields}
use Rattle.policy_table.proofs.TableLemmas.{found_rows, found_slots, nowhere_slots}
use Rattle.policy_table.proofs.tables.Tables.place_of_slot.Goals as goal

pub unreachable-requires : goal.unreachable-requires
unreachable-requires c = absurd (omega (arith, c.requires, ap length (nowhere_slots c.args.self.now c.args.table (sym c.place.ensures ∙ c.in_default.is))))

pub place_of_slot-requires : goal.place_of_slot-requires
place_of_slot-requires c =
    subst (λ (l : List Fields). c.args.slot < length l) (found_slots c.args.table c.in-Some.there _ c.index-self-there.result c.self.invariant c.self.view_is c.place.ensures c.in-Some.is) c.requires

pub returns-clause-within : goal.returns-clause-within
returns-clause-within c =
    subst (λ (l : List Fields). c.place_of_slot.result < length l) (sym (found_rows c.args.table c.in-Some.there _ c.index-self-there.result c.self.invariant c.self.view_is c.place.ensures c.in-Some.is)) c.place_of_slot.ensures.within

pub returns-clause-same : goal.returns-clause-same
returns-clause-same c =
    ap (λ (l : List Fields). slice_get l c.place_of_slot.result) (found_rows c.args.table c.in-Some.there _ c.index-self-there.result c.self.invariant c.self.view_is c.place.ensures c.in-Some.is)
    ∙ c.place_of_slot.ensures.same
    ∙ sym (ap (λ (l : List Fields). slice_get l c.args.slot) (found_slots c.args.table c.in-Some.there _ c.index-self-there.result c.self.invariant c.self.view_is c.place.ensures c.in-Some.is))
