use Rattle.std.proofs.Common.{◌∙◌, ◌<◌, ◌+◌, ◌^◌, ℕ, List, [], ◌∷◌, get_or, length, ap, arith, sym, subst}
use Rattle.std.proofs.lemmas.Option.{get_or_from_slice_get}
use Rattle.std.specs.Option.{option_copied}
use Rattle.perm_base.specs.declared.shapes.TableId.TheVariants.{P}
use Rattle.policy_table.specs.Tables.{Fields, rows}
use Rattle.matcher_meaning.specs.Order.{in_order_of, numbered, numbered_from}
use Rattle.decision.specs.Helps.Covers.{AreInTable, rows_left}
use Rattle.decision.proofs.CoverLemmas.{places_behind, rows_at}
use Rattle.decision.proofs.candidates.Candidates.next.Goals as goal
use Rattle.decision.proofs.candidates.Candidates.next.Goals.{In_default}

-- what is kept, where all rows are looked at and where some are
all_kept : (c : In_default) → c.self.inside.passed + length c.self.inside.rows < 2 ^ 32
all_kept c = subst (AreInTable (rows c.self.inside.tables.now.policy P) c.self.inside.rows c.self.inside.passed) (ap option_copied c.in_default.is) c.self.invariant

pub overflow_add-self : goal.overflow_add-self
overflow_add-self c = omega (arith, all_kept (goal.at.overflow_add-self c).In_default, ap length c.in-Some-next.ensures.steps)

pub row-row-requires : goal.row-row-requires
row-row-requires c =
    let inside = subst (AreInTable (rows c.self.inside.tables.now.policy P) c.self.inside.rows c.self.inside.passed) (ap option_copied c.in-Some.is) c.self.invariant in
    subst (λ (place : ℕ). place < length (rows c.self.inside.tables.now.policy P)) (ap (λ (l : List ℕ). get_or l 0 0) c.in-Some-split_first.ensures.cases.0) (inside.1 0 0 (omega (arith, ap length c.in-Some-split_first.ensures.cases.0)))

pub invariant_of-self-2 : goal.invariant_of-self-2
invariant_of-self-2 c =
    let inside = subst (AreInTable (rows c.self.inside.tables.now.policy P) c.self.inside.rows c.self.inside.passed) (ap option_copied c.in-Some.is) c.self.invariant in
    (inside.0, places_behind (rows c.self.inside.tables.now.policy P) c.in-Some.places.now c.in-Some-split_first.places.now c.in-Some-split_first.place.now c.in-Some-split_first.ensures.cases.0 inside.1)

pub returns : goal.returns
returns c =
    let table = rows c.self.inside.tables.now.policy P in
    let inside = subst (AreInTable table c.self.inside.rows c.self.inside.passed) (ap option_copied c.in-Some.is) c.self.invariant in
    sym c.self.view_is
    ∙ ap (rows_left table c.self.inside.rows c.self.inside.passed) (ap option_copied c.in-Some.is)
    ∙ rows_at table c.in-Some.places.now c.in-Some-split_first.places.now c.in-Some-split_first.place.now [] c.in-Some-split_first.ensures.cases.0 inside.1
    ∙ ap (λ (rule : Fields). numbered (c.in-Some-split_first.place.now + 1) rule ∷ in_order_of c.in-Some-split_first.places.now (numbered_from 1 table)) (get_or_from_slice_get table c.in-Some-split_first.place.now c.row-row.result.now [] c.row-row.ensures)
