use Rattle.std.proofs.Common.{◌≡◌, ◌∙◌, ◌≤◌, ◌+◌, ◌++◌, List, ℕ, length, ap, sym, subst, arith}
use Rattle.policy_table.specs.Tables.{Fields}
use Rattle.role_graph.specs.Graph.{Graph}
use Rattle.role_graph.specs.Groups.{Group, after, rows_of, times}
use Rattle.role_graph.specs.Helps.Kept.{linked_of}
use Rattle.role_graph.proofs.PrepareLemmas.{prepared_for, prepared_times, stands_now}
use Rattle.role_graph.proofs.graph.RoleGraph.prepare.Goals as goal

pub remove_all-requires-clause-stand : goal.remove_all-requires-clause-stand
remove_all-requires-clause-stand c = λ row.
    subst (λ (n : ℕ). times row c.args.remove.now ≤ n)
    (ap (λ (graph : Graph). times row graph.rows) (sym c.self.view_is) ∙ stands_now c.self.inside.links c.new-edits.result c.self.invariant.links c.new-edits.ensures row) (c.requires.stand row)

pub returns-clause-rows : goal.returns-clause-rows
returns-clause-rows c = λ row.
    ap (λ (groups : List Group). times row (after groups c.args.self.now.rows) + times row c.args.remove.now) c.new.ensures.changed
    ∙ subst (λ (graph : Graph). times row (after c.add_all.new.edits graph.rows) + times row c.args.remove.now ≡ times row graph.rows + times row c.args.insert.now) c.self.view_is
    (prepared_times c.self.inside.links c.new-edits.result c.remove_all.new.edits c.add_all.new.edits c.args.insert.now c.args.remove.now c.self.invariant.links c.new-edits.ensures c.len.ensures.apart
    c.in_ok-remove_all.ensures c.in_ok-add_all.ensures row)

pub returns-clause-good : goal.returns-clause-good
returns-clause-good c =
    let rows : rows_of (c.reserve.new.self.plain.groups ++ c.reserve.new.self.patterned.groups) ≡ rows_of (linked_of c.self.inside.links).groups =
    ap (λ (groups : List Group). rows_of (groups ++ c.reserve.new.self.patterned.groups)) c.in_ok-reserve.ensures.plain
    ∙ ap (λ (groups : List Group). rows_of (c.self.inside.links.plain.groups ++ groups)) c.in_ok-reserve.ensures.patterned in
    let equal : (one : Fields) → times one (after c.add_all.new.edits (rows_of (linked_of c.self.inside.links).groups)) + times one c.args.remove.now ≡ times one (rows_of (linked_of c.self.inside.links).groups) + times one c.args.insert.now =
    prepared_times c.self.inside.links c.new-edits.result c.remove_all.new.edits c.add_all.new.edits c.args.insert.now c.args.remove.now c.self.invariant.links c.new-edits.ensures c.len.ensures.apart c.in_ok-remove_all.ensures c.in_ok-add_all.ensures in
    prepared_for _ c.new.result (rows_of (linked_of c.self.inside.links).groups) c.add_all.new.edits c.in_ok-added.added c.in_ok-removed.removed.items c.args.insert.now c.args.remove.now
    rows c.new.ensures.changed c.new.ensures.added c.new.ensures.removed c.in_ok-added.ensures.whole_lines c.in_ok-added.ensures.names c.in_ok-removed.ensures c.len.ensures.apart
    (omega (arith, c.len.ensures.count, c.in_ok-reserve.ensures.room.plain, c.in_ok-reserve.ensures.room.patterned))
    (omega (arith, c.len-2.ensures.count, c.in_ok-reserve-2.ensures.room)) equal
    (subst (λ (graph : Graph). length graph.rows + length c.args.insert.now ≤ 200000 + length c.args.remove.now) (sym c.self.view_is) c.requires.few)
