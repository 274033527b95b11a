use Rattle.std.proofs.Common.{◌≡◌, ◌≤◌, ◌+◌, ℕ, Some, true, sym, ap, subst, ◌∙◌, refl, [], ◌∷◌, get_or}
use Rattle.std.proofs.Math.ListN.{set}
use Rattle.policy_table.specs.Changes.{changed, is_possible, table_of}
use Rattle.policy_table.specs.Held.{HasRoom, Held, needed}
use Rattle.policy_table.specs.Helps.Rows.{policy_of, spare_of}
use Rattle.policy_table.specs.Slots.{slots_changed}
use Rattle.policy_table.specs.Tables.{is_ranked, place}
use Rattle.policy_table.proofs.CommitLemmas.{rest_prepared, tables_changed}
use Rattle.policy_table.proofs.LawLemmas.{first_possible, order_of}
use Rattle.policy_table.proofs.TableLemmas.{counted_after, found_few_tables, found_within, has_place, may_here, policy_after, rise_here, room_after, room_needed, slots_made}
use Rattle.policy_table.proofs.tables.Tables.make.Goals as goal
use Rattle.policy_table.proofs.tables.Tables.make.Goals.{After-place, In-Some, After-is_ranked-ranked}

-- the change is possible in the tables
possible : (c : After-place) → is_possible c.args.step c.args.self.now.policy ≡ true
possible c = first_possible c.args.step c.requires.0 c.args.self.now.policy c.requires.1.possible

can : (c : After-is_ranked-ranked) → is_possible c.args.step (policy_of c.self.inside.ranked c.self.inside.tables) ≡ true
can c = ap (λ (h : Held). is_possible c.args.step h.policy) c.self.view_is ∙ first_possible c.args.step c.requires.0 c.args.self.now.policy c.requires.1.possible

-- and its table has the place that was found
here : (c : In-Some) → place (table_of c.args.step) ≡ Some c.in-Some.at
here c = sym (ap place c.table-table.ensures) ∙ sym c.place.ensures ∙ c.in-Some.is

-- and is ranked as it was found
told : (c : After-is_ranked-ranked) → c.is_ranked-ranked.result ≡ is_ranked (policy_of c.self.inside.ranked c.self.inside.tables) (table_of c.args.step)
told c =
    let policy = policy_of c.self.inside.ranked c.self.inside.tables in
    c.is_ranked-ranked.ensures policy refl ∙ ap (is_ranked policy) c.table-table.ensures

pub unreachable-requires : goal.unreachable-requires
unreachable-requires c = has_place c.args.step c.args.self.now.policy (possible (goal.at.unreachable-requires c).After-place)
    (sym (ap place c.table-table.ensures) ∙ sym c.place.ensures ∙ c.in_default.is)

pub make-requires-clause-rising : goal.make-requires-clause-rising
make-requires-clause-rising c =
    rise_here c.self.inside.ranked _ c.self.inside.tables c.in-Some.at _ (table_of c.args.step) (here (goal.at.make-requires-clause-rising c).In-Some)
    (found_within (table_of c.args.step) c.in-Some.at _ c.self.invariant (sym (here (goal.at.make-requires-clause-rising c).In-Some)) refl)
    (order_of (policy_of c.self.inside.ranked c.self.inside.tables) c.self.invariant.kept) (told (goal.at.make-requires-clause-rising c).After-is_ranked-ranked)

pub make-requires-clause-possible : goal.make-requires-clause-possible
make-requires-clause-possible c =
    may_here c.self.inside.ranked c.self.inside.tables c.in-Some.at _ c.args.step (here (goal.at.make-requires-clause-possible c).In-Some)
    (found_within (table_of c.args.step) c.in-Some.at _ c.self.invariant (sym (here (goal.at.make-requires-clause-possible c).In-Some)) refl)
    (can (goal.at.make-requires-clause-possible c).After-is_ranked-ranked)

pub make-requires-clause-room : goal.make-requires-clause-room
make-requires-clause-room c =
    room_needed c.self.inside.tables c.in-Some.at _ c.args.step c.requires.0 (here (goal.at.make-requires-clause-room c).In-Some)
    (found_within (table_of c.args.step) c.in-Some.at _ c.self.invariant (sym (here (goal.at.make-requires-clause-room c).In-Some)) refl)
    (found_few_tables (table_of c.args.step) c.in-Some.at _ c.self.invariant (sym (here (goal.at.make-requires-clause-room c).In-Some)) refl)
    (subst (λ (h : Held). HasRoom h.spare (c.args.step ∷ c.requires.0)) (sym c.self.view_is) c.requires.1.room)

pub invariant_of-self : goal.invariant_of-self
invariant_of-self c =
    let there = here (goal.at.invariant_of-self c).In-Some in
    let within = found_within (table_of c.args.step) c.in-Some.at _ c.self.invariant (sym there) refl in
    tables_changed c.self.inside.ranked c.self.inside.tables c.in-Some.at c.make.new.self c.args.step c.self.invariant (can (goal.at.invariant_of-self c).After-is_ranked-ranked)
    (policy_after c.self.inside.ranked _ c.self.inside.tables c.in-Some.at c.make.new.self _ c.args.step there within (told (goal.at.invariant_of-self c).After-is_ranked-ranked) c.make.ensures.rules)
    c.make.ensures.few (counted_after c.self.inside.tables c.in-Some.at c.make.new.self _ within c.make.ensures.counted)

pub returns-clause-policy : goal.returns-clause-policy
returns-clause-policy c =
    let there = here (goal.at.returns-clause-policy c).In-Some in
    let within = found_within (table_of c.args.step) c.in-Some.at _ c.self.invariant (sym there) refl in
    policy_after c.self.inside.ranked _ c.self.inside.tables c.in-Some.at c.make.new.self _ c.args.step there within (told (goal.at.returns-clause-policy c).After-is_ranked-ranked) c.make.ensures.rules
    ∙ ap (λ (h : Held). changed c.args.step h.policy) c.self.view_is

pub returns-clause-slots : goal.returns-clause-slots
returns-clause-slots c =
    let there = here (goal.at.returns-clause-slots c).In-Some in
    let within = found_within (table_of c.args.step) c.in-Some.at _ c.self.invariant (sym there) refl in
    slots_made c.self.inside.tables c.in-Some.at c.make.new.self _ c.args.step there within c.make.ensures.slots ∙ ap (λ (h : Held). slots_changed c.args.step h.slots) c.self.view_is

pub returns-clause-ready : goal.returns-clause-ready
returns-clause-ready c =
    let there = here (goal.at.returns-clause-ready c).In-Some in
    let within = found_within (table_of c.args.step) c.in-Some.at _ c.self.invariant (sym there) refl in
    λ changes ready. rest_prepared c.args.self.now _ c.args.step changes ready
    (policy_after c.self.inside.ranked _ c.self.inside.tables c.in-Some.at c.make.new.self _ c.args.step there within (told (goal.at.returns-clause-ready c).After-is_ranked-ranked) c.make.ensures.rules
    ∙ ap (λ (h : Held). changed c.args.step h.policy) c.self.view_is)
    (subst (λ (h : Held). (i : ℕ) → get_or h.spare i 0 ≤ get_or (spare_of (set c.self.inside.tables c.in-Some.at c.make.new.self)) i 0 + needed i (c.args.step ∷ [])) c.self.view_is
    (room_after c.self.inside.tables c.in-Some.at c.make.new.self _ c.args.step there within c.make.ensures.spare))
