use Rattle.std.proofs.Common.{◌≤◌, ◌+◌, List, ℕ, length, map, take, sym, ap, subst, arith, rules}
use Rattle.std.proofs.lemmas.List.{length-map, take_all}
use Rattle.std.specs.List.{list_any}
use Rattle.std.specs.Str.{bytes_eq}
use Rattle.indexmap.specs.IndexSet.{contains}
use Rattle.policy_table.specs.Tables.{Fields}
use Rattle.policy_table.proofs.CallerLemmas.{next_row, no_more_rows}
use Rattle.role_meaning.specs.Links.{user_of}
use Rattle.role_graph.specs.Helps.Kept.{linked_of}
use Rattle.role_graph.specs.Helps.Users.{Chooses}
use Rattle.role_graph.proofs.LeadLemmas.{chooses_none, users_few, users_on, users_told, users_whole}
use Rattle.role_graph.proofs.users.users_among.Goals as goal
use Rattle.role_graph.proofs.users.users_among.Goals.{In-None}

pub loop-row-init : goal.loop-row-init
loop-row-init c = (0, search rules, chooses_none (linked_of c.args.links.now) c.args.x.now c.leading-leading.result (contains bytes_eq c.new-seen.result) c.new-users.result.items)

pub loop-row-preserved : goal.loop-row-preserved
loop-row-preserved c =
    let n = c.loop-row.invariant.0 in
    let row = next_row c.args.rows c.loop-row.row-iterator c.next.new.self n c.in-Some.row.now c.loop-row.invariant.1 c.in-Some.ensures.steps in (
      n + 1,
      row.behind,
      subst (λ (names : List (List ℕ)). Chooses (linked_of c.args.links.now) c.args.x.now c.leading-leading.result names (contains bytes_eq c.new-seen.result) (contains bytes_eq c.add_user.new.seen) c.new-users.result.items c.add_user.new.users.items)
          (sym (users_on c.args.rows n c.in-Some.row.now row.within row.is))
          (c.in_ok-add_user.ensures (map user_of (take n c.args.rows)) (contains bytes_eq c.new-seen.result) c.new-users.result.items c.loop-row.invariant.2),
    )

-- at the end no row is left
past : (c : In-None) → length c.args.rows ≤ c.loop-row.invariant.0
past c = no_more_rows c.args.rows c.loop-row.row-iterator c.loop-row.invariant.0 c.loop-row.invariant.1 c.in-None.ensures.steps.0

pub returns-clause-users : goal.returns-clause-users
returns-clause-users c =
    users_told (linked_of c.args.links.now) c.args.x.now c.leading-leading.result c.args.most (map user_of c.args.rows) (contains bytes_eq c.new-seen.result) (contains bytes_eq c.loop-row.seen) c.loop-row.users.items c.sort.new.texts.items
    c.leading-leading.ensures (λ y. ap (list_any (bytes_eq y)) c.new-seen.ensures.empty)
    (subst (λ (old : List (List ℕ)). Chooses (linked_of c.args.links.now) c.args.x.now c.leading-leading.result (map user_of c.args.rows) (contains bytes_eq c.new-seen.result) (contains bytes_eq c.loop-row.seen) old c.loop-row.users.items) c.new-users.ensures.items
    (subst (λ (rows : List Fields). Chooses (linked_of c.args.links.now) c.args.x.now c.leading-leading.result (map user_of rows) (contains bytes_eq c.new-seen.result) (contains bytes_eq c.loop-row.seen) c.new-users.result.items c.loop-row.users.items)
    (take_all c.loop-row.invariant.0 c.args.rows (past (goal.at.returns-clause-users c).In-None)) c.loop-row.invariant.2))
    c.sort.ensures.same c.in_ok-sort.ensures.rising

pub returns-clause-few : goal.returns-clause-few
returns-clause-few c =
    let few : length c.sort.new.texts.items ≤ length (map user_of c.args.rows) =
    users_few (linked_of c.args.links.now) c.args.x.now c.leading-leading.result c.args.most (map user_of c.args.rows) (contains bytes_eq c.new-seen.result) (contains bytes_eq c.loop-row.seen) c.loop-row.users.items c.sort.new.texts.items
    c.leading-leading.ensures (λ y. ap (list_any (bytes_eq y)) c.new-seen.ensures.empty)
    (subst (λ (old : List (List ℕ)). Chooses (linked_of c.args.links.now) c.args.x.now c.leading-leading.result (map user_of c.args.rows) (contains bytes_eq c.new-seen.result) (contains bytes_eq c.loop-row.seen) old c.loop-row.users.items) c.new-users.ensures.items
    (subst (λ (rows : List Fields). Chooses (linked_of c.args.links.now) c.args.x.now c.leading-leading.result (map user_of rows) (contains bytes_eq c.new-seen.result) (contains bytes_eq c.loop-row.seen) c.new-users.result.items c.loop-row.users.items)
    (take_all c.loop-row.invariant.0 c.args.rows (past (goal.at.returns-clause-few c).In-None)) c.loop-row.invariant.2))
    c.sort.ensures.same in
    omega (arith, few, length-map c.args.rows user_of, c.requires.few)

pub returns-clause-whole_lines : goal.returns-clause-whole_lines
returns-clause-whole_lines c =
    users_whole (linked_of c.args.links.now) c.args.x.now c.leading-leading.result c.args.most (map user_of c.args.rows) (contains bytes_eq c.new-seen.result) (contains bytes_eq c.loop-row.seen) c.loop-row.users.items c.sort.new.texts.items
    c.leading-leading.ensures (λ y. ap (list_any (bytes_eq y)) c.new-seen.ensures.empty)
    (subst (λ (old : List (List ℕ)). Chooses (linked_of c.args.links.now) c.args.x.now c.leading-leading.result (map user_of c.args.rows) (contains bytes_eq c.new-seen.result) (contains bytes_eq c.loop-row.seen) old c.loop-row.users.items) c.new-users.ensures.items
    (subst (λ (rows : List Fields). Chooses (linked_of c.args.links.now) c.args.x.now c.leading-leading.result (map user_of rows) (contains bytes_eq c.new-seen.result) (contains bytes_eq c.loop-row.seen) c.new-users.result.items c.loop-row.users.items)
    (take_all c.loop-row.invariant.0 c.args.rows (past (goal.at.returns-clause-whole_lines c).In-None)) c.loop-row.invariant.2))
    c.sort.ensures.same
