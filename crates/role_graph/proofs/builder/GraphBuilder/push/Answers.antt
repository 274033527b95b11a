use Rattle.std.proofs.Common.{◌≡◌, ◌<◌, ◌+◌, [], ◌∙◌, ℕ, List, ap, length, refl, subst, sym}
use Rattle.std.proofs.lemmas.Option.{get_or_from_slice_get}
use Rattle.std.specs.Str.{bytes_eq}
use Rattle.policy_table.specs.Tables.{Fields, same}
use Rattle.role_graph.specs.Built.{Built, IsCounted}
use Rattle.role_graph.specs.Groups.{row, rows_of, times}
use Rattle.role_graph.specs.Helps.Kept.{linked_of}
use Rattle.role_graph.specs.Helps.Roles.{count_of}
use Rattle.role_graph.proofs.BuildLemmas.{can_count_more, pushed_counted, pushed_long, pushed_pair}
use Rattle.role_graph.proofs.EditLemmas.{once}
use Rattle.role_meaning.specs.Links.{role_of, user_of}
use Rattle.role_graph.proofs.builder.GraphBuilder.push.Goals as goal

pub add-requires : goal.add-requires
add-requires c = subst (λ (built : Built). length built.rows < 200000) (sym c.self.view_is) c.requires.few

pub add_text-requires-clause-few : goal.add_text-requires-clause-few
add_text-requires-clause-few c = can_count_more _ c.text-3.result.now (subst IsCounted (sym c.self.view_is) c.requires.counted)

pub returns-clause-rows : goal.returns-clause-rows
returns-clause-rows c = λ one.
    let rule : Fields = c.args.rule.now in
    let user : user_of rule ≡ c.text.result.now = get_or_from_slice_get rule 0 c.text.result.now [] c.text.ensures.value in
    let role : role_of rule ≡ c.text-2.result.now = get_or_from_slice_get rule 1 c.text-2.result.now [] c.text-2.ensures.value in
    pushed_pair rule c.text.result.now c.text-2.result.now (rows_of (linked_of c.self.inside.links).groups) (rows_of (linked_of c.add.new.self).groups) user role c.in_ok-add.ensures.rows one
    ∙ ap (λ (built : Built). times one built.rows + once (same one (row (user_of rule) (role_of rule)))) c.self.view_is

pub returns-clause-long : goal.returns-clause-long
returns-clause-long c =
    let rule : Fields = c.args.rule.now in
    let user : user_of rule ≡ c.text.result.now = get_or_from_slice_get rule 0 c.text.result.now [] c.text.ensures.value in
    let role : role_of rule ≡ c.text-2.result.now = get_or_from_slice_get rule 1 c.text-2.result.now [] c.text-2.ensures.value in
    pushed_long _ _ (row (user_of rule) (role_of rule))
    (pushed_pair rule c.text.result.now c.text-2.result.now (rows_of (linked_of c.self.inside.links).groups) (rows_of (linked_of c.add.new.self).groups) user role c.in_ok-add.ensures.rows)
    ∙ ap (λ (built : Built). length built.rows + 1) c.self.view_is

pub returns-clause-counted : goal.returns-clause-counted
returns-clause-counted c =
    let rule : Fields = c.args.rule.now in
    let user : user_of rule ≡ c.text.result.now = get_or_from_slice_get rule 0 c.text.result.now [] c.text.ensures.value in
    let role : role_of rule ≡ c.text-2.result.now = get_or_from_slice_get rule 1 c.text-2.result.now [] c.text-2.ensures.value in
    let counted : role_of rule ≡ c.text-3.result.now = get_or_from_slice_get rule 1 c.text-3.result.now [] c.text-3.ensures.value in
    let old : Built = record {
      rows = rows_of (linked_of c.self.inside.links).groups;
      names = c.self.inside.links.names;
      limit = c.self.inside.limit;
      roles = c.self.inside.roles;
      count = c.self.inside.count;
    } in
    pushed_counted old _ (row (user_of rule) (role_of rule)) (subst IsCounted (sym c.self.view_is) c.requires.counted) (subst (λ (built : Built). length built.rows < 200000) (sym c.self.view_is) c.requires.few)
    (pushed_pair rule c.text.result.now c.text-2.result.now (rows_of (linked_of c.self.inside.links).groups) (rows_of (linked_of c.add.new.self).groups) user role c.in_ok-add.ensures.rows)
    (λ name. c.in_ok-add_text.ensures name ∙ ap (λ (text : List ℕ). count_of c.self.inside.roles name + once (bytes_eq name text)) (sym counted)) refl
