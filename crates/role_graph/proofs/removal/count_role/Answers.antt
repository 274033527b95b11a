use Rattle.std.proofs.Common.{◌≡◌, ◌+◌, ◌<◌, ◌^◌, ◌∙◌, [], ℕ, List, cond, ap, arith, get_or, length, rules, subst, sym}
use Rattle.std.specs.Str.{bytes_eq}
use Rattle.std.proofs.lemmas.Option.{get_or_from_slice_get}
use Rattle.perm_base.specs.LineEnds.{has_line_end}
use Rattle.policy_table.specs.Tables.{Fields}
use Rattle.role_meaning.specs.Links.{role_of}
use Rattle.role_graph.specs.Helps.Roles.{number_in}
use Rattle.role_graph.proofs.Removals.{counted_step, user_and_role}
use Rattle.role_graph.proofs.removal.count_role.Goals as goal

pub text-role-requires : goal.text-role-requires
text-role-requires c =
    let two : length c.row_at.result.now ≡ 2 = subst (λ (row : Fields). length row ≡ 2) (sym c.row_at.ensures) (c.requires.two c.args.at [] c.requires.at) in
    omega (arith, two)

pub add-requires-clause-few : goal.add-requires-clause-few
add-requires-clause-few c =
    let name : List ℕ = c.in_ok-from_str.field-0 in
    let small : length c.args.rows.now < 2 ^ 64 = search rules in
    omega (arith, small, c.requires.at, c.requires.few name, ap (λ (entries : List (List ℕ × ℕ)). number_in entries name) c.in_ok-reserve.ensures.same)

pub add-requires-clause-whole_line : goal.add-requires-clause-whole_line
add-requires-clause-whole_line c = ap has_line_end c.in_ok-from_str.ensures ∙ c.text-role.ensures.whole_line

pub returns : goal.returns
returns c = λ one.
    let role = c.text-role.result.now in
    let is : get_or c.args.rows.now c.args.at [] ≡ c.row_at.result.now = sym c.row_at.ensures in
    counted_step c.args.rows.now c.args.at c.args._user.now role c.args.gone.now c.add.new.self c.requires.at
    (user_and_role (get_or c.args.rows.now c.args.at []) c.args._user.now role (c.requires.two c.args.at [] c.requires.at) c.requires.user (ap role_of is ∙ get_or_from_slice_get c.row_at.result.now 1 role [] c.text-role.ensures.value))
    (λ name. c.add.ensures.counted name
    ∙ ap (λ (entries : List (List ℕ × ℕ)). number_in entries name + cond (bytes_eq name c.in_ok-from_str.field-0) 1 0) c.in_ok-reserve.ensures.same
    ∙ ap (λ (text : List ℕ). number_in c.args.gone.now.entries name + cond (bytes_eq name text) 1 0) c.in_ok-from_str.ensures) one
