use Rattle.std.proofs.Common.{◌≡◌, ◌∙◌, [], ap, arith, length, subst, sym}
use Rattle.std.proofs.lemmas.Option.{get_or_from_slice_get}
use Rattle.policy_table.specs.Tables.{Fields}
use Rattle.role_meaning.specs.Links.{user_of}
use Rattle.role_graph.proofs.removal.user_at.Goals as goal

pub text-requires : goal.text-requires
text-requires c =
    let two : length c.row_at.result.now ≡ 2 = subst (λ (row : Fields). length row ≡ 2) (sym c.row_at.ensures) (c.requires.two c.args.at [] c.requires.at) in
    omega (arith, two)

pub returns : goal.returns
returns c = sym (get_or_from_slice_get c.row_at.result.now 0 c.text.result.now [] c.text.ensures.value) ∙ ap user_of c.row_at.ensures
