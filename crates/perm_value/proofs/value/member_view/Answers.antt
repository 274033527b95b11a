use Rattle.std.proofs.Common.{◌∙◌, sym, ap, Some, option_map}
use Rattle.std.specs.Option.{option_copied}
use Rattle.perm_value.specs.Seen.{datum}
use Rattle.perm_value.proofs.MemberLemmas.{datum-lookup}
use Rattle.perm_value.proofs.value.member_view.Goals as goal

pub returns-in-Some : goal.returns-in-Some
returns-in-Some c =
    ap Some c.view.ensures ∙ ap (λ r. option_map datum (option_copied r)) (sym c.in-Some.is) ∙ ap (option_map datum) c.get.ensures.value
    ∙ datum-lookup c.args.name.now c.args.object.now.entries

pub returns-in-None : goal.returns-in-None
returns-in-None c =
    ap (λ r. option_map datum (option_copied r)) (sym c.in-None.is) ∙ ap (option_map datum) c.get.ensures.value ∙ datum-lookup c.args.name.now c.args.object.now.entries
