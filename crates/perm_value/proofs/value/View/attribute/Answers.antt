use Rattle.std.proofs.Common.{◌≡◌, ◌∙◌, sym, ap, option_map}
use Rattle.perm_value.specs.Attribute.{attribute}
use Rattle.perm_value.specs.Seen.{datum_of_view}
use Rattle.perm_value.proofs.AttributeLemmas.{exact_answer}
use Rattle.perm_value.proofs.RisingLemmas.{view_names_rise}
use Rattle.perm_value.proofs.value.View.attribute.Goals as goal

pub returns-in-Object-clause-exact : goal.returns-in-Object-clause-exact
returns-in-Object-clause-exact c =
    let value : option_map datum_of_view c.member_view.result ≡ attribute (datum_of_view c.args.self.now) c.args.name.now =
    c.member_view.ensures ∙ ap (λ v. attribute (datum_of_view v) c.args.name.now) (sym c.in-Object.is) in
    exact_answer (datum_of_view c.args.self.now) (view_names_rise c.args.self.now) c.args.name.now _ value
