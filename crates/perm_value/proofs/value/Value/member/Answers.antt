use Rattle.std.proofs.Common.{◌≡◌, ◌∙◌, sym, ap, option_map}
use Rattle.perm_value.specs.Attribute.{attribute}
use Rattle.perm_value.specs.Seen.{datum}
use Rattle.perm_value.proofs.AttributeLemmas.{exact_answer}
use Rattle.perm_value.proofs.MemberLemmas.{datum-lookup, datum-copied, datum_of_object}
use Rattle.perm_value.proofs.RisingLemmas.{names_rise}
use Rattle.perm_value.proofs.value.Value.member.Goals as goal

pub returns-in-Object : goal.returns-in-Object
returns-in-Object c =
    let value : option_map (λ v. datum v.now) c.get.result ≡ attribute (datum c.args.self.now) c.args.name.now =
    datum-copied c.get.result ∙ ap (option_map datum) c.get.ensures.value ∙ datum-lookup c.args.name.now c.in-Object.members.entries
    ∙ ap (λ d. attribute d c.args.name.now) (sym (datum_of_object c.args.self.now c.in-Object.members c.in-Object.is)) in record {
      value = value;
      exact = exact_answer (datum c.args.self.now) (names_rise c.args.self.now) c.args.name.now _ value;
    }
