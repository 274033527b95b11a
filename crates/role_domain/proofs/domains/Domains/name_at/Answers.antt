use Rattle.std.proofs.Common.{[], get_or, ap, sym, ◌∙◌}
use Rattle.std.specs.Map.{keys_of}
use Rattle.role_domain.specs.Domains.{Domains}
use Rattle.role_domain.proofs.Keyed.{text_there}
use Rattle.role_domain.proofs.domains.Domains.name_at.Goals as goal

pub returns : goal.returns
returns c =
    text_there c.self.inside.entries.entries c.args.at c.in-Some.text.now c.in-Some.field-0-1.now (sym c.in-Some.ensures.entry)
    ∙ ap (λ (d : Domains). get_or (keys_of d.entries) c.args.at []) c.self.view_is
