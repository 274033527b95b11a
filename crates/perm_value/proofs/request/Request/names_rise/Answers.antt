use Rattle.std.proofs.lemmas.List.Elements.{All-map}
use Rattle.perm_value.specs.Datum.{HasRisingNames}
use Rattle.perm_value.specs.Seen.{datum}
use Rattle.perm_value.proofs.RisingLemmas.{names_rise}
use Rattle.perm_value.proofs.request.Request.names_rise.Goals as goal

pub returns : goal.returns
returns c = All-map HasRisingNames datum c.args.self.now (λ k d within. names_rise _)
