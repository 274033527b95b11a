use Rattle.std.proofs.Common.{◌∙◌, List, ℕ, cond, ap}
use Rattle.std.specs.Str.{bytes_eq}
use Rattle.role_graph.specs.Helps.Edits.{overlay}
use Rattle.role_graph.proofs.PutLemmas.{apart_from, overlay_given}
use Rattle.role_graph.proofs.edits.Edits.put.Goals as goal

pub invariant_of-self-2 : goal.invariant_of-self-2
invariant_of-self-2 c = apart_from c.insert.new.self.entries c.in_ok-insert.ensures.unique

pub returns : goal.returns
returns c = λ name base.
    overlay_given name base c.self.inside.entries.entries c.insert.new.self.entries c.args.user c.from_vec.result c.args.self.now c.self.view_is c.in_ok-insert.ensures.entries
    ∙ ap (λ (roles : List (List ℕ)). cond (bytes_eq name c.args.user) roles (overlay c.args.self.now base name)) c.from_vec.ensures
