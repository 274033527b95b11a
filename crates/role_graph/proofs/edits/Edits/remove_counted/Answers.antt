use Rattle.std.proofs.Common.{◌≡◌, ◌+◌, ◌≤◌, ◌∙◌, List, ℕ, cond, ap, sym, subst}
use Rattle.std.specs.List.{count_by}
use Rattle.std.specs.Str.{bytes_eq}
use Rattle.role_graph.specs.Helps.Edits.{counted_rows, overlay, standing}
use Rattle.role_graph.specs.Helps.Kept.{roles_in}
use Rattle.role_graph.specs.Helps.Roles.{count_of}
use Rattle.role_graph.proofs.EditLemmas.{gives_from}
use Rattle.role_graph.proofs.PutLemmas.{on_ok_then}
use Rattle.role_graph.proofs.Removals.{removed_counted}
use Rattle.role_graph.proofs.edits.Edits.remove_counted.Goals as goal

pub take_out-requires : goal.take_out-requires
take_out-requires c = λ name.
    subst (λ (texts : List (List ℕ)). count_of c.args.gone name ≤ count_by (bytes_eq name) texts) (sym c.in_ok-roles.ensures.roles)
    (subst (λ (user : List ℕ). count_of c.args.gone name ≤ count_by (bytes_eq name) (overlay c.args.self.now (roles_in c.args.links.now user) user)) (sym c.as_bytes.ensures.value) (c.requires name))

pub returns : goal.returns
returns c =
    let user = c.as_bytes.result.now in
    let left = c.take_out.new.texts.items in
    on_ok_then c.put.result
    ((name : List ℕ) (base : List (List ℕ)) → overlay c.put.new.self base name ≡ cond (bytes_eq name c.in_ok-from_str.field-0) left (overlay c.take.new.self base name)) _
    (λ put one.
    ap (λ (text : List ℕ). standing c.args.links.now c.put.new.self one + counted_rows text c.args.gone one) (sym c.as_bytes.ensures.value)
    ∙ removed_counted c.args.links.now c.args.self.now c.put.new.self user c.args.gone left
    (gives_from c.args.self.now c.take.new.self c.put.new.self user c.in_ok-from_str.field-0 left (c.in_ok-from_str.ensures ∙ sym c.as_bytes.ensures.value) put c.in_ok-roles.ensures.others)
    (λ other. c.take_out.ensures other ∙ ap (count_by (bytes_eq other)) c.in_ok-roles.ensures.roles) one)
    c.put.ensures
