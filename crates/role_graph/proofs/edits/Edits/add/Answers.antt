use Rattle.std.proofs.Common.{◌≡◌, ◌+◌, ◌++◌, ◌∷◌, [], ◌∙◌, List, ℕ, cond, ap, sym, subst}
use Rattle.std.specs.Str.{bytes_eq}
use Rattle.std.proofs.lemmas.Option.{get_or_from_slice_get}
use Rattle.policy_table.specs.Tables.{Fields, same}
use Rattle.role_graph.specs.Helps.Edits.{overlay, standing}
use Rattle.role_graph.specs.Helps.Kept.{roles_in}
use Rattle.role_graph.specs.Groups.{row}
use Rattle.role_meaning.specs.Links.{role_of, user_of}
use Rattle.role_graph.proofs.EditLemmas.{Gives, added_once, gives_from, once, pair_is, same_field}
use Rattle.role_graph.proofs.PutLemmas.{on_ok_then}
use Rattle.role_graph.proofs.edits.Edits.add.Goals as goal

pub returns : goal.returns
returns c =
    let user = c.field.result.now in
    let role = c.text.result.now in
    let first : user_of c.args.rule.now ≡ user = get_or_from_slice_get c.args.rule.now 0 user [] c.field.ensures.value in
    let second : role_of c.args.rule.now ≡ role = get_or_from_slice_get c.args.rule.now 1 role [] c.text.ensures.value in
    let pair : row (user_of c.args.rule.now) (role_of c.args.rule.now) ≡ user ∷ role ∷ [] = ap (λ (u : List ℕ). row u (role_of c.args.rule.now)) first ∙ ap (row user) second in
    let rule : c.args.rule.now ≡ user ∷ role ∷ [] = sym (pair_is c.args.rule.now c.requires) ∙ pair in
    let given : c.in_ok-from_str-2.field-0 ≡ user = c.in_ok-from_str-2.ensures ∙ same_field c.args.rule.now 0 c.text-2.result.now user c.text-2.ensures.value c.field.ensures.value in
    let roles : c.push.new.self.items ≡ overlay c.args.self.now (roles_in c.args.links.now user) user ++ role ∷ [] =
    c.in_ok-push.ensures.items ∙ ap (λ (texts : List (List ℕ)). texts ++ c.in_ok-from_str.field-0 ∷ []) c.in_ok-roles.ensures.roles
    ∙ ap (λ (text : List ℕ). overlay c.args.self.now (roles_in c.args.links.now user) user ++ text ∷ []) c.in_ok-from_str.ensures in
    on_ok_then c.put.result
    ((name : List ℕ) (base : List (List ℕ)) → overlay c.put.new.self base name ≡ cond (bytes_eq name c.in_ok-from_str-2.field-0) c.push.new.self.items (overlay c.take.new.self base name)) _
    (λ put one.
    added_once c.args.links.now c.args.self.now c.put.new.self user role
    (subst (Gives c.args.self.now c.put.new.self user) roles (gives_from c.args.self.now c.take.new.self c.put.new.self user c.in_ok-from_str-2.field-0 c.push.new.self.items given put c.in_ok-roles.ensures.others)) one
    ∙ ap (λ (r : Fields). standing c.args.links.now c.args.self.now one + once (same one r)) (sym rule))
    c.put.ensures
