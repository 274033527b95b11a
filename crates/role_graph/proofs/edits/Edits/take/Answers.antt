use Rattle.std.proofs.Common.{◌≡◌, ◌∙◌, List, ℕ, ap, sym, subst}
use Rattle.std.specs.Prelude.{IfOk}
use Rattle.role_graph.specs.Groups.{Group}
use Rattle.role_graph.specs.Helps.Edits.{overlay}
use Rattle.role_graph.specs.Helps.Kept.{roles_in}
use Rattle.role_graph.proofs.PutLemmas.{apart_from, if_any, others_kept, overlay_found, overlay_nowhere}
use Rattle.role_graph.proofs.edits.Edits.take.Goals.{in-Some, in-None}
use Rattle.role_graph.proofs.edits.Edits.take.Goals as goal

pub invariant_of-self : goal.invariant_of-self
invariant_of-self c = apart_from c.swap_remove.new.self.entries c.swap_remove.ensures.unique

pub returns-clause-roles : goal.returns-clause-roles
returns-clause-roles c = elim c.match-swap_remove.branch [
  | in-Some w ↦ subst (λ r. IfOk r (λ roles. roles.items ≡ overlay c.args.self.now (roles_in c.args.links.now c.args.user.now) c.args.user.now)) (sym w.result-is)
      (subst (λ (texts : List (List ℕ)). IfOk w.into_vec.result (λ roles. roles.items ≡ texts))
      (overlay_found c.args.user.now (roles_in c.args.links.now c.args.user.now) c.self.inside.entries.entries c.args.self.now w.in-Some.roles c.self.view_is w.in-Some.ensures.value) w.into_vec.ensures)
  | in-None w ↦ subst (λ r. IfOk r (λ roles. roles.items ≡ overlay c.args.self.now (roles_in c.args.links.now c.args.user.now) c.args.user.now)) (sym w.result-is)
      (subst (λ (texts : List (List ℕ)). IfOk w.copy_and_room.result (λ roles. roles.items ≡ texts))
      (w.roles_of.ensures ∙ overlay_nowhere c.args.user.now (roles_in c.args.links.now c.args.user.now) c.self.inside.entries.entries c.args.self.now c.self.view_is w.in-None.ensures.value) w.copy_and_room.ensures)
]

pub returns-clause-others : goal.returns-clause-others
returns-clause-others c =
    if_any c.match-swap_remove.result _ (λ name base differ.
    others_kept name c.args.user.now base c.self.inside.entries.entries c.swap_remove.new.self.entries c.swap_remove.ensures.updates.3 differ
    ∙ ap (λ (groups : List Group). overlay groups base name) c.self.view_is)
