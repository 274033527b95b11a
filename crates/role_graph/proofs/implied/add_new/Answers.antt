use Rattle.std.proofs.Common.{◌≡◌, ◌++◌, ◌∷◌, ◌+◌, [], List, ℕ, take, sym, ap, subst, ◌∙◌}
use Rattle.std.proofs.lemmas.List.{take_more}
use Rattle.std.specs.Str.{bytes_eq}
use Rattle.indexmap.specs.IndexSet.{contains}
use Rattle.role_graph.specs.Helps.Names.{Adds}
use Rattle.role_graph.proofs.GatherLemmas.{adds_none}
use Rattle.role_graph.proofs.implied.add_new.Goals as goal

pub loop-role-init : goal.loop-role-init
loop-role-init c = adds_none c.args.x.now (contains bytes_eq c.args.seen.now) c.args.fresh.now.items

pub loop-role-preserved : goal.loop-role-preserved
loop-role-preserved c =
    let longer : take (c.loop-role.role-index + 1) c.args.roles.now ≡ take c.loop-role.role-index c.args.roles.now ++ c.role-item.result ∷ [] =
    take_more c.args.roles.now c.loop-role.role-index c.role-item.result c.loop-role-test.true ∙ ap (λ (n : List ℕ). take c.loop-role.role-index c.args.roles.now ++ n ∷ []) (sym c.role-item.is) in
    subst (λ (roles : List (List ℕ)). Adds c.args.x.now roles (contains bytes_eq c.args.seen.now) (contains bytes_eq c.add_one.new.seen) c.args.fresh.now.items c.add_one.new.fresh.items) (sym longer)
    (c.in_ok-add_one.ensures (take c.loop-role.role-index c.args.roles.now) (contains bytes_eq c.args.seen.now) c.args.fresh.now.items c.loop-role.invariant)
