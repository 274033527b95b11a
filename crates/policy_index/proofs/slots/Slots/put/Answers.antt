use Rattle.std.proofs.Common.{ap, ◌∙◌, ◌++◌, ◌∷◌, [], List, sym, ℕ, ◌<◌, subst, arith}
use Rattle.std.specs.Option.{option_copied_mut}
use Rattle.policy_index.proofs.slots.Slots.put.Goals as goal
use Rattle.policy_index.proofs.ListLemmas.{changed_by, found_room, no_room, put_room, there_now, wrote_now}

pub unreachable-requires : goal.unreachable-requires
unreachable-requires c = absurd (omega (arith, no_room c.args.self.now c.args.hash (there_now c.self.inside.lists.entries c.args.self.now c.args.hash _ c.self.view_is (sym c.get_mut.ensures.value ∙ ap option_copied_mut c.in_default.is)), c.requires))

pub push-requires : goal.push-requires
push-requires c = subst (λ (n : ℕ). 0 < n) (found_room c.args.self.now c.args.hash c.in-Some.list.now (there_now c.self.inside.lists.entries c.args.self.now c.args.hash _ c.self.view_is (sym c.get_mut.ensures.value ∙ ap option_copied_mut c.in-Some.is))) c.requires

pub returns-clause-slots : goal.returns-clause-slots
returns-clause-slots c =
    let is = sym c.get_mut.ensures.value ∙ ap option_copied_mut c.in-Some.is in
    λ other. changed_by (λ (l : List ℕ). l ++ c.args.slot ∷ []) c.args.self.now _ c.args.hash c.in-Some.list.now c.push.new.self other (there_now c.self.inside.lists.entries c.args.self.now c.args.hash _ c.self.view_is is)
    (wrote_now c.self.inside.lists.entries c.args.self.now _ c.args.hash c.in-Some.list.now c.push.new.self c.self.view_is is (c.get_mut.follows.holds c.push.new.self).0) c.push.ensures.slots

pub returns-clause-room : goal.returns-clause-room
returns-clause-room c =
    let is = sym c.get_mut.ensures.value ∙ ap option_copied_mut c.in-Some.is in
    λ other. put_room c.args.self.now _ c.args.hash c.in-Some.list.now c.push.new.self other (there_now c.self.inside.lists.entries c.args.self.now c.args.hash _ c.self.view_is is)
    (wrote_now c.self.inside.lists.entries c.args.self.now _ c.args.hash c.in-Some.list.now c.push.new.self c.self.view_is is (c.get_mut.follows.holds c.push.new.self).0) c.push.ensures.room
