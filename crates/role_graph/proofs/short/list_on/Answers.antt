use Rattle.std.proofs.Common.{◌≡◌, ◌<◌, ◌+◌, ◌∙◌, List, ℕ, length, get_or, sym, ap, subst, arith, length-append}
use Rattle.std.specs.List.{Contains}
use Rattle.std.proofs.lemmas.List.Elements.{Contains-get_or}
use Rattle.role_graph.specs.Helps.Kept.{linked_of}
use Rattle.role_graph.proofs.ShortLists.{groups_first, groups_last, groups_on, still_at}
use Rattle.role_graph.proofs.short.list_on.Goals as goal

pub loop-index-init : goal.loop-index-init
loop-index-init c = record { low = omega arith; lists = groups_first (linked_of c.args.links.now) c.args.listed.now.items c.args.from }

pub group_at-group-requires : goal.group_at-group-requires
group_at-group-requires c =
    let long : length c.loop-index.listed.items ≡ length c.args.listed.now.items + length c.loop-index.invariant.lists.added = ap length c.loop-index.invariant.lists.is ∙ length-append c.args.listed.now.items c.loop-index.invariant.lists.added in
    omega (arith, c.loop-index-test.true, c.len-index-end.ensures, long, ap length c.as_slice.ensures.value)

pub roles_at-requires : goal.roles_at-requires
roles_at-requires c =
    let within : c.loop-index.index < length c.args.listed.now.items = omega (arith, c.loop-index-test.true, c.len-index-end.ensures) in
    let is : c.group_at-group.result ≡ get_or c.args.listed.now.items c.loop-index.index 0 =
    c.group_at-group.ensures ∙ ap (λ (l : List ℕ). get_or l c.loop-index.index 0) c.as_slice.ensures.value ∙ still_at (linked_of c.args.links.now) c.args.listed.now.items c.loop-index.listed.items c.args.from c.loop-index.index c.loop-index.index within c.loop-index.invariant.lists in
    c.requires c.group_at-group.result (subst (Contains c.args.listed.now.items) (sym is) (Contains-get_or c.args.listed.now.items c.loop-index.index 0 within))

pub loop-index-preserved : goal.loop-index-preserved
loop-index-preserved c =
    let within : c.loop-index.index < length c.args.listed.now.items = omega (arith, c.loop-index-test.true, c.len-index-end.ensures) in
    let is : c.group_at-group.result ≡ get_or c.args.listed.now.items c.loop-index.index 0 =
    c.group_at-group.ensures ∙ ap (λ (l : List ℕ). get_or l c.loop-index.index 0) c.as_slice.ensures.value ∙ still_at (linked_of c.args.links.now) c.args.listed.now.items c.loop-index.listed.items c.args.from c.loop-index.index c.loop-index.index within c.loop-index.invariant.lists in
    let inside : c.group_at-group.result < length (linked_of c.args.links.now).groups = c.requires c.group_at-group.result (subst (Contains c.args.listed.now.items) (sym is) (Contains-get_or c.args.listed.now.items c.loop-index.index 0 within)) in
    record {
      low = omega (arith, c.loop-index.invariant.low);
      lists = groups_on (linked_of c.args.links.now) c.args.listed.now.items c.loop-index.listed.items c.list_all.new.listed.items c.args.from c.loop-index.index c.group_at-group.result c.roles_at.result.now c.loop-index.invariant.low within is inside
          c.roles_at.ensures (c.list_all.ensures c.if-not-list_all.false) c.loop-index.invariant.lists;
    }

pub returns : goal.returns
returns c = λ yes.
    groups_last (linked_of c.args.links.now) c.args.listed.now.items c.loop-index.listed.items c.args.from c.loop-index.index (omega (arith, c.loop-index-test.false, c.len-index-end.ensures)) c.loop-index.invariant.lists
