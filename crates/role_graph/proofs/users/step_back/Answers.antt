use Rattle.std.proofs.Common.{◌<◌, ◌∙◌, List, ℕ, length, sym, subst, arith}
use Rattle.std.specs.List.{Contains}
use Rattle.std.proofs.lemmas.Bool.{false≢true}
use Rattle.role_graph.specs.Helps.Kept.{linked_of}
use Rattle.role_graph.proofs.LeadLemmas.{stepped_first, stepped_last, stepped_on, stepped_past}
use Rattle.role_graph.proofs.users.step_back.Goals as goal

pub loop-at-init : goal.loop-at-init
loop-at-init c = stepped_first (linked_of c.args.links.now) c.args.x.now c.args.marks.now c.new-more.result c.new-more.ensures

pub loop-at-preserved-then-not-some_on_way : goal.loop-at-preserved-then-not-some_on_way
loop-at-preserved-then-not-some_on_way c =
    stepped_past (linked_of c.args.links.now) c.args.x.now c.args.marks.now c.loop-at.more c.loop-at.at
    (λ back. false≢true (sym c.if-not-some_on_way.true ∙ c.some_on_way.ensures.1 (back.role, subst (λ (roles : List (List ℕ)). Contains roles back.role) (sym c.roles_at.ensures) back.stands.stands, back.way))) c.loop-at.invariant

pub loop-at-preserved : goal.loop-at-preserved
loop-at-preserved c =
    let found = c.some_on_way.ensures.0 c.if-not-some_on_way.false in
    let within : c.loop-at.at < length (linked_of c.args.links.now).groups = omega (arith, c.len-at-end.ensures.count, c.loop-at-test.true) in
    stepped_on (linked_of c.args.links.now) c.args.x.now c.args.marks.now c.loop-at.more c.set.new.self c.loop-at.at
    (record { role = found.0; stands = record { within = within; stands = subst (λ (roles : List (List ℕ)). Contains roles found.0) c.roles_at.ensures found.1 }; way = found.2 })
    c.set.ensures.marked c.set.ensures.kept c.set.ensures.only c.loop-at.invariant

pub returns : goal.returns
returns c = stepped_last (linked_of c.args.links.now) c.args.x.now c.args.marks.now c.loop-at.more c.loop-at.at (omega (arith, c.len-at-end.ensures.count, c.loop-at-test.false)) c.loop-at.invariant
