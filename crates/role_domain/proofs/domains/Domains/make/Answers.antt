use Rattle.std.proofs.Common.{◌≡◌, [], rules, subst, refl}
use Rattle.role_domain.specs.Relations.{Relation}
use Rattle.role_domain.specs.Steps.{AreReady}
use Rattle.role_domain.proofs.TouchLemmas.{last_ready, left_ready}
use Rattle.role_domain.proofs.domains.Domains.make.Goals as goal

pub make_one-requires-clause-ready : goal.make_one-requires-clause-ready
make_one-requires-clause-ready c =
    let relation : Relation = c.loop-text.invariant.can.0 in (
      relation,
      last_ready relation c.loop-text.touched.items c.pop.new.self.items c.in-Some.text c.in-Some.step c.in-Some.ensures.items c.loop-text.self
          c.loop-text.invariant.can.1,
    )

pub loop-text-preserved : goal.loop-text-preserved
loop-text-preserved c =
    let is = c.in-Some.ensures.items in
    let step : (relation : Relation) → AreReady relation c.loop-text.touched.items c.loop-text.self → AreReady relation c.pop.new.self.items c.make_one.new.self = λ relation ready.
    left_ready relation c.loop-text.touched.items c.pop.new.self.items c.in-Some.text c.in-Some.step is c.loop-text.self ready c.make_one.new.self (c.make_one.ensures.right relation) c.make_one.ensures.others c.make_one.ensures.spare in
    let relation : Relation = c.loop-text.invariant.can.0 in
    record { can = (relation, step relation c.loop-text.invariant.can.1); leads = λ other ready. step other (c.loop-text.invariant.leads other ready) }

pub returns : goal.returns
returns c = λ relation ready.
    let empty : c.loop-text.touched.items ≡ [] = search rules in
    let left : AreReady relation [] c.loop-text.self = subst (λ l. AreReady relation l c.loop-text.self) empty (c.loop-text.invariant.leads relation ready) in
    record { right = λ text. left.others text refl }
