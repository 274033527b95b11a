use Rattle.std.proofs.Common.{IsTrue, Option, subst}
use Rattle.std.specs.Prelude.{◌↔◌, IfSome, option_copied}
use Rattle.std.specs.Borrow.{Bor}
use Rattle.matcher_meaning.specs.Cases.{IsLinkedBy}
use Rattle.policy_state.specs.States.{State, tables}
use Rattle.decision.specs.Helps.ReachedNames.{KnowsLinks}
use Rattle.decision.specs.declared.links.AskedName.{AskedName}
use Rattle.decision.proofs.NamedLemmas.{known_told}
use Rattle.decision.proofs.links.StateLinksLinks.linked.Goals as goal

pub returns-then-is_of : goal.returns-then-is_of
returns-then-is_of c =
    let knows : KnowsLinks c.args.self.now c.in-Some.known.now =
    subst (λ (o : Option (Bor AskedName)). IfSome (option_copied o) (KnowsLinks c.args.self.now)) c.in-Some.is (subst (λ (s : State). IfSome (option_copied c.self.inside.asked_name) (KnowsLinks s)) c.self.view_is c.self.invariant) in
    known_told c.args.self.now c.in-Some.known.now c.args.relation (option_copied c.args.domain) c.args.x.now c.args.y.now c.has.result knows (c.is_of.ensures.relation c.if-is_of.true) (c.is_of.ensures.name c.if-is_of.true) (c.is_of.ensures.domain c.if-is_of.true)
    c.has.ensures

pub returns : goal.returns
returns c = subst (λ (s : State). IsTrue c.ask.result ↔ IsLinkedBy s.shapes (tables s) c.args.relation c.args.x.now c.args.y.now (option_copied c.args.domain)) c.self.view_is c.ask.ensures
