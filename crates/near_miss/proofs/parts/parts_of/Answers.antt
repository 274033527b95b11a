use Rattle.std.proofs.Common.{rules, ◌≡◌, ◌<◌, ◌++◌, ◌∷◌, [], Option, get_or, length, subst}
use Rattle.std.specs.Prelude.{MatchOption}
use Rattle.matcher_read.specs.Expression.{expression}
use Rattle.model_conf.specs.ModelText.{ModelParts}
use Rattle.near_miss.specs.Parts.{HasNoModel, IsPart}
use Rattle.near_miss.proofs.PartLemmas.{made_more, made_not}
use Rattle.near_miss.proofs.parts.parts_of.Goals as goal

pub returns-in-None : goal.returns-in-None
returns-in-None c =
    let part = expression c.tree-item.result.now in
    let within : c.loop-tree.tree-index < length c.args.trees.now = search rules in
    let is : c.tree-item.result ≡ get_or c.args.trees.now c.loop-tree.tree-index c.tree-item.result = search rules in
    let none : HasNoModel c.args.model.now part = subst (λ (o : Option ModelParts). MatchOption o (HasNoModel c.args.model.now part) (IsPart c.args.model.now part)) c.in-None.is c.in_ok-part.ensures in
    made_not c.args.model.now c.args.trees.now c.loop-tree.tree-index c.tree-item.result within is none

pub loop-tree-preserved : goal.loop-tree-preserved
loop-tree-preserved c =
    let part = expression c.tree-item.result.now in
    let within : c.loop-tree.tree-index < length c.args.trees.now = search rules in
    let is : c.tree-item.result ≡ get_or c.args.trees.now c.loop-tree.tree-index c.tree-item.result = search rules in
    let own : IsPart c.args.model.now part c.in-Some.part = subst (λ (o : Option ModelParts). MatchOption o (HasNoModel c.args.model.now part) (IsPart c.args.model.now part)) c.in-Some.is c.in_ok-part.ensures in
    let grown : c.push.new.self.items ≡ c.loop-tree.parts.items ++ c.in-Some.part ∷ [] = search rules in
    made_more c.args.model.now c.in-Some.part c.args.trees.now c.loop-tree.tree-index c.tree-item.result c.loop-tree.parts.items c.push.new.self.items within is own grown c.loop-tree.invariant
