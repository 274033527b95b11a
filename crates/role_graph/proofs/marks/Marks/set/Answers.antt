use Rattle.std.proofs.Common.{◌≡◌, ◌⊎◌, List, ℕ, length, refl, rules, sym, subst, arith}
use Rattle.role_graph.specs.Helps.Marks.{IsSet}
use Rattle.role_graph.proofs.MarkLemmas.{set_here, set_keeps, set_only}
use Rattle.role_graph.proofs.marks.Marks.set.Goals as goal

pub returns-clause-marked : goal.returns-clause-marked
returns-clause-marked c = set_here c.self.inside.words c.args.at _ (let long : length c.self.inside.words ≡ 3125 = search rules in omega (arith, long)) refl

pub returns-clause-kept : goal.returns-clause-kept
returns-clause-kept c = λ other one. set_keeps c.self.inside.words c.args.at _ (let long : length c.self.inside.words ≡ 3125 = search rules in omega (arith, long)) refl other (subst (λ (words : List ℕ). IsSet words other) (sym c.self.view_is) one)

pub returns-clause-only : goal.returns-clause-only
returns-clause-only c = λ other one. subst (λ (words : List ℕ). IsSet words other ⊎ (other ≡ c.args.at)) c.self.view_is (set_only c.self.inside.words c.args.at _ (let long : length c.self.inside.words ≡ 3125 = search rules in omega (arith, long)) refl other one)
