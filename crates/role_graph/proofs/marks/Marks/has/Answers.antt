use Rattle.std.proofs.Common.{List, ℕ, refl, sym, subst}
use Rattle.role_graph.specs.Helps.Marks.{IsSet}
use Rattle.role_graph.proofs.MarkLemmas.{bit_told}
use Rattle.role_graph.proofs.marks.Marks.has.Goals as goal

pub returns : goal.returns
returns c =
    let told = bit_told c.self.inside.words c.args.at _ _ refl refl in
    (λ yes. subst (λ (words : List ℕ). IsSet words c.args.at) c.self.view_is (told.0 yes), λ one. told.1 (subst (λ (words : List ℕ). IsSet words c.args.at) (sym c.self.view_is) one))
