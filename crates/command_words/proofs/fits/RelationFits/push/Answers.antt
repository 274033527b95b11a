use Rattle.std.proofs.Common.{◌≡◌, ◌+◌, ◌++◌, ◌∷◌, [], ℕ, List, false, take, sym, ap, subst, ◌∙◌, arith}
use Rattle.std.specs.Prelude.{slice_set}
use Rattle.std.proofs.lemmas.List.{take_more_set}
use Rattle.perm_base.specs.declared.shapes.Fit.{Fit}
use Rattle.command_words.specs.Fits.{AreNamedOnce, AreRelations, has_relation}
use Rattle.command_words.proofs.FitLemmas.{once_push, place_below, relations_push}
use Rattle.command_words.proofs.fits.RelationFits.push.Goals as goal

pub bounds-self-inside-self-inside : goal.bounds-self-inside-self-inside
bounds-self-inside-self-inside c =
    place_below c.self.inside.slots c.self.inside.count c.args.self.now c.args.relation (omega arith) c.self.view_is c.self.invariant.1 c.self.invariant.2 c.requires.relation c.requires.fresh

pub invariant_of-self : goal.invariant_of-self
invariant_of-self c =
    let fits : List (ℕ × Fit) = take c.self.inside.count c.self.inside.slots in
    let place = place_below c.self.inside.slots c.self.inside.count c.args.self.now c.args.relation (omega arith) c.self.view_is c.self.invariant.1 c.self.invariant.2 c.requires.relation c.requires.fresh in
    let fresh : has_relation fits c.args.relation ≡ false = ap (λ (seen : List (ℕ × Fit)). has_relation seen c.args.relation) c.self.view_is ∙ c.requires.fresh in
    let pushed : take (c.self.inside.count + 1) (slice_set c.self.inside.slots c.self.inside.count (c.args.relation, c.args.fit)) ≡ fits ++ (c.args.relation, c.args.fit) ∷ [] = take_more_set c.self.inside.slots c.self.inside.count (c.args.relation, c.args.fit) (omega (arith, place)) in
    (omega (arith, place), subst AreNamedOnce (sym pushed) (once_push fits c.args.relation c.args.fit c.self.invariant.1 fresh), subst AreRelations (sym pushed) (relations_push fits c.args.relation c.args.fit c.self.invariant.2 c.requires.relation))

pub returns : goal.returns
returns c =
    let place = place_below c.self.inside.slots c.self.inside.count c.args.self.now c.args.relation (omega arith) c.self.view_is c.self.invariant.1 c.self.invariant.2 c.requires.relation c.requires.fresh in
    take_more_set c.self.inside.slots c.self.inside.count (c.args.relation, c.args.fit) (omega (arith, place)) ∙ ap (λ (fits : List (ℕ × Fit)). fits ++ (c.args.relation, c.args.fit) ∷ []) c.self.view_is
