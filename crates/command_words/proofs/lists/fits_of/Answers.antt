use Rattle.std.proofs.Common.{◌≡◌, ℕ, List, ◌∷◌, None, false, true, sym, ap, subst, ◌∙◌, rules}
use Rattle.perm_base.specs.declared.shapes.Fit.{Fit}
use Rattle.command_words.specs.Fits.{has_relation}
use Rattle.command_words.specs.Helps.Seen.{entries_of}
use Rattle.command_words.specs.Values.{fits_in, fits_of}
use Rattle.command_words.proofs.FitLemmas.{AreApart, apart_push, bad_entry, named_twice, one_more, onto, onto_end}
use Rattle.command_words.proofs.lists.fits_of.Goals as goal

pub returns-in_err-relation : goal.returns-in_err-relation
returns-in_err-relation c =
    let parts : entries_of c.loop-rest.rest ≡ c.first_entry.result.0.now ∷ entries_of c.first_entry.result.1 = ap entries_of c.in-Some.is ∙ c.first_entry.ensures.entries in
    c.from_residual.ensures ∙ bad_entry (fits_of c.args.list.now) c.loop-rest.fits _ _ _ c.loop-rest.invariant.0 parts (sym c.entry_of.ensures.value ∙ c.in_err-relation.was)

pub returns-then-has : goal.returns-then-has
returns-then-has c =
    let parts : entries_of c.loop-rest.rest ≡ c.first_entry.result.0.now ∷ entries_of c.first_entry.result.1 = ap entries_of c.in-Some.is ∙ c.first_entry.ensures.entries in
    let has : has_relation c.loop-rest.fits c.in_ok-relation.relation ≡ true = search rules in
    named_twice (fits_of c.args.list.now) c.loop-rest.fits _ _ _ (c.in_ok-relation.relation, c.in_ok-relation.fit) c.loop-rest.invariant.0 parts (sym c.entry_of.ensures.value ∙ c.in_ok-relation.was) has

pub loop-rest-preserved : goal.loop-rest-preserved
loop-rest-preserved c =
    let parts : entries_of c.loop-rest.rest ≡ c.first_entry.result.0.now ∷ entries_of c.first_entry.result.1 = ap entries_of c.in-Some.is ∙ c.first_entry.ensures.entries in
    let none : has_relation c.loop-rest.fits c.in_ok-relation.relation ≡ false = search rules in
    let new : ℕ × Fit = (c.in_ok-relation.relation, c.in_ok-relation.fit) in
    subst (λ (fits : List (ℕ × Fit)). (fits_of c.args.list.now ≡ onto fits (fits_in (entries_of c.first_entry.result.1))) × AreApart fits) (sym c.push.ensures)
    (one_more (fits_of c.args.list.now) c.loop-rest.fits _ _ _ new c.loop-rest.invariant.0 parts (sym c.entry_of.ensures.value ∙ c.in_ok-relation.was), apart_push c.loop-rest.fits new c.loop-rest.invariant.1 none)

pub returns : goal.returns
returns c =
    let none : c.loop-rest.rest ≡ None = search rules in
    sym (c.loop-rest.invariant.0 ∙ ap (λ rest. onto c.loop-rest.fits (fits_in (entries_of rest))) none ∙ onto_end c.loop-rest.fits c.loop-rest.invariant.1)
