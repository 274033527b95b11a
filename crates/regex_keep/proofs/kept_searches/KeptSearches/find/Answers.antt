use Rattle.std.proofs.Common.{◌≡◌, Some, IfSome, sym, ap, ◌∙◌, subst}
use Rattle.std.specs.Option.{option_copied_mut}
use Rattle.regex_gate.specs.Found.{has_match}
use Rattle.regex_keep.proofs.KeptLemmas.{kept_under, kept_used}
use Rattle.regex_keep.proofs.kept_searches.KeptSearches.find.Goals as goal

pub returns-in-Some : goal.returns-in-Some
returns-in-Some c =
    let is = kept_under c.args.self.now.searches c.args.pattern.now c.in-Some.search.now c.args.self.now.are_kept (sym c.get_mut.ensures.value ∙ ap option_copied_mut c.in-Some.is) in
    subst (λ pattern. IfSome c.find.result (λ is_found. has_match pattern c.args.text.now ≡ Some is_found)) is c.find.ensures.found

pub invariant_of-self : goal.invariant_of-self
invariant_of-self c =
    let is = kept_under c.args.self.now.searches c.args.pattern.now c.in-Some.search.now c.args.self.now.are_kept (sym c.get_mut.ensures.value ∙ ap option_copied_mut c.in-Some.is) in
    record { are_kept = kept_used c.args.self.now.searches c.args.pattern.now c.find.new.self c.args.self.now.are_kept (c.find.ensures.same ∙ is) }
