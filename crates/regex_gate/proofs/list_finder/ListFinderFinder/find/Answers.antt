use Rattle.std.proofs.Common.{rules, ◌≡◌, true, true≢false, sym, ◌∙◌}
use Rattle.outside.specs.Listed.{is_listed}
use Rattle.regex_gate.proofs.list_finder.ListFinderFinder.find.Goals as goal

pub returns-then-contains-clause-refused_for : goal.returns-then-contains-clause-refused_for
returns-then-contains-clause-refused_for c = λ none refused.
    let listed : is_listed c.args.self.now.schedule ≡ true = search rules in
    absurd (true≢false (sym listed ∙ none))
