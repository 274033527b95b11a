use Rattle.std.proofs.Common.{subst}
use Rattle.regex_keep.specs.Helps.Dfas.{IsDfaOf}
use Rattle.regex_keep.proofs.DfaLemmas.{bytes_of, found_by_end}
use Rattle.regex_keep.proofs.kept_search.KeptSearch.find.Goals as goal

pub returns-clause-found : goal.returns-clause-found
returns-clause-found c =
    let is = subst (λ pattern. IsDfaOf pattern c.self.inside.dfa) c.self.view_is c.self.invariant.0 in
    rw c.answer_of.ensures (found_by_end c.args.self.now c.self.inside.dfa c.args.text.now c.find_end.result is (bytes_of c.args.text.now c.type_inv.text) c.find_end.ensures.end)
