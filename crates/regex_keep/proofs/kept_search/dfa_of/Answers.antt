use Rattle.std.proofs.Common.{false, ap, subst, sym}
use Rattle.regex.specs.Patterns.{Config}
use Rattle.regex_compile.specs.Implements.{Implements}
use Rattle.regex_hir.specs.Meaning.{meaning}
use Rattle.regex_nfa.specs.declared.nfa.Nfa.{Nfa}
use Rattle.regex_keep.proofs.DfaLemmas.{dfa_read}
use Rattle.regex_keep.proofs.kept_search.dfa_of.Goals as goal

pub returns : goal.returns
returns c =
    let is = ap (λ (config : Config). record config { utf8 = false }) c.default.ensures in
    let same = subst (λ (nfa : Nfa). Implements nfa (meaning c.in-Ok.field-0.hir)) (sym c.in-Ok-new.ensures.same) c.in-Ok-compile.ensures.matches in
    dfa_read c.args.pattern.now c.in-Ok-new.dfa (record c.default.result { utf8 = false }) c.in-Ok.field-0.hir _ c.utf8.pattern is same c.in-Ok.ensures.ok
