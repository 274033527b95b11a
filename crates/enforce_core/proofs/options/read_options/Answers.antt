use Rattle.std.proofs.Common.{◌≡◌, List, ap, sym, ◌∙◌}
use Rattle.std.specs.Prelude.{String}
use Rattle.std.specs.declared.alloc.Global.{Global}
use Rattle.std.proofs.lemmas.Result.{err_from_is_err_and}
use Rattle.command_words.specs.Items.{texts}
use Rattle.enforce_core.specs.Opened.{option_words}
use Rattle.enforce_core.proofs.OptionLemmas.{says_none, says_options}
use Rattle.enforce_core.proofs.options.read_options.Goals as goal

pub returns-in_default-clause-stopped : goal.returns-in_default-clause-stopped
returns-in_default-clause-stopped c = λ options said. c.in_default.ensures.cases.0 said.utf8

pub returns-in_err-words-clause-stopped : goal.returns-in_err-words-clause-stopped
returns-in_err-words-clause-stopped c =
    let p = err_from_is_err_and c.from_residual.result c.from_residual.ensures.1 in
    rw (p.1, p.2) tt

pub returns-in_err-found-clause-stopped : goal.returns-in_err-found-clause-stopped
returns-in_err-found-clause-stopped c =
    let p = err_from_is_err_and c.from_residual-in_err-found.result c.from_residual-in_err-found.ensures.1 in
    rw (p.1, p.2) tt

pub returns-in_default-found-clause-stopped : goal.returns-in_default-found-clause-stopped
returns-in_default-found-clause-stopped c =
    let are : texts c.deref.result.now ≡ option_words c.args.text.now = ap (λ (words : List (String Global)). texts words) c.deref.ensures.value ∙ c.in_ok-words.ensures ∙ ap option_words c.in-Ok.ensures.cases.0 in
    says_none c.args.text.now (texts c.deref.result.now) are (sym c.in_default-found.is ∙ c.in_ok-found.ensures.asked)

pub returns-clause-said : goal.returns-clause-said
returns-clause-said c =
    let are : texts c.deref.result.now ≡ option_words c.args.text.now = ap (λ (words : List (String Global)). texts words) c.deref.ensures.value ∙ c.in_ok-words.ensures ∙ ap option_words c.in-Ok.ensures.cases.0 in
    says_options c.args.text.now (texts c.deref.result.now) c.in-Some.options c.in-Ok.ensures.cases.1 are (sym c.in-Some.is ∙ c.in_ok-found.ensures.asked)

pub returns-clause-limit : goal.returns-clause-limit
returns-clause-limit c = rw c.in-Some.is at c.in_ok-found.ensures.limit
