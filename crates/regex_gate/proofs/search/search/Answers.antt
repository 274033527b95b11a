use Rattle.std.proofs.Common.{◌∙◌, subst}
use Rattle.regex.specs.declared.error.Error.{Error}
use Rattle.regex.specs.Sources.{IsRefusal}
use Rattle.regex.specs.Failures.{IsRightKind}
use Rattle.regex_gate.specs.Found.{byte_config}
use Rattle.regex_gate.proofs.FoundLemmas.{no_text, refused_by_parser}
use Rattle.regex_gate.proofs.SearchLemmas.{found_by_regex}
use Rattle.std.proofs.Common.{inl}
use Rattle.regex_gate.proofs.search.search.Goals as goal

pub returns-in_default : goal.returns-in_default
returns-in_default c = inl (no_text c.args.pattern.now c.in_default.ensures.cases.0)

pub returns-in_ok-matcher-in-Ok-new : goal.returns-in_ok-matcher-in-Ok-new
returns-in_ok-matcher-in-Ok-new c =
    let made = c.in-Ok-new.ensures in
    let read_text = found_by_regex c.in-Ok-new.regex c.args.pattern.now c.args.text.now c.in-Ok.ensures.cases.1 (made.source ∙ c.in-Ok.ensures.cases.0) made.config made.read (λ k. (c.type_inv.text k).fits) in
    rw (c.is_match.ensures.found, c.in_ok-matcher-in-Ok-new.ensures.pattern) read_text

pub returns-in-Err-Syntax : goal.returns-in-Err-Syntax
returns-in-Err-Syntax c =
    let refusal = subst (λ pattern. IsRefusal byte_config pattern c.in-Err-Syntax.field-0) c.in-Ok.ensures.cases.0 c.in-Err-Syntax.ensures.refused in
    let kind = subst (λ pattern. IsRightKind byte_config pattern c.in-Err-Syntax.field-0) c.in-Ok.ensures.cases.0 c.in-Err-Syntax.ensures.kind in
    refused_by_parser c.args.pattern.now c.in-Err-Syntax.field-0-0 c.in-Ok.ensures.cases.1 (subst (λ (e : Error). IsRefusal byte_config c.args.pattern.now e) c.in-Err-Syntax.field-0-is refusal) (subst (λ (e : Error). IsRightKind byte_config c.args.pattern.now e) c.in-Err-Syntax.field-0-is kind)
