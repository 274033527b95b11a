use Rattle.std.proofs.Common.{◌≡◌, Err, ℕ, List, get_or, sym, subst, ap, ◌∙◌, true≢false}
use Rattle.perm_base.specs.declared.quoted.FieldFault.{FieldFault}
use Rattle.policy_csv.specs.Faults.{BeginsWith}
use Rattle.policy_csv.proofs.NameLemmas.{begins_before, comma_before, many_has_comma, only_field}
use Rattle.policy_csv.proofs.entry.first_field.Goals as goal

pub unreachable-requires : goal.unreachable-requires
unreachable-requires c = true≢false (sym (many_has_comma c.args.line.now c.requires) ∙ c.in_default.ensures.none)

pub returns-in-Ok-clause-found : goal.returns-in-Ok-clause-found
returns-in-Ok-clause-found c =
    let only = only_field c.in-Some.first.now c.in-Ok.fields.items c.in-Some.ensures.first c.in-Ok.ensures.found in
    let same : c.remove.result ≡ only.name = c.remove.ensures.value ∙ ap (λ (l : List (List ℕ)). get_or l 0 c.remove.result) only.alone in
    subst (BeginsWith c.args.line.now) (sym same) (begins_before c.args.line.now c.in-Some.first.now c.in-Some.field-0-1.now only.name c.requires c.in-Some.ensures.parts only.spelled)

pub returns-in-Err-Quote-clause-comma : goal.returns-in-Err-Quote-clause-comma
returns-in-Err-Quote-clause-comma c = comma_before c.args.line.now c.in-Some.first.now c.in-Some.field-0-1.now c.requires c.in-Some.ensures.parts c.in-Some.ensures.first (λ fields is. let memory = c.in-Err-Quote.ensures.only fields is in absurd cc)

pub unreachable-requires-in-Err-TooMany : goal.unreachable-requires-in-Err-TooMany
unreachable-requires-in-Err-TooMany c = true≢false (sym (many_has_comma c.in-Some.first.now (c.in-Err-TooMany.ensures.too_many (ap (λ (fault : FieldFault). Err fault) c.in-Err-TooMany.field-0-is))) ∙ c.in-Some.ensures.first)
