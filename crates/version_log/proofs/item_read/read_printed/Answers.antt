use Rattle.std.proofs.Common.{◌≡◌, true, not, true≢false, rules, sym, ap, ◌∙◌}
use Rattle.std.specs.Str.{bytes_eq}
use Rattle.std.proofs.lemmas.Slice.Eq.{bytes_eq-Decides}
use Rattle.perm_base.specs.FieldLine as field
use Rattle.version_log.proofs.SpellingLemmas.{printed_other, printed_read}
use Rattle.version_log.proofs.item_read.read_printed.Goals as goal

pub returns-in-Err-Quote-clause-none : goal.returns-in-Err-Quote-clause-none
returns-in-Err-Quote-clause-none c = λ fields is. let memory = c.in-Err-Quote.ensures.only fields (printed_read c.args.text.now fields is) in absurd cc

pub returns-in-Err-TooMany-clause-none : goal.returns-in-Err-TooMany-clause-none
returns-in-Err-TooMany-clause-none c = λ fields is. let memory = c.in-Err-TooMany.ensures.only fields (printed_read c.args.text.now fields is) in absurd cc

pub returns-then-ne-clause-none : goal.returns-then-ne-clause-none
returns-then-ne-clause-none c = λ fields is.
    let same : c.args.text.now ≡ field.printed c.in-Ok.fields.items = printed_other c.args.text.now c.in-Ok.fields.items fields c.in-Ok.ensures.found is in
    let printed : c.as_str.result.now ≡ field.printed c.in-Ok.fields.items = search rules in
    let both : c.as_str.result.now ≡ c.args.text.now = printed ∙ sym same in
    let equal : bytes_eq c.as_str.result.now c.args.text.now ≡ true = (bytes_eq-Decides c.as_str.result.now c.args.text.now).1 both in
    true≢false (sym c.if-ne.true ∙ c.ne.ensures ∙ ap not equal)
