use Rattle.std.proofs.Common.{◌≡◌, ◌++◌, List, ℕ, false, ap, sym, ◌∙◌}
use Rattle.std.specs.String.{string_bytes}
use Rattle.perm_base.specs.FieldLine.{needs_quotes}
use Rattle.perm_base.proofs.QuotedLemmas.{printed_plain}
use Rattle.perm_base.proofs.quoted_print.push_field.Goals as goal

pub returns-then-not-needs_quotes-clause-printed : goal.returns-then-not-needs_quotes-clause-printed
returns-then-not-needs_quotes-clause-printed c =
    let none : needs_quotes c.args.field.now ≡ false = sym c.needs_quotes.ensures ∙ c.if-not-needs_quotes.true in
    c.in_ok-push_str.ensures.bytes ∙ ap (λ (t : List ℕ). string_bytes c.args.text.now ++ t) (sym (printed_plain c.args.field.now none))

pub push_quoted-requires : goal.push_quoted-requires
push_quoted-requires c = sym c.needs_quotes.ensures ∙ c.if-not-needs_quotes.false
