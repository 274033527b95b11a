use Rattle.std.proofs.Common.{◌≡◌, Bool, true, false, not, if◌then◌else◌, refl, ap, sym, ◌∙◌}
use Rattle.std.specs.Bool.{beq}
use Rattle.key_match.specs.Pieces.{has, not_slash}
use Rattle.key_match.specs.Helps.Tokens.{set_of}
use Rattle.key_match.specs.declared.token.ByteTest.{ByteTest}
use Rattle.key_match.proofs.Bools.{and_true}
use Rattle.key_match.proofs.Leads.{not_slash-other}
use Rattle.key_match.proofs.token.passes.Goals as goal

differ_is : (a b : Bool) → not (beq a b) ≡ (if a then not b else b)
differ_is true true = refl
differ_is true false = refl
differ_is false true = refl
differ_is false false = refl

pub returns-then-byte-ne47 : goal.returns-then-byte-ne47
returns-then-byte-ne47 c =
    let byte = c.args.byte in
    let negated = c.in-Class.negated in
    differ_is negated c.is_among.result ∙ ap (λ among. if negated then not among else among) c.is_among.ensures
    ∙ sym (and_true (not_slash byte) _ (not_slash-other byte c.if-byte-ne47.true))
    ∙ ap (λ (test : ByteTest). has (set_of test) byte) (sym c.in-Class.is)
