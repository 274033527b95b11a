use Rattle.std.proofs.Common.{◌≡◌, Ok, ap, decimal, sym, ◌∙◌, arith, true≢false}
use Rattle.std.proofs.lemmas.Fmt.{parse-decimal}
use Rattle.std.proofs.lemmas.Slice.Eq.{bytes_eq-Decides}
use Rattle.log_ship.proofs.packet_read.parsed_number.Goals as goal
use Rattle.log_ship.proofs.packet_read.parsed_number.Goals.{then-number-eq0-via-then-number-eq0, then-number-eq0-via-else-number-eq0+then-number-gt-MOST_VERSIONS}

pub returns-in_default : goal.returns-in_default
returns-in_default c = λ number is.
    let parsed : c.parse.result ≡ Ok number = parse-decimal 32 number c.args.digits.now c.parse.result (omega (arith, is.few)) (omega (arith, is.few)) is.spelling c.parse.ensures.value.0 in
    let refused = c.in_default.is in
    absurd cc

pub returns-then-number-eq0 : goal.returns-then-number-eq0
returns-then-number-eq0 c = λ number is.
    let parsed : c.parse.result ≡ Ok number = parse-decimal 32 number c.args.digits.now c.parse.result (omega (arith, is.few)) (omega (arith, is.few)) is.spelling c.parse.ensures.value.0 in
    let told = c.in-Ok.is in
    let same : c.in-Ok.number ≡ number = cc in
    elim c.then-number-eq0.branch [
      | then-number-eq0-via-then-number-eq0 w ↦ omega (arith, same, is.some)
      | then-number-eq0-via-else-number-eq0+then-number-gt-MOST_VERSIONS w ↦ omega (arith, same, is.few)
    ]

pub returns-else-eq : goal.returns-else-eq
returns-else-eq c = λ number is.
    let parsed : c.parse.result ≡ Ok number = parse-decimal 32 number c.args.digits.now c.parse.result (omega (arith, is.few)) (omega (arith, is.few)) is.spelling c.parse.ensures.value.0 in
    let told = c.in-Ok.is in
    let same : c.in-Ok.number ≡ number = cc in
    let text : c.format.result.now ≡ c.args.digits.now = c.format.ensures.text ∙ ap decimal same ∙ sym is.spelling in
    true≢false (sym ((bytes_eq-Decides c.format.result.now c.args.digits.now).1 text) ∙ sym c.eq.ensures ∙ c.if-eq.false)
