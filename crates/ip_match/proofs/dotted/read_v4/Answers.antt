use Rattle.std.proofs.Common.{◌≡◌, ℕ, [], ◌∷◌, Some, decimal, refl, ap, arith}
use Rattle.std.proofs.lemmas.Option.{none-some, same_Some}
use Rattle.ip_match.proofs.DottedLemmas.{HasOctets, octets_in, dotted_text, cuts_are}
use Rattle.ip_match.proofs.dotted.read_v4.Goals.{In_ok-third}
use Rattle.ip_match.proofs.dotted.read_v4.Goals as goal

-- the four parts, once three cuts are made
cuts : (c : In_ok-third) (number : ℕ) (octets : HasOctets c.args.text.now number) → (c.in_ok-first.first.now ≡ decimal octets.a) × (c.in_ok-second.second.now ≡ decimal octets.b) × (c.in_ok-third.third.now ≡ decimal octets.c) × (c.in_ok-third.fourth.now ≡ decimal octets.d)
cuts c number octets = cuts_are c.args.text.now c.in_ok-first.first.now c.in_ok-first.rest.now c.in_ok-second.second.now c.in_ok-second.rest.now c.in_ok-third.third.now c.in_ok-third.fourth.now number octets c.in_ok-first.ensures.parts c.in_ok-second.ensures.parts c.in_ok-third.ensures.parts

pub returns-in_err-first-clause-only : goal.returns-in_err-first-clause-only
returns-in_err-first-clause-only c = λ n h.
    let octets = octets_in c.args.text.now n h in
    absurd (cc (octets.parts, c.in_err-first.ensures.parts))

pub returns-in_err-second-clause-only : goal.returns-in_err-second-clause-only
returns-in_err-second-clause-only c = λ n h.
    let octets = octets_in c.args.text.now n h in
    absurd (cc (octets.parts, c.in_ok-first.ensures.parts, c.in_err-second.ensures.parts))

pub returns-in_err-third-clause-only : goal.returns-in_err-third-clause-only
returns-in_err-third-clause-only c = λ n h.
    let octets = octets_in c.args.text.now n h in
    absurd (cc (octets.parts, c.in_ok-first.ensures.parts, c.in_ok-second.ensures.parts, c.in_err-third.ensures.parts))

pub returns-in_err-first-2-clause-only : goal.returns-in_err-first-2-clause-only
returns-in_err-first-2-clause-only c = λ n h.
    let octets = octets_in c.args.text.now n h in
    let are = cuts (goal.at.returns-in_err-first-2-clause-only c).In_ok-third n octets in
    absurd (none-some octets.a (c.in_err-first-2.ensures.only octets.a octets.a_small are.0))

pub returns-in_err-second-2-clause-only : goal.returns-in_err-second-2-clause-only
returns-in_err-second-2-clause-only c = λ n h.
    let octets = octets_in c.args.text.now n h in
    let are = cuts (goal.at.returns-in_err-second-2-clause-only c).In_ok-third n octets in
    absurd (none-some octets.b (c.in_err-second-2.ensures.only octets.b octets.b_small are.1))

pub returns-in_err-third-2-clause-only : goal.returns-in_err-third-2-clause-only
returns-in_err-third-2-clause-only c = λ n h.
    let octets = octets_in c.args.text.now n h in
    let are = cuts (goal.at.returns-in_err-third-2-clause-only c).In_ok-third n octets in
    absurd (none-some octets.c (c.in_err-third-2.ensures.only octets.c octets.c_small are.2))

pub returns-in_err-fourth-clause-only : goal.returns-in_err-fourth-clause-only
returns-in_err-fourth-clause-only c = λ n h.
    let octets = octets_in c.args.text.now n h in
    let are = cuts (goal.at.returns-in_err-fourth-clause-only c).In_ok-third n octets in
    absurd (none-some octets.d (c.in_err-fourth.ensures.only octets.d octets.d_small are.3))

pub returns-clause-found : goal.returns-clause-found
returns-clause-found c =
    let a = c.in_ok-first-2.ensures.found in
    let b = c.in_ok-second-2.ensures.found in
    let third = c.in_ok-third-2.ensures.found in
    let fourth = c.in_ok-fourth.ensures.found in
    record {
      octets = c.in_ok-first-2.first ∷ c.in_ok-second-2.second ∷ c.in_ok-third-2.third ∷ c.in_ok-fourth.fourth ∷ [];
      four = refl;
      small = (a.1, (b.1, (third.1, (fourth.1, tt))));
      spelled = dotted_text c.args.text.now c.in_ok-first.first.now c.in_ok-first.rest.now c.in_ok-second.second.now c.in_ok-second.rest.now c.in_ok-third.third.now c.in_ok-third.fourth.now _ _ _ _ c.in_ok-first.ensures.parts c.in_ok-second.ensures.parts c.in_ok-third.ensures.parts a.0 b.0 third.0 fourth.0;
      value = omega (arith, c.from_be_bytes.ensures);
    }

pub returns-clause-only : goal.returns-clause-only
returns-clause-only c = λ n h.
    let octets = octets_in c.args.text.now n h in
    let are = cuts (goal.at.returns-clause-only c).In_ok-third n octets in
    let a = same_Some _ _ (c.in_ok-first-2.ensures.only octets.a octets.a_small are.0) in
    let b = same_Some _ _ (c.in_ok-second-2.ensures.only octets.b octets.b_small are.1) in
    let third = same_Some _ _ (c.in_ok-third-2.ensures.only octets.c octets.c_small are.2) in
    let fourth = same_Some _ _ (c.in_ok-fourth.ensures.only octets.d octets.d_small are.3) in
    let same : c.from_be_bytes.result ≡ n = omega (arith, c.from_be_bytes.ensures, octets.value, a, b, third, fourth) in
    ap Some same
