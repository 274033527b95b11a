use Rattle.std.proofs.Common.{◌∷◌, None, Some, ap, ◌∙◌, subst, sym, arith}
use Rattle.matcher_read.specs.Helps.Cuts.{begins_opening, cut, listed, marked}
use Rattle.matcher_read.specs.Tokens.{Token, placed, with_calls}
use Rattle.matcher_read.specs.Helps.TokenLists.{HasDigits, token_of}
use Rattle.matcher_read.proofs.ListLemmas.{IsListed, has_digits, listed-token, listed-end, at_end}
use Rattle.matcher_read.proofs.tokens.tokens_from.Goals as goal

pub invariant_of-result : goal.invariant_of-result
invariant_of-result c = record {
  counted = omega arith;
  few = omega arith;
  has_current = at_end c.args.text.now c.past_blanks-at.result.0.now c.past_blanks-at.ensures.front c.in_default.ensures.value;
}

none_left : (c : goal.After-front-in_default-1) → IsListed c.args.place c.args.text.now (listed None c.past_blanks-at.result.1 c.past_blanks-at.result.0.now)
none_left c = listed-end c.args.place c.past_blanks-at.result.1 c.args.text.now c.past_blanks-at.result.0.now c.past_blanks-at.ensures.place c.past_blanks-at.ensures.front

pub returns-in_default-clause-tokens : goal.returns-in_default-clause-tokens
returns-in_default-clause-tokens c = (none_left c).tokens

pub returns-in_default-clause-stray : goal.returns-in_default-clause-stray
returns-in_default-clause-stray c = (none_left c).stray

some_left : (c : goal.After-rest-2-1) → IsListed c.args.place c.args.text.now (listed (Some (placed c.past_blanks-at.result.1 (marked (token_of c.in-Some.token) (begins_opening c.past_blanks-next.result.0.now)))) c.past_blanks-next.result.1 c.past_blanks-next.result.0.now)
some_left c = listed-token c.args.place c.past_blanks-at.result.1 c.past_blanks-next.result.1 c.in-Some.size c.args.text.now c.past_blanks-at.result.0.now c.range_from.result.now c.past_blanks-next.result.0.now (token_of c.in-Some.token) c.past_blanks-at.ensures.place c.past_blanks-at.ensures.front c.in-Some.ensures.value c.range_from.ensures.value c.past_blanks-next.ensures.front c.past_blanks-next.ensures.place

pub returns-clause-tokens : goal.returns-clause-tokens
returns-clause-tokens c = ap (λ (t : Token). placed c.past_blanks-at.result.1 t ∷ with_calls (cut c.past_blanks-next.result.1 c.past_blanks-next.result.0.now).tokens) c.before-2.ensures ∙ (some_left c).tokens

pub returns-clause-stray : goal.returns-clause-stray
returns-clause-stray c = (some_left c).stray

pub invariant_of-result-2 : goal.invariant_of-result-2
invariant_of-result-2 c = record {
  counted = omega arith;
  few = omega arith;
  has_current = subst (λ (t : Token). HasDigits t) (sym c.before-2.ensures) (has_digits c.past_blanks-at.result.0.now (token_of c.in-Some.token) c.in-Some.size (begins_opening c.past_blanks-next.result.0.now) c.in-Some.ensures.value);
}
