-- How operands are read: what stands in parentheses, behind signs, and alone.
use Rattle.std.proofs.Common.{◌≡◌, ℕ, zero, suc, ◌+◌, ◌<◌, ◌≤◌, nat_lt, pos, Bool, true, false, cond, List, [], ◌∷◌, ◌++◌, codes, Option, Some, None, option_map, Result, Ok, Err, refl, ap, sym, ◌∙◌, subst, arith, append_assoc, inl, inr}
use Rattle.std.proofs.lemmas.Bool.{and_from, false≢true, ne_eqb}
use Rattle.std.specs.List.{list_all}
use Rattle.std.specs.Option.{ok_or}
use Rattle.std.specs.Result.{result_ok}
use Rattle.std.specs.Str.{bytes_eq}
use Rattle.std.specs.Str.Parse.{digits_value}
use Rattle.matcher_read.specs.Calls.{callee_of, is_known}
use Rattle.matcher_read.specs.Expression.{Expression, text, whole, truth, request, evaluated}
use Rattle.matcher_read.specs.Helps.Given.{entry, Gives}
use Rattle.matcher_read.specs.Grammar.{or_rule, unary_rule, prim_rule, Derives, by_parentheses, by_negation, by_opposite, by_text, by_number, by_eval}
use Rattle.matcher_read.specs.Helps.NameParts.{policy_of}
use Rattle.matcher_read.specs.Helps.Machine.{Lefts, Frame, parentheses, wants, opens, State, no_lefts, depth, levels_at, step, token_fault, call_fault, verdict, state_of, with_operand, pushed, name_operand, final_value, arguments, parts}
use Rattle.matcher_read.specs.Matcher.{most_levels, first_wide, is_sound, is_closed}
use Rattle.matcher_read.specs.Helps.Parsed.{StopsAt, Read, Fails}
use Rattle.matcher_read.specs.Helps.TakenTokens.{may_follow, head_is, is_closing, is_opening, is_sign, is_minus, is_called, is_strange, Takes, IsUnexpected, ToldAt, sign_token, signed_by, operand_of, first_operand}
use Rattle.matcher_read.specs.Helps.TokenLists.{TokenList, end_of}
use Rattle.matcher_read.specs.Tokens.{Placed, placed, Token, operator}
use Rattle.matcher_read.specs.Tokens as token
use Rattle.matcher_read.specs.declared.fault.MatcherFault.{MatcherFault}
use Rattle.matcher_read.specs.declared.fault.MatcherFault.TheVariants.{Unexpected, OpenText, NumberTooWide, UnknownFunction, TooDeep}
use Rattle.matcher_read.specs.declared.tree.Operator.{Operator}
use Rattle.matcher_read.specs.declared.tree.Operator.TheVariants as op
use Rattle.matcher_read.specs.declared.words.Sign.{Sign}
use Rattle.matcher_read.specs.declared.words.Sign.TheVariants as sign
use Rattle.matcher_read.proofs.Gives.{step_called, step_parenthesis, step_negation, step_opposite, step_unclosed, step_number, step_eval, closing_behind}
use Rattle.matcher_read.proofs.OpenSteps.{AreDerived, name_derived}
use Rattle.matcher_read.proofs.Passes.{verdict_next, verdict_meets}
use Rattle.matcher_read.proofs.ReadSteps.{verdict_stops, quiet, loud}
use Rattle.matcher_read.proofs.ReadParts.{fails_in}
use Rattle.matcher_read.proofs.ReadLists.{framed_final, no_list_stops, FailsOpening, opening_is}
use Rattle.matcher_read.proofs.ReadLevels.{list_frame, called_token, head_operand_stops, closed_end, unexpected_here}

-- ---- parentheses

over_parenthesis : (n inside at : ℕ) (l : Lefts) (frames : List Frame) (behind : List Placed) (size : ℕ) (stray : Option ℕ) → n ≡ suc inside → depth (state_of wants l frames) + n ≡ most_levels
    → verdict size stray (state_of wants l frames) (placed at token.opening ∷ behind) ≡ verdict size stray (pushed parentheses l frames) behind
over_parenthesis n inside at l frames behind size stray e h =
    verdict_next size stray (state_of wants l frames) (pushed parentheses l frames) (placed at token.opening) behind (step_parenthesis at l frames) (quiet at (depth (pushed parentheses l frames)) (omega (arith, h, e)))

inner_depth : (inside n : ℕ) (l : Lefts) (frames : List Frame) → n ≡ suc inside → depth (state_of wants l frames) + n ≡ most_levels → depth (entry or_rule no_lefts (list_frame parentheses l ∷ frames)) + inside ≡ most_levels
inner_depth inside n l frames e h = omega (arith, e, h)

pub read_parentheses : {n inside first_at last_at : ℕ} {e : Expression} {before opened middle after : TokenList} → n ≡ suc inside → Takes (placed first_at token.opening) before opened → Read inside or_rule or_rule e opened middle
    → Takes (placed last_at token.closing) middle after → Read n prim_rule prim_rule e before after
read_parentheses {n} {inside} {first_at} {last_at} {e} {before} {opened} {middle} {after} levels o r c = record {
  read = record {
    front = placed first_at token.opening ∷ r.read.front ++ placed last_at token.closing ∷ [];
    tokens = o.tokens
        ∙ ap (λ (ts : List Placed). placed first_at token.opening ∷ ts) (r.read.tokens ∙ ap (λ (ts : List Placed). r.read.front ++ ts) c.tokens ∙ sym (append_assoc r.read.front (placed last_at token.closing ∷ []) after.tokens));
    stray = c.stray ∙ r.read.stray ∙ o.stray;
    size = c.size ∙ r.read.size ∙ o.size;
    derived = subst (λ (k : ℕ). Derives k prim_rule (placed first_at token.opening ∷ r.read.front ++ placed last_at token.closing ∷ []) e) (sym levels) (by_parentheses first_at last_at r.read.derived refl);
    sound = r.read.sound;
    closed = closed_end r.read.front (placed last_at token.closing) refl r.read.closed;
  };
  reaches = λ l frames h.
      let k = r.reaches no_lefts (list_frame parentheses l ∷ frames) (inner_depth inside n l frames levels h) in
      record {
        state = with_operand l frames e;
        gives = refl;
        same = λ size stray.
            ap (verdict size stray (state_of wants l frames)) o.tokens ∙ over_parenthesis n inside first_at l frames opened.tokens size stray levels h ∙ k.same size stray ∙ ap (verdict size stray k.state) c.tokens
            ∙ verdict_next size stray k.state (with_operand l frames e) (placed last_at token.closing) after.tokens (closing_behind last_at no_lefts (list_frame parentheses l ∷ frames) k.state e k.gives)
            (ap (λ (s : State). call_fault s.frames) k.gives.2);
        stops = head_operand_stops _ _ frames after.tokens;
      };
}

not_unexpected : {A : Type 0} (ts : List Placed) → head_is is_opening ts ≡ true → head_is is_opening ts ≡ false → A
not_unexpected ts p q = absurd (false≢true (sym q ∙ p))

pub fails_at_parenthesis : {n : ℕ} {fault : MatcherFault} {before : TokenList} → head_is is_opening before.tokens ≡ true → FailsOpening n before fault → Fails n prim_rule fault before
fails_at_parenthesis {n} {fault} {before} here (inl u) = not_unexpected before.tokens here u.head
fails_at_parenthesis {n} {fault} {before} here (inr (d, none)) = record {
  told = λ l frames h.
      ap (verdict before.size before.stray (state_of wants l frames)) (d.tokens ∙ ap (λ (t : Placed). t ∷ d.others) (opening_is d.first d.passes))
      ∙ verdict_meets before.size before.stray (state_of wants l frames) (pushed parentheses l frames) (placed d.first.at token.opening) d.others (TooDeep d.first.at) (step_parenthesis d.first.at l frames)
      (loud d.first.at (depth (pushed parentheses l frames)) (omega (arith, h, none)))
      ∙ ap (λ (f : MatcherFault). Err f) (sym d.told_there);
}

pub fails_in_parentheses : {n inside at : ℕ} {fault : MatcherFault} {before opened : TokenList} → n ≡ suc inside → Takes (placed at token.opening) before opened → Fails inside or_rule fault opened → Fails n prim_rule fault before
fails_in_parentheses {n} {inside} {at} {fault} {before} {opened} levels o f = record {
  told = λ l frames h.
      ap (verdict before.size before.stray (state_of wants l frames)) o.tokens ∙ over_parenthesis n inside at l frames opened.tokens before.size before.stray levels h
      ∙ fails_in inside or_rule fault before opened no_lefts (list_frame parentheses l ∷ frames) o.stray o.size (inner_depth inside n l frames levels h) f;
}

-- behind an expression in parentheses, nothing but a closing parenthesis goes on
head_inside_stops : (l : Lefts) (frames : List Frame) (s : State) (e : Expression) (ts : List Placed) → Gives or_rule no_lefts (list_frame parentheses l ∷ frames) s e → head_is is_closing ts ≡ false
    → (head_is (may_follow or_rule) ts ≡ false → StopsAt s ts) → StopsAt s ts
head_inside_stops l frames s e [] g p h = tt
head_inside_stops l frames s e (t ∷ ts) g p h = no_list_stops (list_frame parentheses l ∷ frames) s e t.at t.token g refl (λ closing. absurd (false≢true (sym p ∙ closing))) h

pub fails_behind_parentheses : {n inside at : ℕ} {e : Expression} {fault : MatcherFault} {before opened middle : TokenList} → n ≡ suc inside → Takes (placed at token.opening) before opened → Read inside or_rule or_rule e opened middle
    → IsUnexpected is_closing middle fault → Fails n prim_rule fault before
fails_behind_parentheses {n} {inside} {at} {e} {fault} {before} {opened} {middle} levels o r u = record {
  told = λ l frames h.
      let k = r.reaches no_lefts (list_frame parentheses l ∷ frames) (inner_depth inside n l frames levels h) in
      ap (verdict before.size before.stray (state_of wants l frames)) o.tokens ∙ over_parenthesis n inside at l frames opened.tokens before.size before.stray levels h ∙ k.same before.size before.stray
      ∙ unexpected_here before middle fault k.state (r.read.stray ∙ o.stray) (r.read.size ∙ o.size) (head_inside_stops l frames k.state e middle.tokens k.gives u.head k.stops)
      (framed_final k.state k.gives.0 (record k.gives.1 { signs = [] }) (list_frame parentheses l) frames k.gives.2) u;
}

-- ---- signs

-- a sign as the machine keeps it
abbrev kept : Sign → ℕ × Bool
kept (sign.Not at) = (at, true)
kept (sign.Negate at) = (at, false)

abbrev with_sign : Sign → Lefts → Lefts
with_sign s l = record l { signs = kept s ∷ l.signs }

step_sign : (s : Sign) (l : Lefts) (frames : List Frame) → step (state_of wants l frames) (sign_token s) ≡ Some (state_of wants (with_sign s l) frames)
step_sign (sign.Not at) l frames = step_negation at l frames
step_sign (sign.Negate at) l frames = step_opposite at l frames

sign_quiet : (s : Sign) (before next : State) → depth next ≤ most_levels → token_fault before next (sign_token s).at (sign_token s).token ≡ None
sign_quiet (sign.Not at) before next h = quiet at (depth next) h
sign_quiet (sign.Negate at) before next h = quiet at (depth next) h

over_sign : (s : Sign) (n inside : ℕ) (l : Lefts) (frames : List Frame) (behind : List Placed) (size : ℕ) (stray : Option ℕ) → n ≡ suc inside → depth (state_of wants l frames) + n ≡ most_levels
    → verdict size stray (state_of wants l frames) (sign_token s ∷ behind) ≡ verdict size stray (state_of wants (with_sign s l) frames) behind
over_sign s n inside l frames behind size stray e h =
    let next = state_of wants (with_sign s l) frames in
    verdict_next size stray (state_of wants l frames) next (sign_token s) behind (step_sign s l frames) (sign_quiet s (state_of wants l frames) next (omega (arith, h, e)))

sign_derives : (s : Sign) (n : ℕ) (ts : List Placed) (e : Expression) → Derives n unary_rule ts e → Derives (suc n) unary_rule (sign_token s ∷ ts) (signed_by s e)
sign_derives (sign.Not at) n ts e d = by_negation d
sign_derives (sign.Negate at) n ts e d = by_opposite d

sign_sound : (s : Sign) (e : Expression) → is_sound (signed_by s e) ≡ is_sound e
sign_sound (sign.Not at) e = refl
sign_sound (sign.Negate at) e = refl

sign_closed : (s : Sign) (ts : List Placed) → list_all (λ (t : Placed). is_closed t.token) (sign_token s ∷ ts) ≡ list_all (λ (t : Placed). is_closed t.token) ts
sign_closed (sign.Not at) ts = refl
sign_closed (sign.Negate at) ts = refl

sign_operand : (s : Sign) (l : Lefts) (frames : List Frame) (e : Expression) → with_operand (with_sign s l) frames e ≡ with_operand l frames (signed_by s e)
sign_operand (sign.Not at) l frames e = refl
sign_operand (sign.Negate at) l frames e = refl

pub read_signed : (s : Sign) {n inside : ℕ} {e : Expression} {before behind after : TokenList} → n ≡ suc inside → Takes (sign_token s) before behind → Read inside unary_rule unary_rule e behind after
    → Read n unary_rule unary_rule (signed_by s e) before after
read_signed s {n} {inside} {e} {before} {behind} {after} levels t r = record {
  read = record {
    front = sign_token s ∷ r.read.front;
    tokens = t.tokens ∙ ap (λ (ts : List Placed). sign_token s ∷ ts) r.read.tokens;
    stray = r.read.stray ∙ t.stray;
    size = r.read.size ∙ t.size;
    derived = subst (λ (k : ℕ). Derives k unary_rule (sign_token s ∷ r.read.front) (signed_by s e)) (sym levels) (sign_derives s inside r.read.front e r.read.derived);
    sound = sign_sound s e ∙ r.read.sound;
    closed = sign_closed s r.read.front ∙ r.read.closed;
  };
  reaches = λ l frames h.
      let k = r.reaches (with_sign s l) frames (omega (arith, h, levels)) in
      record {
        state = k.state;
        gives = k.gives ∙ sign_operand s l frames e;
        same = λ size stray. ap (verdict size stray (state_of wants l frames)) t.tokens ∙ over_sign s n inside l frames behind.tokens size stray levels h ∙ k.same size stray;
        stops = k.stops;
      };
}

pub fails_signed : (s : Sign) {n inside : ℕ} {fault : MatcherFault} {before behind : TokenList} → n ≡ suc inside → Takes (sign_token s) before behind → Fails inside unary_rule fault behind → Fails n unary_rule fault before
fails_signed s {n} {inside} {fault} {before} {behind} levels t f = record {
  told = λ l frames h.
      ap (verdict before.size before.stray (state_of wants l frames)) t.tokens ∙ over_sign s n inside l frames behind.tokens before.size before.stray levels h
      ∙ fails_in inside unary_rule fault before behind (with_sign s l) frames t.stray t.size (omega (arith, h, levels)) f;
}

-- the token is that of a sign
sign_is : (t : Placed) → is_sign t.token ≡ true → (s : Sign) × (t ≡ sign_token s)
sign_is t h = by_token t.token h
  where
    by_operator : (o : Operator) → is_minus o ≡ true → (s : Sign) × (placed t.at (operator o) ≡ sign_token s)
    by_operator op.Minus h = (sign.Negate t.at, refl)
    by_operator _ h = absurd (false≢true h)

    by_token : (k : Token) → is_sign k ≡ true → (s : Sign) × (placed t.at k ≡ sign_token s)
    by_token token.exclamation h = (sign.Not t.at, refl)
    by_token (operator o) h = by_operator o h
    by_token (token.name parts) h = absurd (false≢true h)
    by_token (token.called parts) h = absurd (false≢true h)
    by_token (token.eval at_opening column) h = absurd (false≢true h)
    by_token (token.number digits) h = absurd (false≢true h)
    by_token (token.text bytes) h = absurd (false≢true h)
    by_token (token.unclosed bytes) h = absurd (false≢true h)
    by_token token.opening h = absurd (false≢true h)
    by_token token.closing h = absurd (false≢true h)
    by_token token.comma h = absurd (false≢true h)

sign_loud : (s : Sign) (before next : State) → most_levels < depth next → token_fault before next (sign_token s).at (sign_token s).token ≡ Some (TooDeep (sign_token s).at)
sign_loud (sign.Not at) before next h = loud at (depth next) h
sign_loud (sign.Negate at) before next h = loud at (depth next) h

pub fails_at_sign : {n : ℕ} {fault : MatcherFault} {before : TokenList} → ToldAt is_sign TooDeep before fault → n ≡ 0 → Fails n unary_rule fault before
fails_at_sign {n} {fault} {before} d none = record {
  told = λ l frames h.
      let s = sign_is d.first d.passes in
      let next = state_of wants (with_sign s.0 l) frames in
      ap (verdict before.size before.stray (state_of wants l frames)) (d.tokens ∙ ap (λ (t : Placed). t ∷ d.others) s.1)
      ∙ verdict_meets before.size before.stray (state_of wants l frames) next (sign_token s.0) d.others (TooDeep (sign_token s.0).at) (step_sign s.0 l frames)
      (sign_loud s.0 (state_of wants l frames) next (omega (arith, h, none)))
      ∙ ap (λ (t : Placed). Err (TooDeep t.at)) (sym s.1) ∙ ap (λ (f : MatcherFault). Err f) (sym d.told_there);
}

-- ---- called names

pub fails_at_call : {n : ℕ} {fault : MatcherFault} {before : TokenList} → ToldAt is_strange UnknownFunction before fault → Fails n prim_rule fault before
fails_at_call {n} {fault} {before} d = record {
  told = λ l frames h.
      let c = strange_is d.first d.passes in
      ap (verdict before.size before.stray (state_of wants l frames)) (d.tokens ∙ ap (λ (t : Placed). t ∷ d.others) c.1)
      ∙ verdict_meets before.size before.stray (state_of wants l frames) (state_of (opens (arguments d.first.at c.0)) l frames) (called_token d.first.at c.0) d.others (UnknownFunction d.first.at) (step_called d.first.at c.0 l frames)
      (ap (λ (b : Bool). cond b None (Some (UnknownFunction d.first.at))) c.2)
      ∙ ap (λ (f : MatcherFault). Err f) (sym d.told_there);
}
  where
    unknown_is : (b : Bool) → cond b false true ≡ true → b ≡ false
    unknown_is true h = absurd (false≢true h)
    unknown_is false h = refl

    by_token : (at : ℕ) (k : Token) → is_strange k ≡ true → (parts : List (List ℕ)) × (placed at k ≡ called_token at parts) × (is_known (callee_of parts) ≡ false)
    by_token at (token.called parts) h = (parts, refl, unknown_is (is_known (callee_of parts)) h)
    by_token at _ h = absurd (false≢true h)

    strange_is : (t : Placed) → is_strange t.token ≡ true → (parts : List (List ℕ)) × (t ≡ called_token t.at parts) × (is_known (callee_of parts) ≡ false)
    strange_is t h = by_token t.at t.token h

-- ---- literals and names

number_test : (levels at : ℕ) (digits : List ℕ) (e : Expression) → operand_of levels at (token.number digits) ≡ Ok e → (nat_lt (digits_value 10 digits) first_wide ≡ true) × (whole at (pos (digits_value 10 digits)) ≡ e)
number_test levels at digits e h = by_test (nat_lt (digits_value 10 digits) first_wide) h
  where
    by_test : (b : Bool) → cond b (Ok (whole at (pos (digits_value 10 digits)))) (Err (NumberTooWide at)) ≡ Ok e → (b ≡ true) × (whole at (pos (digits_value 10 digits)) ≡ e)
    by_test true h = (refl, cc)
    by_test false h = absurd cc

name_test : (levels at : ℕ) (parts : List (List ℕ)) (e : Expression) → operand_of levels at (token.name parts) ≡ Ok e → name_operand at parts ≡ Some e
name_test levels at parts e h = ok_is (name_operand at parts) h
  where
    ok_is : (o : Option Expression) → ok_or o (Unexpected at) ≡ Ok e → o ≡ Some e
    ok_is None h = absurd cc
    ok_is (Some x) h = ap result_ok h

-- the parenthesis of `eval ( p.column )` wants a level
some_level : (levels at at_opening : ℕ) (column : List ℕ) → operand_of (suc levels) at (token.eval at_opening column) ≡ Ok (evaluated at column)
some_level levels at at_opening column = ap (λ (b : Bool). cond b (Err (TooDeep at_opening)) (Ok (evaluated at column))) (ne_eqb (suc levels) 0 (λ e. absurd (omega (arith, e))))

eval_test : (levels at at_opening : ℕ) (column : List ℕ) (e : Expression) → operand_of (suc levels) at (token.eval at_opening column) ≡ Ok e → evaluated at column ≡ e
eval_test levels at at_opening column e h = let same : Ok (evaluated at column) ≡ Ok e = sym (some_level levels at at_opening column) ∙ h in cc

step_operand : (levels at : ℕ) (t : Token) (e : Expression) (l : Lefts) (frames : List Frame) → operand_of levels at t ≡ Ok e → step (state_of wants l frames) (placed at t) ≡ Some (with_operand l frames e)
unfolding step
step_operand levels at (token.text bytes) e l frames h = ap (λ (r : Result Expression MatcherFault). option_map (with_operand l frames) (result_ok r)) h
step_operand levels at (token.number digits) e l frames h = ap (λ (x : Expression). Some (with_operand l frames x)) (number_test levels at digits e h).1
step_operand zero at (token.eval at_opening column) e l frames h = absurd cc
step_operand (suc levels) at (token.eval at_opening column) e l frames h = ap (λ (x : Expression). Some (with_operand l frames x)) (eval_test levels at at_opening column e h)
step_operand levels at (token.name parts) e l frames h = ap (option_map (with_operand l frames)) (name_test levels at parts e h)
step_operand levels at _ e l frames h = absurd cc

abbrev sound_of : Option Expression → Bool
sound_of None = true
sound_of (Some e) = is_sound e

-- what a token alone derives, soundly and without an open text
record Alone (n : ℕ) (t : Placed) (e : Expression) : Type 0 where
  pub derived : Derives n prim_rule (t ∷ []) e
  pub sound : is_sound e ≡ true
  pub closed : is_closed t.token ≡ true
  pub small : (l : Lefts) (frames : List Frame) → depth (state_of wants l frames) + n ≡ most_levels → levels_at (state_of wants l frames) t.token (with_operand l frames e) ≤ most_levels
  pub quiet : (s next : State) → levels_at s t.token next ≤ most_levels → token_fault s next t.at t.token ≡ None

name_sound : (at : ℕ) (parts : List (List ℕ)) (e : Expression) → name_operand at parts ≡ Some e → is_sound e ≡ true
name_sound at [] e h = absurd cc
name_sound at (first ∷ []) e h = by_two (bytes_eq first (codes "true")) (bytes_eq first (codes "false")) h
  where
    by_two : (a b : Bool) → cond a (Some (truth at true)) (cond b (Some (truth at false)) None) ≡ Some e → is_sound e ≡ true
    by_two true b h = ap (λ (o : Option Expression). sound_of o) (sym h)
    by_two false true h = ap (λ (o : Option Expression). sound_of o) (sym h)
    by_two false false h = absurd cc
name_sound at (first ∷ column ∷ names) e h = by_two (bytes_eq first (codes "r")) (bytes_eq first (codes "p")) h
  where
    policy_sound : (others : List (List ℕ)) → policy_of at (column ∷ others) ≡ Some e → is_sound e ≡ true
    policy_sound [] h = ap (λ (o : Option Expression). sound_of o) (sym h)
    policy_sound (next ∷ others) h = absurd cc

    by_two : (a b : Bool) → cond a (Some (request at column names)) (cond b (policy_of at (column ∷ names)) None) ≡ Some e → is_sound e ≡ true
    by_two true b h = ap (λ (o : Option Expression). sound_of o) (sym h)
    by_two false true h = policy_sound names h
    by_two false false h = absurd cc

operand_alone : (n at : ℕ) (t : Token) (e : Expression) → operand_of n at t ≡ Ok e → Alone n (placed at t) e
operand_alone n at (token.text bytes) e h = let same : text at bytes ≡ e = cc in record {
  derived = subst (λ (x : Expression). Derives n prim_rule (placed at (token.text bytes) ∷ []) x) same by_text;
  sound = ap is_sound (sym same);
  closed = refl;
  small = λ l frames few. omega (arith, few);
  quiet = λ s next small. quiet at (depth next) small;
}
operand_alone zero at (token.eval at_opening column) e h = absurd cc
operand_alone (suc n) at (token.eval at_opening column) e h = let same = eval_test n at at_opening column e h in record {
  derived = subst (λ (x : Expression). Derives (suc n) prim_rule (placed at (token.eval at_opening column) ∷ []) x) same by_eval;
  sound = ap is_sound (sym same);
  closed = refl;
  small = λ l frames few. omega (arith, few);
  quiet = λ s next small. quiet at_opening (suc (depth s)) small;
}
operand_alone n at (token.number digits) e h = let p = number_test n at digits e h in record {
  derived = subst (λ (x : Expression). Derives n prim_rule (placed at (token.number digits) ∷ []) x) p.1 by_number;
  sound = ap is_sound (sym p.1) ∙ p.0;
  closed = refl;
  small = λ l frames few. omega (arith, few);
  quiet = λ s next small. ap (λ (b : Bool). cond b None (Some (NumberTooWide at))) p.0;
}
operand_alone n at (token.name parts) e h = let p = name_test n at parts e h in record {
  derived = subst (AreDerived n (placed at (token.name parts) ∷ [])) p (name_derived n at parts);
  sound = name_sound at parts e p;
  closed = refl;
  small = λ l frames few. omega (arith, few);
  quiet = λ s next small. quiet at (depth next) small;
}
operand_alone n at _ e h = absurd cc

pub read_operand : {n : ℕ} {first : Placed} {e : Expression} {before after : TokenList} → Takes first before after → operand_of n first.at first.token ≡ Ok e → Read n prim_rule prim_rule e before after
read_operand {n} {first} {e} {before} {after} t h =
    let alone = operand_alone n first.at first.token e h in
    record {
      read = record {
        front = first ∷ [];
        tokens = t.tokens;
        stray = t.stray;
        size = t.size;
        derived = alone.derived;
        sound = alone.sound;
        closed = and_from (is_closed first.token) true alone.closed refl;
      };
      reaches = λ l frames small. record {
        state = with_operand l frames e;
        gives = refl;
        same = λ size stray.
            ap (verdict size stray (state_of wants l frames)) t.tokens
            ∙ verdict_next size stray (state_of wants l frames) (with_operand l frames e) first after.tokens (step_operand n first.at first.token e l frames h)
            (alone.quiet (state_of wants l frames) (with_operand l frames e) (alone.small l frames small));
        stops = head_operand_stops _ _ frames after.tokens;
      };
    }

-- where no operand stands

nothing_final : (l : Lefts) (frames : List Frame) → final_value (state_of wants l frames) ≡ None
nothing_final l [] = refl
nothing_final l (frame ∷ frames) = refl

number_fault : (levels at : ℕ) (digits : List ℕ) (fault : MatcherFault) → operand_of levels at (token.number digits) ≡ Err fault → (nat_lt (digits_value 10 digits) first_wide ≡ false) × (NumberTooWide at ≡ fault)
number_fault levels at digits fault h = by_test (nat_lt (digits_value 10 digits) first_wide) h
  where
    by_test : (b : Bool) → cond b (Ok (whole at (pos (digits_value 10 digits)))) (Err (NumberTooWide at)) ≡ Err fault → (b ≡ false) × (NumberTooWide at ≡ fault)
    by_test true h = absurd cc
    by_test false h = (refl, cc)

name_fault : (levels at : ℕ) (parts : List (List ℕ)) (fault : MatcherFault) → operand_of levels at (token.name parts) ≡ Err fault → (name_operand at parts ≡ None) × (Unexpected at ≡ fault)
name_fault levels at parts fault h = by_name (name_operand at parts) h
  where
    by_name : (o : Option Expression) → ok_or o (Unexpected at) ≡ Err fault → (o ≡ None) × (Unexpected at ≡ fault)
    by_name None h = (refl, cc)
    by_name (Some e) h = absurd cc

-- an operator that is no sign
step_no_sign : (at : ℕ) (o : Operator) (l : Lefts) (frames : List Frame) → is_minus o ≡ false → step (state_of wants l frames) (placed at (operator o)) ≡ None
unfolding step
step_no_sign at op.Minus l frames h = absurd (false≢true (sym h))
step_no_sign at _ l frames h = refl

step_name : (at : ℕ) (names : List (List ℕ)) (l : Lefts) (frames : List Frame) → name_operand at names ≡ None → step (state_of wants l frames) (placed at (token.name names)) ≡ None
unfolding step
step_name at names l frames h = ap (option_map (with_operand l frames)) h

step_closing_none : (at : ℕ) (l : Lefts) (frames : List Frame) → step (state_of wants l frames) (placed at token.closing) ≡ None
unfolding step
step_closing_none at l frames = refl

step_comma_none : (at : ℕ) (l : Lefts) (frames : List Frame) → step (state_of wants l frames) (placed at token.comma) ≡ None
unfolding step
step_comma_none at l frames = refl

told_at : (levels at : ℕ) (t : Token) (fault : MatcherFault) (behind : List Placed) (size : ℕ) (stray : Option ℕ) (l : Lefts) (frames : List Frame) → depth (state_of wants l frames) + levels ≡ most_levels → is_sign t ≡ false → is_opening t ≡ false → is_called t ≡ false → operand_of levels at t ≡ Err fault
    → verdict size stray (state_of wants l frames) (placed at t ∷ behind) ≡ Err fault
told_at levels at (token.unclosed bytes) fault behind size stray l frames few a b c h =
    verdict_meets size stray (state_of wants l frames) (with_operand l frames (text at bytes)) (placed at (token.unclosed bytes)) behind (OpenText at) (step_unclosed at bytes l frames) refl ∙ ap (λ (f : MatcherFault). Err f) (let same : OpenText at ≡ fault = cc in same)
told_at levels at (token.number digits) fault behind size stray l frames few a b c h =
    let p = number_fault levels at digits fault h in
    verdict_meets size stray (state_of wants l frames) (with_operand l frames (whole at (pos (digits_value 10 digits)))) (placed at (token.number digits)) behind (NumberTooWide at) (step_number at digits l frames)
    (ap (λ (b : Bool). cond b None (Some (NumberTooWide at))) p.0)
    ∙ ap (λ (f : MatcherFault). Err f) p.1
told_at levels at (token.name names) fault behind size stray l frames few a b c h =
    let p = name_fault levels at names fault h in
    verdict_stops size stray (state_of wants l frames) (placed at (token.name names) ∷ behind) (step_name at names l frames p.0) (nothing_final l frames) ∙ ap (λ (f : MatcherFault). Err f) p.1
told_at levels at (operator o) fault behind size stray l frames few a b c h =
    verdict_stops size stray (state_of wants l frames) (placed at (operator o) ∷ behind) (step_no_sign at o l frames a) (nothing_final l frames) ∙ h
told_at zero at (token.eval at_opening column) fault behind size stray l frames few a b c h =
    let same : TooDeep at_opening ≡ fault = cc in
    verdict_meets size stray (state_of wants l frames) (with_operand l frames (evaluated at column)) (placed at (token.eval at_opening column)) behind (TooDeep at_opening) (step_eval at at_opening column l frames)
    (loud at_opening (suc (depth (state_of wants l frames))) (omega (arith, few)))
    ∙ ap (λ (f : MatcherFault). Err f) same
told_at (suc levels) at (token.eval at_opening column) fault behind size stray l frames few a b c h =
    absurd (let bad : Ok (evaluated at column) ≡ Err fault = sym (some_level levels at at_opening column) ∙ h in cc)
told_at levels at token.closing fault behind size stray l frames few a b c h =
    verdict_stops size stray (state_of wants l frames) (placed at token.closing ∷ behind) (step_closing_none at l frames) (nothing_final l frames) ∙ h
told_at levels at token.comma fault behind size stray l frames few a b c h =
    verdict_stops size stray (state_of wants l frames) (placed at token.comma ∷ behind) (step_comma_none at l frames) (nothing_final l frames) ∙ h
told_at levels at (token.text bytes) fault behind size stray l frames few a b c h = absurd cc
told_at levels at (token.called names) fault behind size stray l frames few a b c h = absurd (false≢true (sym c))
told_at levels at token.exclamation fault behind size stray l frames few a b c h = absurd (false≢true (sym a))
told_at levels at token.opening fault behind size stray l frames few a b c h = absurd (false≢true (sym b))

pub fails_operand : {n : ℕ} {fault : MatcherFault} {before : TokenList} → head_is is_sign before.tokens ≡ false → head_is is_opening before.tokens ≡ false → head_is is_called before.tokens ≡ false
    → first_operand n before.tokens (end_of before.stray before.size) ≡ Err fault → Fails n prim_rule fault before
fails_operand {n} {fault} {before} a b c h = record { told = λ l frames small. by_first l frames before.tokens small a b c h }
  where
    by_first : (l : Lefts) (frames : List Frame) (ts : List Placed) → depth (state_of wants l frames) + n ≡ most_levels → head_is is_sign ts ≡ false → head_is is_opening ts ≡ false → head_is is_called ts ≡ false → first_operand n ts (end_of before.stray before.size) ≡ Err fault
        → verdict before.size before.stray (state_of wants l frames) ts ≡ Err fault
    by_first l frames [] small a b c h = verdict_stops before.size before.stray (state_of wants l frames) [] tt (nothing_final l frames) ∙ h
    by_first l frames (t ∷ ts) small a b c h = told_at n t.at t.token fault ts before.size before.stray l frames small a b c h
