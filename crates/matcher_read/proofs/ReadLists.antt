-- How lists, and what stands in parentheses, are read.
use Rattle.std.proofs.Common.{◌≡◌, ℕ, suc, ◌+◌, Bool, true, false, cond, List, [], ◌∷◌, ◌++◌, Option, None, Err, refl, ap, sym, ◌∙◌, subst, arith, append_assoc, append-nil, inl, inr, ◌⊎◌}
use Rattle.std.proofs.lemmas.Bool.{and_from, and_parts, false≢true}
use Rattle.matcher_read.specs.Expression.{Expression, Expressions, no_more, one_more, expressions_of}
use Rattle.matcher_read.specs.Helps.Given.{Gives, holds_list}
use Rattle.matcher_read.specs.Grammar.{or_rule, Derives, DerivesList, by_last, by_more}
use Rattle.matcher_read.specs.Helps.Machine.{is_in, parts, Lefts, Frame, Kind, Control, wants, opens, State, no_lefts, levels_of, depth, step, verdict, state_of, pushed, final_value}
use Rattle.matcher_read.specs.Matcher.{most_levels, is_sound, are_sound}
use Rattle.matcher_read.specs.Helps.Parsed.{StopsAt, Read, Fails, ReadList, FailsList}
use Rattle.matcher_read.specs.Helps.TakenTokens.{may_follow, head_is, is_closing, is_opening, is_comma, Takes, Stays, IsUnexpected, ToldAt}
use Rattle.matcher_read.specs.Helps.TokenLists.{TokenList}
use Rattle.matcher_read.specs.Tokens.{Placed, placed, Token, operator}
use Rattle.matcher_read.specs.Tokens as token
use Rattle.matcher_read.specs.declared.fault.MatcherFault.{MatcherFault}
use Rattle.matcher_read.specs.declared.fault.MatcherFault.TheVariants.{TooDeep}
use Rattle.matcher_read.proofs.Gives.{step_opens, comma_at, comma_behind, with_one}
use Rattle.matcher_read.proofs.Passes.{verdict_next, verdict_meets}
use Rattle.matcher_read.proofs.ReadSteps.{verdict_stops, quiet, loud}
use Rattle.matcher_read.proofs.ReadParts.{derived_as, fails_in, read_join}

-- ---- a list as tokens

-- one more expression at the end
abbrev and_last : Expressions → Expression → Expressions
and_last no_more e = one_more e no_more
and_last (one_more x xs) e = one_more x (and_last xs e)

and_last_is : (es : List Expression) (e : Expression) → expressions_of (es ++ e ∷ []) ≡ and_last (expressions_of es) e
and_last_is [] e = refl
and_last_is (x ∷ es) e = ap (one_more x) (and_last_is es e)

derives_last : (at : ℕ) {n : ℕ} {ts us : List Placed} {e : Expression} {es : Expressions} → DerivesList n ts es → Derives n or_rule us e → DerivesList n (ts ++ placed at token.comma ∷ us) (and_last es e)
derives_last at (by_last d) k = by_more at d (by_last k) refl
derives_last at {n} {ts} {us} {e} (by_more there {first = first} {others = others} d ds same) k =
    by_more there d (derives_last at ds k) (ap (λ (xs : List Placed). xs ++ placed at token.comma ∷ us) same ∙ append_assoc first (placed there token.comma ∷ others) (placed at token.comma ∷ us))

sound_last : (es : Expressions) (e : Expression) → are_sound es ≡ true → is_sound e ≡ true → are_sound (and_last es e) ≡ true
sound_last no_more e p q = and_from (is_sound e) true q refl
sound_last (one_more x es) e p q = let parts = and_parts (is_sound x) (are_sound es) p in and_from (is_sound x) (are_sound (and_last es e)) parts.0 (sound_last es e parts.1 q)

-- ---- the machine in a list

inside : Frame → List Frame → List Expression → State → Expression → Type 0
inside frame frames before s e = Gives or_rule no_lefts (record frame { before = before } ∷ frames) s e

pub list_first : {n : ℕ} {e : Expression} {before after : TokenList} → Read n or_rule or_rule e before after → ReadList n (may_follow or_rule) (e ∷ []) before after
unfolding inside
list_first {n} {e} {before} {after} r = record {
  read = derived_as r.read (and_from (is_sound e) true r.read.sound refl) (by_last r.read.derived);
  reaches = λ frame frames kind h.
      let k = r.reaches no_lefts (frame ∷ frames) (omega (arith, h)) in
      record {
        state = k.state;
        front = [];
        last = e;
        whole = refl;
        gives = subst (λ (b : List Expression). inside frame frames b k.state e) (sym (append-nil frame.before)) k.gives;
        same = k.same;
        stops = k.stops;
      };
}

pub list_fails : {n : ℕ} {fault : MatcherFault} {before : TokenList} → Fails n or_rule fault before → FailsList n fault before
list_fails f = record { told = λ frame frames kind h. f.told no_lefts (frame ∷ frames) (omega (arith, h)) }

-- the machine goes over a comma
over_comma : (n at : ℕ) (frame : Frame) (frames : List Frame) (s : State) (last : Expression) (behind : List Placed) (size : ℕ) (stray : Option ℕ) → holds_list frame.kind ≡ true → levels_of (frame ∷ frames) + n ≡ most_levels
    → Gives or_rule no_lefts (frame ∷ frames) s last → verdict size stray s (placed at token.comma ∷ behind) ≡ verdict size stray (state_of wants no_lefts (with_one frame last ∷ frames)) behind
over_comma n at frame frames s last behind size stray kind h g =
    let next = state_of wants no_lefts (with_one frame last ∷ frames) in
    verdict_next size stray s next (placed at token.comma) behind (comma_behind at no_lefts frame frames s last kind g) (quiet at (depth next) (omega (arith, h)))

pub list_more : {n at : ℕ} {es : List Expression} {e : Expression} {before middle behind after : TokenList} → ReadList n (may_follow or_rule) es before middle → Takes (placed at token.comma) middle behind
    → Read n or_rule or_rule e behind after → ReadList n (may_follow or_rule) (es ++ e ∷ []) before after
unfolding inside
list_more {n} {at} {es} {e} {before} {middle} {behind} {after} r t k = record {
  read = read_join r.read t k.read refl (ap are_sound (and_last_is es e) ∙ sound_last (expressions_of es) e r.read.sound k.read.sound)
      (subst (λ (xs : Expressions). DerivesList n (r.read.front ++ placed at token.comma ∷ k.read.front) xs) (sym (and_last_is es e)) (derives_last at r.read.derived k.read.derived));
  reaches = λ frame frames kind h.
      let first = r.reaches frame frames kind h in
      let open_frame : Frame = record frame { before = frame.before ++ first.front } in
      let behind_comma : Frame = with_one open_frame first.last in
      let second = k.reaches no_lefts (behind_comma ∷ frames) (omega (arith, h)) in
      record {
        state = second.state;
        front = es;
        last = e;
        whole = refl;
        gives = subst (λ (b : List Expression). inside frame frames b second.state e) (append_assoc frame.before first.front (first.last ∷ []) ∙ ap (λ (xs : List Expression). frame.before ++ xs) (sym first.whole)) second.gives;
        same = λ size stray.
            first.same size stray ∙ ap (verdict size stray first.state) t.tokens ∙ over_comma n at open_frame frames first.state first.last behind.tokens size stray kind h first.gives ∙ second.same size stray;
        stops = second.stops;
      };
}

pub list_fails_behind : {n at : ℕ} {es : List Expression} {fault : MatcherFault} {before middle behind : TokenList} → ReadList n (may_follow or_rule) es before middle → Takes (placed at token.comma) middle behind
    → Fails n or_rule fault behind → FailsList n fault before
list_fails_behind {n} {at} {es} {fault} {before} {middle} {behind} r t k = record {
  told = λ frame frames kind h.
      let first = r.reaches frame frames kind h in
      let open_frame : Frame = record frame { before = frame.before ++ first.front } in
      first.same before.size before.stray ∙ ap (verdict before.size before.stray first.state) t.tokens
      ∙ over_comma n at open_frame frames first.state first.last behind.tokens before.size before.stray kind h first.gives
      ∙ fails_in n or_rule fault before behind no_lefts (with_one open_frame first.last ∷ frames) (t.stray ∙ r.read.stray) (t.size ∙ r.read.size) (omega (arith, h)) k;
}

-- where no comma stands next, nothing but a closing parenthesis goes on
pub no_comma : (t : Token) → is_closing t ≡ false → is_comma t ≡ false → may_follow or_rule t ≡ false
no_comma (token.name parts) p q = neither_way (is_in parts)
  where
    neither_way : (b : Bool) → cond b false false ≡ false
    neither_way true = refl
    neither_way false = refl
no_comma token.closing p q = p
no_comma token.comma p q = q
no_comma _ p q = refl

-- nor does a comma where no list is open
pub no_list_stops : (frames : List Frame) (s : State) (e : Expression) (at : ℕ) (t : Token) → Gives or_rule no_lefts frames s e → parts frames e ≡ None
    → (is_closing t ≡ true → step s (placed at token.closing) ≡ None) → (may_follow or_rule t ≡ false → step s (placed at t) ≡ None) → step s (placed at t) ≡ None
no_list_stops frames s e at token.comma g none p h = comma_at at no_lefts frames s e g ∙ none
no_list_stops frames s e at token.closing g none p h = p refl
no_list_stops frames s e at (token.name names) g none p h = h (no_comma (token.name names) refl refl)
no_list_stops frames s e at _ g none p h = h refl

head_no_comma : (ts : List Placed) → head_is is_closing ts ≡ false → head_is is_comma ts ≡ false → head_is (may_follow or_rule) ts ≡ false
head_no_comma [] p q = refl
head_no_comma (t ∷ ts) p q = no_comma t.token p q

pub list_end : {n : ℕ} {es : List Expression} {before middle after : TokenList} → ReadList n (may_follow or_rule) es before middle → Stays is_comma middle after → ReadList n is_closing es before after
list_end {n} {es} {before} {middle} {after} r stays = let P : TokenList → Type 0 = λ list. ReadList n is_closing es before list in subst P (sym stays.same) (record {
  read = r.read;
  reaches = λ frame frames kind h.
      let k = r.reaches frame frames kind h in
      record { state = k.state; front = k.front; last = k.last; whole = k.whole; gives = k.gives; same = k.same; stops = λ p. k.stops (head_no_comma middle.tokens p stays.head) };
})

-- ---- what opens a level

-- nothing is complete where a parenthesis has to open, or in parentheses
opens_final : (kind : Kind) (l : Lefts) (frames : List Frame) → final_value (state_of (opens kind) l frames) ≡ None
opens_final kind l [] = refl
opens_final kind l (frame ∷ frames) = refl

pub framed_final : (s : State) (c : Control) (l : Lefts) (frame : Frame) (frames : List Frame) → s ≡ state_of c l (frame ∷ frames) → final_value s ≡ None
framed_final s c l frame frames e = ap final_value e

no_opening : (kind : Kind) (l : Lefts) (frames : List Frame) (at : ℕ) (t : Token) → is_opening t ≡ false → step (state_of (opens kind) l frames) (placed at t) ≡ None
unfolding step
no_opening kind l frames at token.opening h = absurd (false≢true (sym h))
no_opening kind l frames at _ h = refl

head_no_opening : (kind : Kind) (l : Lefts) (frames : List Frame) (ts : List Placed) → head_is is_opening ts ≡ false → StopsAt (state_of (opens kind) l frames) ts
head_no_opening kind l frames [] h = tt
head_no_opening kind l frames (t ∷ ts) h = no_opening kind l frames t.at t.token h

-- the machine goes over a parenthesis that opens
pub over_opening : (n inside at : ℕ) (kind : Kind) (l : Lefts) (frames : List Frame) (behind : List Placed) (size : ℕ) (stray : Option ℕ) → n ≡ suc inside → depth (state_of (opens kind) l frames) + n ≡ most_levels
    → verdict size stray (state_of (opens kind) l frames) (placed at token.opening ∷ behind) ≡ verdict size stray (pushed kind l frames) behind
over_opening n inside at kind l frames behind size stray e h =
    verdict_next size stray (state_of (opens kind) l frames) (pushed kind l frames) (placed at token.opening) behind (step_opens at kind l frames) (quiet at (depth (pushed kind l frames)) (omega (arith, h, e)))

-- a fault where a parenthesis has to open
abbrev pub FailsOpening : ℕ → TokenList → MatcherFault → Type 0
FailsOpening levels before fault = IsUnexpected is_opening before fault ⊎ ToldAt is_opening TooDeep before fault × (levels ≡ 0)

pub opening_is : (t : Placed) → is_opening t.token ≡ true → t ≡ placed t.at token.opening
opening_is t h = ap (placed t.at) (by_token t.token h)
  where
    by_token : (t : Token) → is_opening t ≡ true → t ≡ token.opening
    by_token token.opening h = refl
    by_token _ h = absurd (false≢true h)

pub opening_fails : (n : ℕ) (kind : Kind) (l : Lefts) (frames : List Frame) (before : TokenList) (fault : MatcherFault) → depth (state_of (opens kind) l frames) + n ≡ most_levels → FailsOpening n before fault
    → verdict before.size before.stray (state_of (opens kind) l frames) before.tokens ≡ Err fault
opening_fails n kind l frames before fault h (inl u) =
    verdict_stops before.size before.stray (state_of (opens kind) l frames) before.tokens (head_no_opening kind l frames before.tokens u.head) (opens_final kind l frames) ∙ ap (λ (f : MatcherFault). Err f) (sym u.told_there)
opening_fails n kind l frames before fault h (inr (d, none)) =
    ap (verdict before.size before.stray (state_of (opens kind) l frames)) (d.tokens ∙ ap (λ (t : Placed). t ∷ d.others) (opening_is d.first d.passes))
    ∙ verdict_meets before.size before.stray (state_of (opens kind) l frames) (pushed kind l frames) (placed d.first.at token.opening) d.others (TooDeep d.first.at) (step_opens d.first.at kind l frames)
    (loud d.first.at (depth (pushed kind l frames)) (omega (arith, h, none)))
    ∙ ap (λ (f : MatcherFault). Err f) (sym d.told_there)
