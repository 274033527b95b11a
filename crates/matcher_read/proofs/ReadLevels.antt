-- How what opens a level is read: members, calls, parentheses and signs.
use Rattle.std.proofs.Common.{◌≡◌, ℕ, suc, ◌+◌, Bool, true, false, cond, List, [], ◌∷◌, ◌++◌, length, codes, Option, Some, None, Err, refl, ap, sym, ◌∙◌, subst, arith, append_assoc, length-append}
use Rattle.std.proofs.lemmas.Bool.{and_from, false≢true}
use Rattle.std.specs.List.{list_all}
use Rattle.matcher_read.specs.Calls.{callee_of, is_known, takes}
use Rattle.matcher_read.specs.Expression.{Expression, among, call, expressions_of, count}
use Rattle.matcher_read.specs.Helps.Given.{fresh, entry, Gives, holds_list}
use Rattle.matcher_read.specs.Grammar.{cmp_rule, sum_rule, prim_rule, Derives, by_members, by_call}
use Rattle.matcher_read.specs.Helps.Machine.{Lefts, Frame, Kind, members, arguments, wants, has, has_members, opens, State, Rank, term_rank, sum_rank, comparing_rank, and_rank, or_rank, rank, is_in, joins, asks, no_lefts, levels_of, depth, step, call_fault, verdict, state_of, with_operand, pushed, closes, final_value}
use Rattle.matcher_read.specs.Matcher.{most_levels, is_sound, are_sound, is_closed}
use Rattle.matcher_read.specs.Helps.Parsed.{StopsAt, Read, Fails, ReachesList, ReadList, FailsList}
use Rattle.matcher_read.specs.Helps.TakenTokens.{may_follow, follows, head_is, is_closing, Takes, IsUnexpected}
use Rattle.matcher_read.specs.Helps.TokenLists.{TokenList}
use Rattle.matcher_read.specs.Tokens.{Placed, placed, Token, operator}
use Rattle.matcher_read.specs.Tokens as token
use Rattle.matcher_read.specs.declared.fault.MatcherFault.{MatcherFault}
use Rattle.matcher_read.specs.declared.fault.MatcherFault.TheVariants.{UnknownFunction, WrongArguments}
use Rattle.matcher_read.proofs.CallLemmas.{count_is}
use Rattle.matcher_read.proofs.Gives.{step_in, step_called, closing_behind}
use Rattle.matcher_read.proofs.RunLists.{takes_known}
use Rattle.matcher_read.proofs.Passes.{verdict_next, verdict_meets}
use Rattle.matcher_read.proofs.ReadSteps.{verdict_stops, quiet}
use Rattle.matcher_read.proofs.ReadParts.{closed_join, small_depth}
use Rattle.matcher_read.proofs.ReadLists.{framed_final, over_opening, FailsOpening, opening_fails}

-- ---- a list in parentheses, behind what opens it

abbrev pub list_frame : Kind → Lefts → Frame
list_frame kind l = record { kind = kind; outer = l; before = [] }

abbrev pub last_frame : Kind → Lefts → List Expression → Frame
last_frame kind l front = record { kind = kind; outer = l; before = front }

-- the list is read, and a parenthesis closes it
pub record Enclosed (n inside : ℕ) (es : List Expression) (before after : TokenList) : Type 0 where
  pub first_at : ℕ
  pub last_at : ℕ
  pub opened : TokenList
  pub listed : TokenList
  pub levels : n ≡ suc inside
  pub opening : Takes (placed first_at token.opening) before opened
  pub list : ReadList inside is_closing es opened listed
  pub closing : Takes (placed last_at token.closing) listed after

pub enclosed : {n inside first_at last_at : ℕ} {es : List Expression} {before opened listed after : TokenList} → n ≡ suc inside → Takes (placed first_at token.opening) before opened
    → ReadList inside is_closing es opened listed → Takes (placed last_at token.closing) listed after → Enclosed n inside es before after
enclosed {n} {inside} {first_at} {last_at} {es} {before} {opened} {listed} {after} e o ls c = record { first_at = first_at; last_at = last_at; opened = opened; listed = listed; levels = e; opening = o; list = ls; closing = c }

-- its tokens
abbrev pub enclosed_tokens : {n inside : ℕ} {es : List Expression} {before after : TokenList} → Enclosed n inside es before after → List Placed
enclosed_tokens p = placed p.first_at token.opening ∷ p.list.read.front ++ placed p.last_at token.closing ∷ []

enclosed_are : {n inside : ℕ} {es : List Expression} {before after : TokenList} (p : Enclosed n inside es before after) → before.tokens ≡ enclosed_tokens p ++ after.tokens
enclosed_are {n} {inside} {es} {before} {after} p =
    p.opening.tokens
    ∙ ap (λ (ts : List Placed). placed p.first_at token.opening ∷ ts) (p.list.read.tokens ∙ ap (λ (ts : List Placed). p.list.read.front ++ ts) p.closing.tokens ∙ sym (append_assoc p.list.read.front (placed p.last_at token.closing ∷ []) after.tokens))

pub closed_end : (ts : List Placed) (t : Placed) → is_closed t.token ≡ true → list_all (λ (t : Placed). is_closed t.token) ts ≡ true → list_all (λ (t : Placed). is_closed t.token) (ts ++ t ∷ []) ≡ true
closed_end ts t h k = closed_join ts [] t h k refl

pub enclosed_depth : (inside n levels : ℕ) → n ≡ suc inside → levels + n ≡ most_levels → suc levels + inside ≡ most_levels
enclosed_depth inside n levels e h = omega (arith, e, h)

-- the state behind the last expression
enclosed_reaches : {n inside : ℕ} {es : List Expression} {before after : TokenList} (p : Enclosed n inside es before after) (kind : Kind) (l : Lefts) (frames : List Frame) → holds_list kind ≡ true
    → depth (state_of (opens kind) l frames) + n ≡ most_levels → ReachesList es is_closing (list_frame kind l) frames p.opened.tokens p.listed.tokens
enclosed_reaches {n} {inside} p kind l frames holds h = p.list.reaches (list_frame kind l) frames holds (enclosed_depth inside n (length l.signs + levels_of frames) p.levels h)

-- the machine goes over the list and the parenthesis that closes it
over_enclosed : {n inside : ℕ} {es : List Expression} {before after : TokenList} (p : Enclosed n inside es before after) (kind : Kind) (l : Lefts) (frames : List Frame) (next : State) (size : ℕ) (stray : Option ℕ) → (holds : holds_list kind ≡ true)
    → (h : depth (state_of (opens kind) l frames) + n ≡ most_levels) → ((front : List Expression) (last : Expression) → es ≡ front ++ last ∷ [] → closes (last_frame kind l front ∷ frames) last ≡ Some next)
    → ((front : List Expression) (last : Expression) → es ≡ front ++ last ∷ [] → call_fault (last_frame kind l front ∷ frames) ≡ None)
    → verdict size stray (state_of (opens kind) l frames) before.tokens ≡ verdict size stray next after.tokens
over_enclosed {n} {inside} {es} {before} {after} p kind l frames next size stray holds h closed fine =
    let k = enclosed_reaches p kind l frames holds h in
    ap (verdict size stray (state_of (opens kind) l frames)) p.opening.tokens ∙ over_opening n inside p.first_at kind l frames p.opened.tokens size stray p.levels h ∙ k.same size stray
    ∙ ap (verdict size stray k.state) p.closing.tokens
    ∙ verdict_next size stray k.state next (placed p.last_at token.closing) after.tokens (closing_behind p.last_at no_lefts (last_frame kind l k.front ∷ frames) k.state k.last k.gives ∙ closed k.front k.last k.whole)
    (ap (λ (s : State). call_fault s.frames) k.gives.2 ∙ fine k.front k.last k.whole)

-- ---- members

members_stop : (e : Expression) (l : Lefts) (frames : List Frame) (at : ℕ) (t : Token) → may_follow cmp_rule t ≡ false → step (state_of (has_members e) l frames) (placed at t) ≡ None
unfolding step
members_stop e l frames at (token.operator o) h = by_rank (rank o) h
  where
    by_rank : (r : Rank) → follows cmp_rule r ≡ false → joins r at o l frames e ≡ None
    by_rank term_rank h = refl
    by_rank sum_rank h = refl
    by_rank comparing_rank h = refl
    by_rank and_rank h = absurd (false≢true (sym h))
    by_rank or_rank h = absurd (false≢true (sym h))
members_stop e l frames at token.closing h = absurd (false≢true (sym h))
members_stop e l frames at token.comma h = absurd (false≢true (sym h))
members_stop e l frames at _ h = refl

head_members_stop : (e : Expression) (l : Lefts) (frames : List Frame) (ts : List Placed) → head_is (may_follow cmp_rule) ts ≡ false → StopsAt (state_of (has_members e) l frames) ts
head_members_stop e l frames [] h = tt
head_members_stop e l frames (t ∷ ts) h = members_stop e l frames t.at t.token h

abbrev pub in_token : ℕ → Placed
in_token at = placed at (token.name (codes "in" ∷ []))

-- the machine goes over `in`
over_in : (n at : ℕ) (l : Lefts) (frames : List Frame) (s : State) (e : Expression) (behind : List Placed) (size : ℕ) (stray : Option ℕ) → depth (entry cmp_rule l frames) + n ≡ most_levels → Gives sum_rule (fresh cmp_rule l) frames s e
    → verdict size stray s (in_token at ∷ behind) ≡ verdict size stray (state_of (opens (members at e)) (fresh cmp_rule l) frames) behind
over_in n at l frames s e behind size stray h g =
    let next = state_of (opens (members at e)) (fresh cmp_rule l) frames in
    verdict_next size stray s next (in_token at) behind (step_in at l frames s e g) (quiet at (depth next) (small_depth (depth next) n h))

pub read_members : {n inside at : ℕ} {e : Expression} {es : List Expression} {before middle behind after : TokenList} → Read n sum_rule sum_rule e before middle → Takes (in_token at) middle behind → Enclosed n inside es behind after
    → Read n cmp_rule cmp_rule (among at e (expressions_of es)) before after
read_members {n} {inside} {at} {e} {es} {before} {middle} {behind} {after} r t p = record {
  read = record {
    front = r.read.front ++ (in_token at ∷ enclosed_tokens p);
    tokens = r.read.tokens ∙ ap (λ (ts : List Placed). r.read.front ++ ts) (t.tokens ∙ ap (λ (ts : List Placed). in_token at ∷ ts) (enclosed_are p)) ∙ sym (append_assoc r.read.front (in_token at ∷ enclosed_tokens p) after.tokens);
    stray = p.closing.stray ∙ p.list.read.stray ∙ p.opening.stray ∙ t.stray ∙ r.read.stray;
    size = p.closing.size ∙ p.list.read.size ∙ p.opening.size ∙ t.size ∙ r.read.size;
    derived = subst (λ (levels : ℕ). Derives levels cmp_rule (r.read.front ++ (in_token at ∷ enclosed_tokens p)) (among at e (expressions_of es))) (sym p.levels)
        (by_members p.first_at p.last_at (subst (λ (levels : ℕ). Derives levels sum_rule r.read.front e) p.levels r.read.derived) p.list.read.derived
        (sym (append_assoc r.read.front (in_token at ∷ placed p.first_at token.opening ∷ p.list.read.front) (placed p.last_at token.closing ∷ []))));
    sound = and_from (is_sound e) (are_sound (expressions_of es)) r.read.sound p.list.read.sound;
    closed = closed_join r.read.front (enclosed_tokens p) (in_token at) refl r.read.closed (closed_end p.list.read.front (placed p.last_at token.closing) refl p.list.read.closed);
  };
  reaches = λ l frames h.
      let first = r.reaches (fresh cmp_rule l) frames h in
      let next = state_of (has_members (among at e (expressions_of es))) (fresh cmp_rule l) frames in
      record {
        state = next;
        gives = (has_members (among at e (expressions_of es)), no_lefts, refl, refl);
        same = λ size stray.
            first.same size stray ∙ ap (verdict size stray first.state) t.tokens ∙ over_in n at l frames first.state e behind.tokens size stray h first.gives
            ∙ over_enclosed p (members at e) (fresh cmp_rule l) frames next size stray refl h
            (λ front last whole. ap (λ (xs : List Expression). Some (state_of (has_members (among at e (expressions_of xs))) (fresh cmp_rule l) frames)) (sym whole)) (λ front last whole. refl);
        stops = head_members_stop (among at e (expressions_of es)) (fresh cmp_rule l) frames after.tokens;
      };
}

-- ---- what fails in the parentheses of a list

pub record FailsEnclosed (n : ℕ) (fault : MatcherFault) (before : TokenList) : Type 0 where
  pub told : (kind : Kind) (l : Lefts) (frames : List Frame) → holds_list kind ≡ true → depth (state_of (opens kind) l frames) + n ≡ most_levels
      → verdict before.size before.stray (state_of (opens kind) l frames) before.tokens ≡ Err fault

pub opening_fails_list : {n : ℕ} {fault : MatcherFault} {before : TokenList} → FailsOpening n before fault → FailsEnclosed n fault before
opening_fails_list {n} {fault} {before} f = record { told = λ kind l frames holds h. opening_fails n kind l frames before fault h f }

pub list_fails_enclosed : {n inside at : ℕ} {fault : MatcherFault} {before opened : TokenList} → n ≡ suc inside → Takes (placed at token.opening) before opened → FailsList inside fault opened → FailsEnclosed n fault before
list_fails_enclosed {n} {inside} {at} {fault} {before} {opened} e o f = record {
  told = λ kind l frames holds h.
      ap (verdict before.size before.stray (state_of (opens kind) l frames)) o.tokens ∙ over_opening n inside at kind l frames opened.tokens before.size before.stray e h
      ∙ ap (λ (size : ℕ). verdict size before.stray (pushed kind l frames) opened.tokens) (sym o.size) ∙ ap (λ (stray : Option ℕ). verdict opened.size stray (pushed kind l frames) opened.tokens) (sym o.stray)
      ∙ f.told (list_frame kind l) frames holds (enclosed_depth inside n (length l.signs + levels_of frames) e h);
}

-- nothing but a closing parenthesis goes on
pub unexpected_here : (before listed : TokenList) (fault : MatcherFault) (s : State) → listed.stray ≡ before.stray → listed.size ≡ before.size → StopsAt s listed.tokens → final_value s ≡ None → IsUnexpected is_closing listed fault
    → verdict before.size before.stray s listed.tokens ≡ Err fault
unexpected_here before listed fault s p q stops none u =
    ap (λ (size : ℕ). verdict size before.stray s listed.tokens) (sym q) ∙ ap (λ (stray : Option ℕ). verdict listed.size stray s listed.tokens) (sym p)
    ∙ verdict_stops listed.size listed.stray s listed.tokens stops none ∙ ap (λ (f : MatcherFault). Err f) (sym u.told_there)

pub closing_fails_enclosed : {n inside at : ℕ} {es : List Expression} {fault : MatcherFault} {before opened listed : TokenList} → n ≡ suc inside → Takes (placed at token.opening) before opened → ReadList inside is_closing es opened listed
    → IsUnexpected is_closing listed fault → FailsEnclosed n fault before
closing_fails_enclosed {n} {inside} {at} {es} {fault} {before} {opened} {listed} e o ls u = record {
  told = λ kind l frames holds h.
      let k = ls.reaches (list_frame kind l) frames holds (enclosed_depth inside n (length l.signs + levels_of frames) e h) in
      ap (verdict before.size before.stray (state_of (opens kind) l frames)) o.tokens ∙ over_opening n inside at kind l frames opened.tokens before.size before.stray e h ∙ k.same before.size before.stray
      ∙ unexpected_here before listed fault k.state (ls.read.stray ∙ o.stray) (ls.read.size ∙ o.size) (k.stops u.head) (framed_final k.state k.gives.0 (record k.gives.1 { signs = [] }) (last_frame kind l k.front) frames k.gives.2) u;
}

pub fails_members : {n at : ℕ} {e : Expression} {fault : MatcherFault} {before middle behind : TokenList} → Read n sum_rule sum_rule e before middle → Takes (in_token at) middle behind → FailsEnclosed n fault behind → Fails n cmp_rule fault before
fails_members {n} {at} {e} {fault} {before} {middle} {behind} r t f = record {
  told = λ l frames h.
      let first = r.reaches (fresh cmp_rule l) frames h in
      let next = state_of (opens (members at e)) (fresh cmp_rule l) frames in
      first.same before.size before.stray ∙ ap (verdict before.size before.stray first.state) t.tokens ∙ over_in n at l frames first.state e behind.tokens before.size before.stray h first.gives
      ∙ ap (λ (size : ℕ). verdict size before.stray next behind.tokens) (sym (t.size ∙ r.read.size)) ∙ ap (λ (stray : Option ℕ). verdict behind.size stray next behind.tokens) (sym (t.stray ∙ r.read.stray))
      ∙ f.told (members at e) (fresh cmp_rule l) frames refl h;
}

-- ---- operands

operand_stops : (x : Expression) (l : Lefts) (frames : List Frame) (at : ℕ) (t : Token) → may_follow prim_rule t ≡ false → step (state_of (has x) l frames) (placed at t) ≡ None
unfolding step
operand_stops x l frames at (token.operator o) h = absurd (false≢true (sym h))
operand_stops x l frames at (token.name parts) h = by_word (is_in parts) h
  where
    by_word : (b : Bool) → cond b true false ≡ false → cond b (asks at l frames x) None ≡ None
    by_word true h = absurd (false≢true (sym h))
    by_word false h = refl
operand_stops x l frames at token.closing h = absurd (false≢true (sym h))
operand_stops x l frames at token.comma h = absurd (false≢true (sym h))
operand_stops x l frames at _ h = refl

pub head_operand_stops : (x : Expression) (l : Lefts) (frames : List Frame) (ts : List Placed) → head_is (may_follow prim_rule) ts ≡ false → StopsAt (state_of (has x) l frames) ts
head_operand_stops x l frames [] h = tt
head_operand_stops x l frames (t ∷ ts) h = operand_stops x l frames t.at t.token h

-- ---- calls

abbrev pub called_token : ℕ → List (List ℕ) → Placed
called_token at parts = placed at (token.called parts)

over_called : (at : ℕ) (parts : List (List ℕ)) (l : Lefts) (frames : List Frame) (behind : List Placed) (size : ℕ) (stray : Option ℕ) → is_known (callee_of parts) ≡ true
    → verdict size stray (state_of wants l frames) (called_token at parts ∷ behind) ≡ verdict size stray (state_of (opens (arguments at parts)) l frames) behind
over_called at parts l frames behind size stray known =
    verdict_next size stray (state_of wants l frames) (state_of (opens (arguments at parts)) l frames) (called_token at parts) behind (step_called at parts l frames) (ap (λ (b : Bool). cond b None (Some (UnknownFunction at))) known)

count_last : (es front : List Expression) (last : Expression) → es ≡ front ++ last ∷ [] → length front + 1 ≡ count (expressions_of es)
count_last es front last e = omega (arith, count_is es, ap length e, length-append front (last ∷ []))

pub read_call : {n inside at : ℕ} {parts : List (List ℕ)} {es : List Expression} {before behind after : TokenList} → Takes (called_token at parts) before behind → Enclosed n inside es behind after → takes (callee_of parts) (count (expressions_of es)) ≡ true
    → Read n prim_rule prim_rule (call at (callee_of parts) (expressions_of es)) before after
read_call {n} {inside} {at} {parts} {es} {before} {behind} {after} t p right = record {
  read = record {
    front = called_token at parts ∷ enclosed_tokens p;
    tokens = t.tokens ∙ ap (λ (ts : List Placed). called_token at parts ∷ ts) (enclosed_are p);
    stray = p.closing.stray ∙ p.list.read.stray ∙ p.opening.stray ∙ t.stray;
    size = p.closing.size ∙ p.list.read.size ∙ p.opening.size ∙ t.size;
    derived = subst (λ (levels : ℕ). Derives levels prim_rule (called_token at parts ∷ enclosed_tokens p) (call at (callee_of parts) (expressions_of es))) (sym p.levels) (by_call p.first_at p.last_at p.list.read.derived refl);
    sound = and_from (takes (callee_of parts) (count (expressions_of es))) (are_sound (expressions_of es)) right p.list.read.sound;
    closed = closed_end p.list.read.front (placed p.last_at token.closing) refl p.list.read.closed;
  };
  reaches = λ l frames h.
      let made = call at (callee_of parts) (expressions_of es) in
      record {
        state = with_operand l frames made;
        gives = refl;
        same = λ size stray.
            ap (verdict size stray (state_of wants l frames)) t.tokens ∙ over_called at parts l frames behind.tokens size stray (takes_known (callee_of parts) (count (expressions_of es)) right)
            ∙ over_enclosed p (arguments at parts) l frames (with_operand l frames made) size stray refl h
            (λ front last whole. ap (λ (xs : List Expression). Some (with_operand l frames (call at (callee_of parts) (expressions_of xs)))) (sym whole))
            (λ front last whole. ap (λ (k : ℕ). cond (takes (callee_of parts) k) None (Some (WrongArguments at))) (count_last es front last whole) ∙ ap (λ (b : Bool). cond b None (Some (WrongArguments at))) right);
        stops = head_operand_stops _ _ frames after.tokens;
      };
}

pub fails_call : {n at : ℕ} {parts : List (List ℕ)} {fault : MatcherFault} {before behind : TokenList} → Takes (called_token at parts) before behind → is_known (callee_of parts) ≡ true → FailsEnclosed n fault behind → Fails n prim_rule fault before
fails_call {n} {at} {parts} {fault} {before} {behind} t known f = record {
  told = λ l frames h.
      let next = state_of (opens (arguments at parts)) l frames in
      ap (verdict before.size before.stray (state_of wants l frames)) t.tokens ∙ over_called at parts l frames behind.tokens before.size before.stray known
      ∙ ap (λ (size : ℕ). verdict size before.stray next behind.tokens) (sym t.size) ∙ ap (λ (stray : Option ℕ). verdict behind.size stray next behind.tokens) (sym t.stray)
      ∙ f.told (arguments at parts) l frames refl h;
}

-- another number of arguments
pub fails_arguments : {n inside at : ℕ} {parts : List (List ℕ)} {es : List Expression} {before behind after : TokenList} → Takes (called_token at parts) before behind → is_known (callee_of parts) ≡ true → Enclosed n inside es behind after
    → takes (callee_of parts) (count (expressions_of es)) ≡ false → Fails n prim_rule (WrongArguments at) before
fails_arguments {n} {inside} {at} {parts} {es} {before} {behind} {after} t known p wrong = record {
  told = λ l frames h.
      let size = before.size in
      let stray = before.stray in
      let kind = arguments at parts in
      let k = enclosed_reaches p kind l frames refl h in
      let next = with_operand l frames (call at (callee_of parts) (expressions_of (k.front ++ k.last ∷ []))) in
      ap (verdict size stray (state_of wants l frames)) t.tokens ∙ over_called at parts l frames behind.tokens size stray known
      ∙ ap (verdict size stray (state_of (opens kind) l frames)) p.opening.tokens ∙ over_opening n inside p.first_at kind l frames p.opened.tokens size stray p.levels h ∙ k.same size stray
      ∙ ap (verdict size stray k.state) p.closing.tokens
      ∙ verdict_meets size stray k.state next (placed p.last_at token.closing) after.tokens (WrongArguments at) (closing_behind p.last_at no_lefts (last_frame kind l k.front ∷ frames) k.state k.last k.gives)
      (ap (λ (s : State). call_fault s.frames) k.gives.2
      ∙ ap (λ (m : ℕ). cond (takes (callee_of parts) m) None (Some (WrongArguments at))) (count_last es k.front k.last k.whole) ∙ ap (λ (b : Bool). cond b None (Some (WrongArguments at))) wrong);
}
