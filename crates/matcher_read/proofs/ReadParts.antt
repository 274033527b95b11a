-- How parts of an expression that were read make the whole, by a rule with operators.
use Rattle.std.proofs.Common.{◌≡◌, ℕ, ◌+◌, ◌≤◌, Bool, true, false, cond, List, [], ◌∷◌, ◌++◌, length, Option, Some, None, Err, refl, ap, sym, ◌∙◌, subst, arith, append_assoc}
use Rattle.std.proofs.lemmas.Bool.{and_from, false≢true}
use Rattle.std.proofs.lemmas.List.Folds.{list_all-append}
use Rattle.std.specs.List.{list_all}
use Rattle.matcher_read.specs.Expression.{Expression, binary}
use Rattle.matcher_read.specs.Helps.Given.{fresh, entry, Gives}
use Rattle.matcher_read.specs.Grammar.{Rule, cmp_rule, sum_rule, IsPartOf, and_or, cmp_and, sum_cmp, term_sum, unary_term, prim_unary, Joins, or_joins, and_joins, plus_joins, minus_joins, times_joins, over_joins, remainder_joins, by_part, by_join, by_comparison}
use Rattle.matcher_read.specs.Helps.Machine.{Lefts, Left, Frame, State, Rank, term_rank, sum_rank, comparing_rank, and_rank, or_rank, rank, is_in, levels_of, depth, step, verdict, has, state_of}
use Rattle.matcher_read.specs.Matcher.{most_levels, is_sound, is_closed}
use Rattle.matcher_read.specs.Helps.Parsed.{Front, StopsAt, Read, Fails}
use Rattle.matcher_read.specs.Helps.TakenTokens.{joins_by, follows, may_follow, goes_on_by, head_is, Takes, Stays}
use Rattle.matcher_read.specs.Helps.TokenLists.{TokenList}
use Rattle.matcher_read.specs.Tokens.{Placed, placed, Token, operator}
use Rattle.matcher_read.specs.Tokens as token
use Rattle.matcher_read.specs.declared.fault.MatcherFault.{MatcherFault}
use Rattle.matcher_read.specs.declared.tree.Operator.{Operator}
use Rattle.matcher_read.proofs.Gives.{gives_part, same_entry, Continues, join_continues, step_operates, compared_with, comparison_continues}
use Rattle.matcher_read.proofs.Ranks.{comparing_is, compares_is}
use Rattle.matcher_read.proofs.Passes.{verdict_next}
use Rattle.matcher_read.proofs.ReadSteps.{quiet}

-- ---- fronts of the tokens

pub closed_join : (left right : List Placed) (t : Placed) → is_closed t.token ≡ true → list_all (λ (t : Placed). is_closed t.token) left ≡ true → list_all (λ (t : Placed). is_closed t.token) right ≡ true
    → list_all (λ (t : Placed). is_closed t.token) (left ++ t ∷ right) ≡ true
closed_join left right t c p q = list_all-append (λ (t : Placed). is_closed t.token) left (t ∷ right) ∙ and_from _ _ p (and_from (is_closed t.token) _ c q)

tokens_join : (before left right middle behind after : List Placed) (t : Placed) → before ≡ left ++ middle → middle ≡ t ∷ behind → behind ≡ right ++ after → before ≡ (left ++ t ∷ right) ++ after
tokens_join before left right middle behind after t p q r = p ∙ ap (λ (xs : List Placed). left ++ xs) (q ∙ ap (λ (xs : List Placed). t ∷ xs) r) ∙ sym (append_assoc left (t ∷ right) after)

-- the same front, as it derives otherwise
pub derived_as : {D E : List Placed → Type 0} {a b : Bool} {before after : TokenList} (p : Front D a before after) → b ≡ true → E p.front → Front E b before after
derived_as p sound derived = record { front = p.front; tokens = p.tokens; stray = p.stray; size = p.size; derived = derived; sound = sound; closed = p.closed }

-- a token between two fronts
pub read_join : {C D E : List Placed → Type 0} {a b c : Bool} {t : Placed} {before middle behind after : TokenList} (p : Front C a before middle) → Takes t middle behind → (q : Front D b behind after)
    → is_closed t.token ≡ true → c ≡ true → E (p.front ++ t ∷ q.front) → Front E c before after
read_join {t = t} {before} {middle} {behind} {after} p takes q shut sound derived = record {
  front = p.front ++ t ∷ q.front;
  tokens = tokens_join before.tokens p.front q.front middle.tokens behind.tokens after.tokens t p.tokens takes.tokens q.tokens;
  stray = q.stray ∙ takes.stray ∙ p.stray;
  size = q.size ∙ takes.size ∙ p.size;
  derived = derived;
  sound = sound;
  closed = closed_join p.front q.front t shut p.closed q.closed;
}

-- ---- a part of a rule

same_depth : {part rule : Rule} (n : ℕ) (l : Lefts) (frames : List Frame) → IsPartOf part rule → depth (entry rule l frames) + n ≡ most_levels → depth (entry part (fresh rule l) frames) + n ≡ most_levels
same_depth n l frames i h = ap (λ (s : State). depth s + n) (same_entry l frames i) ∙ h

pub read_part : {n : ℕ} {part rule stop : Rule} {e : Expression} {before after : TokenList} → IsPartOf part rule → Read n part stop e before after → Read n rule stop e before after
read_part {n} {part} {rule} {stop} {e} {before} {after} i r = record {
  read = derived_as r.read r.read.sound (by_part i r.read.derived);
  reaches = λ l frames h.
      let k = r.reaches (fresh rule l) frames (same_depth n l frames i h) in
      record {
        state = k.state;
        gives = gives_part l frames k.state e i k.gives;
        same = λ size stray. ap (λ (s : State). verdict size stray s before.tokens) (sym (same_entry l frames i)) ∙ k.same size stray;
        stops = k.stops;
      };
}

pub fails_part : {n : ℕ} {part rule : Rule} {fault : MatcherFault} {before : TokenList} → IsPartOf part rule → Fails n part fault before → Fails n rule fault before
fails_part {n} {part} {rule} {fault} {before} i f = record {
  told = λ l frames h. ap (λ (s : State). verdict before.size before.stray s before.tokens) (sym (same_entry l frames i)) ∙ f.told (fresh rule l) frames (same_depth n l frames i h);
}

-- ---- an operator and another part

-- the rule and its part have no signs of their own
pub record Unsigned (rule : Rule) : Type 0 where
  pub unsigned : (l : Lefts) → (fresh rule l).signs ≡ []

part_depth : (rule part : Rule) (n : ℕ) (l inner : Lefts) (frames : List Frame) → Unsigned rule → (fresh part inner).signs ≡ [] → depth (entry rule l frames) + n ≡ most_levels → depth (entry part inner frames) + n ≡ most_levels
part_depth rule part n l inner frames u v h = ap (λ (signs : List (ℕ × Bool)). length signs + levels_of frames + n) (v ∙ sym (u.unsigned l)) ∙ h

pub small_depth : (d n : ℕ) → d + n ≡ most_levels → d ≤ most_levels
small_depth d n h = omega (arith, h)

-- the machine goes over an operator
over : {rule part : Rule} (n : ℕ) (at : ℕ) (o : Operator) (l : Lefts) (frames : List Frame) (s : State) (build : Expression → Expression) (behind : List Placed) (size : ℕ) (stray : Option ℕ)
    → Unsigned rule → (c : Continues rule part l frames s (placed at (operator o)) build) → depth (entry rule l frames) + n ≡ most_levels
    → verdict size stray s (placed at (operator o) ∷ behind) ≡ verdict size stray (entry part c.lefts frames) behind
over {rule} {part} n at o l frames s build behind size stray u c h =
    let next = entry part c.lefts frames in
    verdict_next size stray s next (placed at (operator o)) behind c.steps (quiet at (depth next) (small_depth (depth next) n (part_depth rule part n l c.lefts frames u c.unsigned h)))

-- the rules that have operators between their parts, or compare
unsigned_cmp : Unsigned cmp_rule
unsigned_cmp = record { unsigned = λ l. refl }

pub joins_unsigned : {o : Operator} {rule : Rule} → Joins o rule → Unsigned rule
joins_unsigned or_joins = record { unsigned = λ l. refl }
joins_unsigned and_joins = record { unsigned = λ l. refl }
joins_unsigned plus_joins = record { unsigned = λ l. refl }
joins_unsigned minus_joins = record { unsigned = λ l. refl }
joins_unsigned times_joins = record { unsigned = λ l. refl }
joins_unsigned over_joins = record { unsigned = λ l. refl }
joins_unsigned remainder_joins = record { unsigned = λ l. refl }

-- what is read behind an operator
pub read_joined : {n at : ℕ} {rule part stop : Rule} {o : Operator} {e f : Expression} {before middle behind after : TokenList} → Joins o rule → IsPartOf part rule
    → Read n rule part e before middle → Takes (placed at (operator o)) middle behind → Read n part stop f behind after → Read n rule stop (binary at o e f) before after
read_joined {n} {at} {rule} {part} {stop} {o} {e} {f} {before} {middle} {behind} {after} j i r t k = record {
  read = read_join r.read t k.read refl (and_from (is_sound e) (is_sound f) r.read.sound k.read.sound) (by_join j i r.read.derived k.read.derived refl);
  reaches = λ l frames h.
      let first = r.reaches l frames h in
      let c = join_continues at l frames first.state e j i first.gives in
      let second = k.reaches c.lefts frames (part_depth rule part n l c.lefts frames (joins_unsigned j) c.unsigned h) in
      record {
        state = second.state;
        gives = c.gives second.state f second.gives;
        same = λ size stray.
            first.same size stray ∙ ap (verdict size stray first.state) t.tokens ∙ over n at o l frames first.state (binary at o e) behind.tokens size stray (joins_unsigned j) c h ∙ second.same size stray;
        stops = second.stops;
      };
}

-- the verdict on tokens from which others were taken, in the same text
pub fails_in : (n : ℕ) (part : Rule) (fault : MatcherFault) (before behind : TokenList) (l : Lefts) (frames : List Frame) → behind.stray ≡ before.stray → behind.size ≡ before.size
    → depth (entry part l frames) + n ≡ most_levels → Fails n part fault behind → verdict before.size before.stray (entry part l frames) behind.tokens ≡ Err fault
fails_in n part fault before behind l frames p q h f =
    ap (λ (size : ℕ). verdict size before.stray (entry part l frames) behind.tokens) (sym q) ∙ ap (λ (stray : Option ℕ). verdict behind.size stray (entry part l frames) behind.tokens) (sym p) ∙ f.told l frames h

pub fails_joined : {n at : ℕ} {rule part : Rule} {o : Operator} {e : Expression} {fault : MatcherFault} {before middle behind : TokenList} → Joins o rule → IsPartOf part rule
    → Read n rule part e before middle → Takes (placed at (operator o)) middle behind → Fails n part fault behind → Fails n rule fault before
fails_joined {n} {at} {rule} {part} {o} {e} {fault} {before} {middle} {behind} j i r t k = record {
  told = λ l frames h.
      let first = r.reaches l frames h in
      let c = join_continues at l frames first.state e j i first.gives in
      first.same before.size before.stray ∙ ap (verdict before.size before.stray first.state) t.tokens
      ∙ over n at o l frames first.state (binary at o e) behind.tokens before.size before.stray (joins_unsigned j) c h
      ∙ fails_in n part fault before behind c.lefts frames (t.stray ∙ r.read.stray) (t.size ∙ r.read.size) (part_depth rule part n l c.lefts frames (joins_unsigned j) c.unsigned h) k;
}

-- ---- where a rule ends

-- the part of a rule stops before a token that neither follows the rule nor goes on with it
follows_part : {part rule : Rule} → IsPartOf part rule → (r : Rank) → follows rule r ≡ false → joins_by rule r ≡ false → follows part r ≡ false
follows_part and_or or_rank p q = q
follows_part and_or _ p q = p
follows_part cmp_and and_rank p q = q
follows_part cmp_and _ p q = p
follows_part sum_cmp comparing_rank p q = q
follows_part sum_cmp _ p q = p
follows_part term_sum sum_rank p q = q
follows_part term_sum _ p q = p
follows_part unary_term term_rank p q = q
follows_part unary_term _ p q = p
follows_part prim_unary _ p q = p

name_follows_part : {part rule : Rule} → IsPartOf part rule → (parts : List (List ℕ)) → may_follow rule (token.name parts) ≡ false → goes_on_by rule (token.name parts) ≡ false → may_follow part (token.name parts) ≡ false
name_follows_part and_or parts p q = p
name_follows_part cmp_and parts p q = p
name_follows_part sum_cmp parts p q = ap (λ (b : Bool). cond b true false) q
name_follows_part term_sum parts p q = p
name_follows_part unary_term parts p q = p
name_follows_part prim_unary parts p q = p

not_following : {part rule : Rule} → IsPartOf part rule → (t : Token) → may_follow rule t ≡ false → goes_on_by rule t ≡ false → may_follow part t ≡ false
not_following i (token.operator o) p q = follows_part i (rank o) p q
not_following i (token.name parts) p q = name_follows_part i parts p q
not_following i token.closing p q = p
not_following i token.comma p q = p
not_following i _ p q = refl

head_not_following : {part rule : Rule} → IsPartOf part rule → (ts : List Placed) → head_is (may_follow rule) ts ≡ false → head_is (goes_on_by rule) ts ≡ false → head_is (may_follow part) ts ≡ false
head_not_following i [] p q = refl
head_not_following i (t ∷ ts) p q = not_following i t.token p q

pub read_end : {n : ℕ} {rule part : Rule} {e : Expression} {before after : TokenList} → IsPartOf part rule → Read n rule part e before after → head_is (goes_on_by rule) after.tokens ≡ false → Read n rule rule e before after
read_end {n} {rule} {part} {e} {before} {after} i r q = record {
  read = r.read;
  reaches = λ l frames h. let k = r.reaches l frames h in record { state = k.state; gives = k.gives; same = k.same; stops = λ p. k.stops (head_not_following i after.tokens p q) };
}

-- no second comparison goes on
abbrev no_state : Option State
no_state = None

neither : (b : Bool) → cond b no_state no_state ≡ no_state
neither true = refl
neither false = refl

once_compared : (at : ℕ) (left : Left) (l : Lefts) (frames : List Frame) (x : Expression) (t : Token) → goes_on_by cmp_rule t ≡ true → step (state_of (has x) (record l { compared = Some left }) frames) (placed at t) ≡ None
unfolding step
once_compared at left l frames x (token.operator o) h = step_operates at o frames (record l { compared = Some left }) x comparing_rank (comparing_is (rank o) h)
once_compared at left l frames x (token.name parts) h = neither (is_in parts)
once_compared at left l frames x token.closing h = absurd (false≢true h)
once_compared at left l frames x token.comma h = absurd (false≢true h)
once_compared at left l frames x _ h = refl

compared_stops : (at : ℕ) (o : Operator) (e f : Expression) (l : Lefts) (frames : List Frame) (s : State) (ts : List Placed) → Gives sum_rule (compared_with at o e l) frames s f
    → (head_is (may_follow sum_rule) ts ≡ false → StopsAt s ts) → head_is (may_follow cmp_rule) ts ≡ false → StopsAt s ts
compared_stops at o e f l frames s [] g h p = tt
compared_stops at o e f l frames s (t ∷ ts) g h p = by_test (goes_on_by cmp_rule t.token) refl
  where
    by_test : (b : Bool) → goes_on_by cmp_rule t.token ≡ b → step s t ≡ None
    by_test true q = ap (λ (n : State). step n t) g.2 ∙ once_compared t.at (record { at = at; operator = o; side = e }) (record (compared_with at o e l) { sums = g.1.sums; terms = g.1.terms; signs = [] }) frames g.0 t.token q
    by_test false q = h (not_following sum_cmp t.token p q)

pub read_compared : {n at : ℕ} {o : Operator} {e f : Expression} {before middle behind after : TokenList} → joins_by cmp_rule (rank o) ≡ true → Read n sum_rule sum_rule e before middle
    → Takes (placed at (operator o)) middle behind → Read n sum_rule sum_rule f behind after → Read n cmp_rule cmp_rule (binary at o e f) before after
read_compared {n} {at} {o} {e} {f} {before} {middle} {behind} {after} j r t k = record {
  read = read_join r.read t k.read refl (and_from (is_sound e) (is_sound f) r.read.sound k.read.sound) (by_comparison (compares_is o j) r.read.derived k.read.derived refl);
  reaches = λ l frames h.
      let first = r.reaches (fresh cmp_rule l) frames h in
      let c = comparison_continues at o l frames first.state e (comparing_is (rank o) j) first.gives in
      let second = k.reaches (compared_with at o e l) frames h in
      record {
        state = second.state;
        gives = c.gives second.state f second.gives;
        same = λ size stray.
            first.same size stray ∙ ap (verdict size stray first.state) t.tokens ∙ over n at o l frames first.state (binary at o e) behind.tokens size stray unsigned_cmp c h ∙ second.same size stray;
        stops = compared_stops at o e f l frames second.state after.tokens second.gives second.stops;
      };
}

pub fails_compared : {n at : ℕ} {o : Operator} {e : Expression} {fault : MatcherFault} {before middle behind : TokenList} → joins_by cmp_rule (rank o) ≡ true → Read n sum_rule sum_rule e before middle
    → Takes (placed at (operator o)) middle behind → Fails n sum_rule fault behind → Fails n cmp_rule fault before
fails_compared {n} {at} {o} {e} {fault} {before} {middle} {behind} j r t k = record {
  told = λ l frames h.
      let first = r.reaches (fresh cmp_rule l) frames h in
      let c = comparison_continues at o l frames first.state e (comparing_is (rank o) j) first.gives in
      first.same before.size before.stray ∙ ap (verdict before.size before.stray first.state) t.tokens
      ∙ over n at o l frames first.state (binary at o e) behind.tokens before.size before.stray unsigned_cmp c h
      ∙ fails_in n sum_rule fault before behind (compared_with at o e l) frames (t.stray ∙ r.read.stray) (t.size ∙ r.read.size) h k;
}

-- a sum alone
pub read_sum : {n : ℕ} {e : Expression} {before middle after : TokenList} → Read n sum_rule sum_rule e before middle → Stays (goes_on_by cmp_rule) middle after → Read n cmp_rule cmp_rule e before after
read_sum {n} {e} {before} {middle} {after} r s = let P : TokenList → Type 0 = λ list. Read n cmp_rule cmp_rule e before list in subst P (sym s.same) (read_end sum_cmp (read_part sum_cmp r) s.head)
