-- What the machine goes through can be completed to a matcher, and what it has gone through whole is one.
use Rattle.std.proofs.Common.{◌≡◌, ℕ, suc, ◌+◌, ◌≤◌, nat_le, Bool, true, false, cond, List, [], ◌∷◌, ◌++◌, length, Option, Some, None, option_and_then, option_map, refl, sym, ap, ◌∙◌, subst, arith, append_assoc, append-nil, leb-true}
use Rattle.matcher_read.specs.Expression.{Expression, Expressions, one_more, no_more, count}
use Rattle.matcher_read.specs.Faults.{IsOpenWithin, IsOpen}
use Rattle.matcher_read.specs.Grammar.{Derives, by_text, DerivesList, by_last, or_rule}
use Rattle.matcher_read.specs.Tokens.{Placed, placed, called, opening, closing}
use Rattle.matcher_read.specs.Tokens as token
use Rattle.matcher_read.specs.Helps.Machine.{Lefts, no_lefts, Kind, parentheses, members, arguments, Frame, Control, wants, has, has_members, opens, State, start, state_of, pushed, or_of, comparison_of, final_value, step, levels_of, levels_at, depth, goes, goes_within}
use Rattle.matcher_read.proofs.StateLemmas.{Wanting, Having, expressions_before, Outside, Stands, Holds, Complete}
use Rattle.matcher_read.proofs.StandingSteps.{start_stands, operand_stands, having_compared, compared_complete, closing_parentheses, closing_call, closing_members}
use Rattle.matcher_read.proofs.Passes.{goes_levels, goes_one, within_more}
use Rattle.matcher_read.proofs.OpenSteps.{AfterToken, step_after, opening_after}

-- ---- the tokens that are gone through

-- one token further
holds_one : (most : ℕ) (ts rest : List Placed) (t : Placed) (s final : State) → Holds most s ts → goes start ts ≡ Some s
    → ((next : State) → Holds most next (ts ++ t ∷ []) → goes start (ts ++ t ∷ []) ≡ Some next → goes_within most next rest ≡ Some final → Holds most final ((ts ++ t ∷ []) ++ rest))
    → (o : Option State) → step s t ≡ o → AfterToken most s t.token (ts ++ t ∷ []) o
    → option_and_then (λ next. cond (nat_le (levels_at s t.token next) most) (goes_within most next rest) None) o ≡ Some final → Holds most final ((ts ++ t ∷ []) ++ rest)
holds_one most ts rest t s final h reached later None k after e = absurd cc
holds_one most ts rest t s final h reached later (Some next) k after e = each (nat_le (levels_at s t.token next) most) refl e where
  each : (b : Bool) → nat_le (levels_at s t.token next) most ≡ b → cond b (goes_within most next rest) None ≡ Some final → Holds most final ((ts ++ t ∷ []) ++ rest)
  each true few f = later next (after (leb-true _ _ few)) (goes_one start s ts t reached ∙ k) f
  each false few f = absurd cc

holds_goes : (most : ℕ) (rest ts : List Placed) (s final : State) → Holds most s ts → goes start ts ≡ Some s → goes_within most s rest ≡ Some final → Holds most final (ts ++ rest)
holds_goes most [] ts s final h reached e =
    let same : s ≡ final = cc in
    rw append-nil (subst (λ (x : State). Holds most x ts) same h)
holds_goes most (t ∷ rest) ts s final h reached e =
    subst (Holds most final) (append_assoc ts (t ∷ []) rest)
    (holds_one most ts rest t s final h reached (λ next. holds_goes most rest (ts ++ t ∷ []) next final) (step s t) refl (step_after most s ts t h reached) e)

pub holds_start : (most : ℕ) → Holds most start []
holds_start most = record { levels_left = most; levels = omega arith; stands = start_stands most }

-- what stands before the state behind tokens that the machine goes through
pub holds_within : (most : ℕ) (ts : List Placed) (s : State) → goes_within most start ts ≡ Some s → Holds most s ts
holds_within most ts s e = holds_goes most ts [] start s (holds_start most) refl e

-- ---- completing

open_front : (most : ℕ) (ts us : List Placed) → IsOpenWithin most (ts ++ us) → IsOpenWithin most ts
open_front most ts us h = (us ++ h.0, h.1, rw (← append_assoc) h.2)

complete_having : {Outer : List Placed → Type 0} (n : ℕ) (e : Expression) (lefts : Lefts) (ts : List Placed) → Having Outer n e lefts ts → (f : Expression) × Complete Outer n f ts
complete_having n e lefts ts h = (_, compared_complete _ n lefts ts _ (having_compared _ n lefts ts e h))

complete_kind : (n : ℕ) (e : Expression) (ts : List Placed) (kind : Kind) (lefts : Lefts) (before : List Expression) (frames : List Frame)
    → Complete (Outside (record { kind = kind; outer = lefts; before = before } ∷ frames) n) n e ts
    → (f : Expression) × Complete (Outside frames (suc (length lefts.signs + n))) (suc (length lefts.signs + n)) f (ts ++ placed 0 closing ∷ [])
complete_kind n e ts parentheses lefts before frames c = complete_having _ _ _ _ (closing_parentheses n lefts before frames ts 0 e c)
complete_kind n e ts (members at left) lefts before frames c = (_, compared_complete _ _ lefts _ _ (closing_members n at left lefts before frames ts 0 e c))
complete_kind n e ts (arguments at names) lefts before frames c = complete_having _ _ _ _ (closing_call n at names lefts before frames ts 0 e c)

complete_open : (frames : List Frame) (most n : ℕ) (e : Expression) (ts : List Placed) → n + levels_of frames ≡ most → Complete (Outside frames n) n e ts → IsOpenWithin most ts
complete_open [] most n e ts levels c =
    let same : n ≡ most = omega (arith, levels) in
    let all : c.last ≡ ts ++ [] = rw (c.tokens, c.outside) (sym (append-nil _)) in
    ([], e, subst (λ m. Derives m or_rule (ts ++ []) e) same (subst (λ us. Derives n or_rule us e) all c.derived))
complete_open (frame ∷ frames) most n e ts levels c =
    let closed = complete_kind n e ts frame.kind frame.outer frame.before frames c in
    open_front most ts _ (complete_open frames most (suc (length frame.outer.signs + n)) closed.0 _ (omega (arith, levels)) closed.1)

wanting_open : (most n : ℕ) (lefts : Lefts) (frames : List Frame) (ts : List Placed) → n + levels_of frames ≡ most → Wanting (Outside frames n) n lefts ts → IsOpenWithin most ts
wanting_open most n lefts frames ts levels w =
    let h = operand_stands _ n lefts ts w (placed 0 (token.text []) ∷ []) _ by_text in
    let c = complete_having n _ _ _ h in
    open_front most ts _ (complete_open frames most n c.0 _ levels c.1)

-- the level of a parenthesis that has to open next
abbrev pub awaited : Control → ℕ
awaited (opens kind) = 1
awaited wants = 0
awaited (has e) = 0
awaited (has_members e) = 0

open_stands : (most : ℕ) (c : Control) (n : ℕ) (lefts : Lefts) (frames : List Frame) (ts : List Placed) → n + levels_of frames ≡ most → Stands c n lefts frames ts
    → length lefts.signs + levels_of frames + awaited c ≤ most → IsOpenWithin most ts
open_stands most wants n lefts frames ts levels w few = wanting_open most n lefts frames ts levels w
open_stands most (has e) n lefts frames ts levels h few =
    let c = complete_having n e lefts ts h in
    complete_open frames most n c.0 ts levels c.1
open_stands most (has_members e) n lefts frames ts levels c few = complete_open frames most n _ ts levels (compared_complete _ n lefts ts e c)
open_stands most (opens kind) n lefts frames ts levels a few =
    let h = opening_after most n lefts frames ts levels 0 kind a (omega (arith, few)) in
    open_front most ts _ (wanting_open most h.levels_left no_lefts ((pushed kind lefts frames).frames) _ h.levels h.stands)

-- what the machine goes through is open, if there is a level for the parenthesis that has to open next
pub open_within : (most : ℕ) (ts : List Placed) (s : State) → goes_within most start ts ≡ Some s → depth s + awaited s.control ≤ most → IsOpenWithin most ts
open_within most ts s e few =
    let h = holds_within most ts s e in
    open_stands most s.control h.levels_left s.lefts s.frames ts h.levels h.stands few

pub open_by_goes : (ts : List Placed) (s : State) → goes start ts ≡ Some s → IsOpen ts
open_by_goes ts s e =
    let m = goes_levels start s ts e in
    let most = m.0 + depth s + awaited s.control in
    (most, open_within most ts s (within_more m.0 most start s ts (omega arith) m.1) (omega arith))

-- ---- what is whole

complete_stands : (c : Control) (n : ℕ) (lefts : Lefts) (frames : List Frame) (ts : List Placed) (e : Expression) → Stands c n lefts frames ts → comparison_of lefts c ≡ Some e
    → Complete (Outside frames n) n (or_of lefts e) ts
complete_stands wants n lefts frames ts e w h = absurd cc
complete_stands (has x) n lefts frames ts e s h =
    let same : _ ≡ e = cc in
    subst (λ (f : Expression). Complete (Outside frames n) n (or_of lefts f) ts) same (compared_complete _ n lefts ts _ (having_compared _ n lefts ts x s))
complete_stands (has_members x) n lefts frames ts e s h =
    let same : x ≡ e = cc in
    subst (λ (f : Expression). Complete (Outside frames n) n (or_of lefts f) ts) same (compared_complete _ n lefts ts x s)
complete_stands (opens kind) n lefts frames ts e s h = absurd cc

whole_stands : (most : ℕ) (c : Control) (n : ℕ) (lefts : Lefts) (frames : List Frame) (ts : List Placed) (e : Expression) → n + levels_of frames ≡ most → Stands c n lefts frames ts
    → final_value (state_of c lefts frames) ≡ Some e → Derives most or_rule ts e
whole_stands most c n lefts (frame ∷ frames) ts e levels s h = absurd cc
whole_stands most c n lefts [] ts e levels s h = each (comparison_of lefts c) refl h where
  each : (o : Option Expression) → comparison_of lefts c ≡ o → option_map (or_of lefts) o ≡ Some e → Derives most or_rule ts e
  each None k f = absurd cc
  each (Some x) k f =
      let w = complete_stands c n lefts [] ts x s k in
      let same : n ≡ most = omega (arith, levels) in
      let all : w.last ≡ ts = sym (w.tokens ∙ ap (λ us. us ++ w.last) w.outside) in
      let value : or_of lefts x ≡ e = cc in
      subst (λ m. Derives m or_rule ts e) same (subst (λ us. Derives n or_rule us e) all (subst (λ (f : Expression). Derives n or_rule w.last f) value w.derived))

-- the machine's value is what the tokens derive
pub whole_within : (most : ℕ) (ts : List Placed) (s : State) (e : Expression) → goes_within most start ts ≡ Some s → final_value s ≡ Some e → Derives most or_rule ts e
whole_within most ts s e g f =
    let h = holds_within most ts s g in
    whole_stands most s.control h.levels_left s.lefts s.frames ts e h.levels h.stands f

-- ---- the call that a closing parenthesis ends

-- the tokens end in the arguments of this call, which are so many
pub record TopCall (at : ℕ) (names : List (List ℕ)) (outside : State) (number : ℕ) (ts : List Placed) : Type 0 where
  pub at_opening : ℕ
  pub front : List Placed
  pub inside : List Placed
  pub levels : ℕ
  pub given : Expressions
  pub tokens : ts ≡ front ++ placed at (called names) ∷ placed at_opening opening ∷ inside
  pub derived : DerivesList levels inside given
  pub counted : count given ≡ number
  pub reached : goes start front ≡ Some outside

count_before : (before : List Expression) (e : Expression) → count (expressions_before before (one_more e no_more)) ≡ length before + 1
count_before [] e = refl
count_before (f ∷ before) e = omega (arith, count_before before e)

top_complete : (n at : ℕ) (names : List (List ℕ)) (lefts : Lefts) (before : List Expression) (frames : List Frame) (ts : List Placed) (e : Expression)
    → Complete (Outside (record { kind = arguments at names; outer = lefts; before = before } ∷ frames) n) n e ts
    → TopCall at names (state_of wants lefts frames) (length before + 1) ts
top_complete n at names lefts before frames ts e c = record {
  at_opening = c.outside.at_opening;
  front = c.outside.awaits.front;
  inside = c.outside.inside ++ c.last;
  levels = n;
  given = expressions_before before (one_more e no_more);
  tokens = rw (c.tokens, c.outside.tokens, c.outside.awaits.tokens) (simp append_assoc);
  derived = c.outside.list_leads c.last (one_more e no_more) (by_last c.derived);
  counted = count_before before e;
  reached = c.outside.awaits.reached;
}

top_frame : (n : ℕ) (kind : Kind) (lefts : Lefts) (before : List Expression) (frames : List Frame) (ts : List Placed) (e : Expression) (at : ℕ) (names : List (List ℕ)) → kind ≡ arguments at names
    → Complete (Outside (record { kind = kind; outer = lefts; before = before } ∷ frames) n) n e ts
    → TopCall at names (state_of wants lefts frames) (length before + 1) ts
top_frame n kind lefts before frames ts e at names same c =
    top_complete n at names lefts before frames ts e (subst (λ k. Complete (Outside (record { kind = k; outer = lefts; before = before } ∷ frames) n) n e ts) same c)

-- behind an argument that is complete
pub top_call : (ts : List Placed) (s : State) (frame : Frame) (frames : List Frame) (at : ℕ) (names : List (List ℕ)) (e : Expression) → goes start ts ≡ Some s → s.frames ≡ frame ∷ frames
    → frame.kind ≡ arguments at names → comparison_of s.lefts s.control ≡ Some e → TopCall at names (state_of wants frame.outer frames) (length frame.before + 1) ts
top_call ts s frame frames at names e g top kind done =
    let m = goes_levels start s ts g in
    let h = holds_within m.0 ts s m.1 in
    let stands : Stands s.control h.levels_left s.lefts (frame ∷ frames) ts = subst (λ fs. Stands s.control h.levels_left s.lefts fs ts) top h.stands in
    top_frame h.levels_left frame.kind frame.outer frame.before frames ts _ at names kind (complete_stands s.control h.levels_left s.lefts (frame ∷ frames) ts e stands done)
