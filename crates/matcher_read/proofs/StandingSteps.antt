-- What stands before a state, a token later.
use Rattle.std.proofs.Common.{◌≡◌, ℕ, zero, suc, Bool, cond, ◌+◌, ◌≤◌, List, [], ◌∷◌, ◌++◌, length, codes, None, refl, sym, ap, subst, append_assoc, append-nil, arith, zero-add}
use Rattle.matcher_read.specs.Expression.{Expression, Expressions, no_more, one_more, expressions_of, negation, opposite, among, call}
use Rattle.matcher_read.specs.Calls.{callee_of}
use Rattle.matcher_read.specs.Grammar.{Derives, by_part, by_join, by_comparison, by_members, by_call, by_parentheses, DerivesList, by_last, by_more, Rule, or_rule, and_rule, cmp_rule, sum_rule, term_rule, unary_rule, prim_rule, IsPartOf, and_or, cmp_and, sum_cmp, term_sum, unary_term, prim_unary, Joins, Compares}
use Rattle.matcher_read.specs.Tokens.{Placed, Token, placed, name, called, operator, opening, closing, comma}
use Rattle.matcher_read.specs.declared.tree.Operator.{Operator}
use Rattle.matcher_read.specs.Helps.Machine.{Lefts, no_lefts, Kind, parentheses, members, arguments, Frame, joined_left, left_of, signed, and_of, or_of, term_of, sum_of}
use Rattle.matcher_read.proofs.StateLemmas.{Leads, Upper, under, Lower, behind, Within, Wanting, Having, Compared, Asking, Awaits, expressions_before, Outside, Complete}

nothing_leads : {n : ℕ} {part rule : Rule} → IsPartOf part rule → Leads n part rule None []
nothing_leads p us e d = by_part p d

operator_leads : {n at : ℕ} {o : Operator} {part rule : Rule} {e : Expression} (ls : List Placed) → Joins o rule → IsPartOf part rule
    → Derives n rule ls e → Leads n part rule (left_of at o e) (ls ++ placed at (operator o) ∷ [])
operator_leads {at = at} {o} ls j p d us f h = by_join j p d h (append_assoc ls (placed at (operator o) ∷ []) us)

compare_leads : {n at : ℕ} {o : Operator} {e : Expression} (ls : List Placed) → Compares o
    → Derives n sum_rule ls e → Leads n sum_rule cmp_rule (left_of at o e) (ls ++ placed at (operator o) ∷ [])
compare_leads {at = at} {o} ls j d us f h = by_comparison j d h (append_assoc ls (placed at (operator o) ∷ []) us)

abbrev no_upper : {n : ℕ} → Upper n None None
no_upper = record { before_or = []; before_and = []; or_leads = nothing_leads and_or; and_leads = nothing_leads cmp_and }

abbrev no_lower : {n : ℕ} → Lower n None None None
no_lower = record {
  before_comparison = [];
  before_sum = [];
  before_term = [];
  comparison_leads = nothing_leads sum_cmp;
  sum_leads = nothing_leads term_sum;
  term_leads = nothing_leads unary_term;
  no_comparison = λ h. refl;
}

wanting : {Outer : List Placed → Type 0} {n : ℕ} (lefts : Lefts) {ts : List Placed} (lower : Lower n lefts.compared lefts.sums lefts.terms)
    → Within Outer n lefts ts (behind lower []) → lefts.signs ≡ [] → Wanting Outer n lefts ts
wanting {n = n} lefts lower within none = record {
  signs = [];
  lower = lower;
  within = within;
  left_levels = n;
  levels = rw none (sym (zero-add n));
  sign_leads = λ us e d. rw none d;
}

-- nothing stands before the first operand
pub start_stands : (most : ℕ) → Wanting (Outside [] most) most no_lefts []
start_stands most = wanting no_lefts no_lower (record { outer = []; outside = refl; upper = no_upper; tokens = refl }) refl

-- ---- within a comparison

module _ (Outer : List Placed → Type 0) (n : ℕ) (lefts : Lefts) (ts : List Placed) where
  -- an operand is complete
  pub operand_stands : (w : Wanting Outer n lefts ts) (us : List Placed) (e : Expression) → Derives w.left_levels prim_rule us e
      → Having Outer n (signed lefts.signs e) (record lefts { signs = [] }) (ts ++ us)
  operand_stands w us e d = record {
    operand = w.signs ++ us;
    lower = w.lower;
    within = record { outer = w.within.outer; outside = w.within.outside; upper = w.within.upper; tokens = rw w.within.tokens (simp append_assoc) };
    no_signs = refl;
    derived = w.sign_leads us e (by_part prim_unary d);
  }

  term_derived : (e : Expression) (h : Having Outer n e lefts ts) → Derives n term_rule (h.lower.before_term ++ h.operand) (term_of lefts e)
  term_derived e h = h.lower.term_leads h.operand e h.derived

  sum_derived : (e : Expression) (h : Having Outer n e lefts ts) → Derives n sum_rule (h.lower.before_sum ++ (h.lower.before_term ++ h.operand)) (sum_of lefts e)
  sum_derived e h = h.lower.sum_leads _ _ (term_derived e h)

  -- a comparison is complete
  pub having_compared : (e : Expression) → Having Outer n e lefts ts → Compared Outer n (joined_left lefts.compared (sum_of lefts e)) lefts ts
  having_compared e h = record {
    comparison = behind h.lower h.operand;
    within = h.within;
    derived = h.lower.comparison_leads _ _ (sum_derived e h);
  }

  and_derived : (e : Expression) (c : Compared Outer n e lefts ts) → Derives n and_rule (c.within.upper.before_and ++ c.comparison) (and_of lefts e)
  and_derived e c = c.within.upper.and_leads _ _ c.derived

  or_derived : (e : Expression) (c : Compared Outer n e lefts ts) → Derives n or_rule (under c.within.upper c.comparison) (or_of lefts e)
  or_derived e c = c.within.upper.or_leads _ _ (and_derived e c)

  -- the expression is complete
  pub compared_complete : (e : Expression) → Compared Outer n e lefts ts → Complete Outer n (or_of lefts e) ts
  compared_complete e c = record {
    outer = c.within.outer;
    last = under c.within.upper c.comparison;
    outside = c.within.outside;
    derived = or_derived e c;
    tokens = c.within.tokens;
  }

  -- behind an operator of each rule
  module _ (at : ℕ) (o : Operator) (e : Expression) where
    pub term_stands : Joins o term_rule → Having Outer n e lefts ts → Wanting Outer n (record lefts { terms = left_of at o (term_of lefts e) }) (ts ++ placed at (operator o) ∷ [])
    term_stands j h =
        let lower : Lower n lefts.compared lefts.sums (left_of at o (term_of lefts e)) = record {
          before_comparison = h.lower.before_comparison;
          before_sum = h.lower.before_sum;
          comparison_leads = h.lower.comparison_leads;
          sum_leads = h.lower.sum_leads;
          no_comparison = h.lower.no_comparison;
          before_term = (h.lower.before_term ++ h.operand) ++ placed at (operator o) ∷ [];
          term_leads = operator_leads _ j unary_term (term_derived e h);
        } in
        wanting (record lefts { terms = left_of at o (term_of lefts e) }) lower
        (record { outer = h.within.outer; outside = h.within.outside; upper = h.within.upper; tokens = rw h.within.tokens (simp (append_assoc, append-nil)) }) h.no_signs

    pub sum_stands : Joins o sum_rule → Having Outer n e lefts ts → Wanting Outer n (record lefts { sums = left_of at o (sum_of lefts e); terms = None }) (ts ++ placed at (operator o) ∷ [])
    sum_stands j h =
        let lower : Lower n lefts.compared (left_of at o (sum_of lefts e)) None = record {
          before_comparison = h.lower.before_comparison;
          comparison_leads = h.lower.comparison_leads;
          no_comparison = h.lower.no_comparison;
          before_sum = (h.lower.before_sum ++ (h.lower.before_term ++ h.operand)) ++ placed at (operator o) ∷ [];
          before_term = [];
          sum_leads = operator_leads _ j term_sum (sum_derived e h);
          term_leads = nothing_leads unary_term;
        } in
        wanting (record lefts { sums = left_of at o (sum_of lefts e); terms = None }) lower
        (record { outer = h.within.outer; outside = h.within.outside; upper = h.within.upper; tokens = rw h.within.tokens (simp (append_assoc, append-nil)) }) h.no_signs

    pub comparison_stands : Compares o → lefts.compared ≡ None → Having Outer n e lefts ts
        → Wanting Outer n (record lefts { compared = left_of at o (sum_of lefts e); sums = None; terms = None }) (ts ++ placed at (operator o) ∷ [])
    comparison_stands j none h =
        let lower : Lower n (left_of at o (sum_of lefts e)) None None = record {
          before_comparison = (h.lower.before_sum ++ (h.lower.before_term ++ h.operand)) ++ placed at (operator o) ∷ [];
          before_sum = [];
          before_term = [];
          comparison_leads = compare_leads _ j (sum_derived e h);
          sum_leads = nothing_leads term_sum;
          term_leads = nothing_leads unary_term;
          no_comparison = λ k. absurd cc;
        } in
        wanting (record lefts { compared = left_of at o (sum_of lefts e); sums = None; terms = None }) lower
        (record { outer = h.within.outer; outside = h.within.outside; upper = h.within.upper; tokens = rw (h.within.tokens, h.lower.no_comparison none) (simp (append_assoc, append-nil)) }) h.no_signs

    pub or_stands : Joins o or_rule → Compared Outer n e lefts ts → Wanting Outer n (record no_lefts { ors = left_of at o (or_of lefts e) }) (ts ++ placed at (operator o) ∷ [])
    or_stands j c =
        let upper : Upper n (left_of at o (or_of lefts e)) None = record {
          before_or = under c.within.upper c.comparison ++ placed at (operator o) ∷ [];
          before_and = [];
          or_leads = operator_leads _ j and_or (or_derived e c);
          and_leads = nothing_leads cmp_and;
        } in
        wanting (record no_lefts { ors = left_of at o (or_of lefts e) }) no_lower
        (record { outer = c.within.outer; outside = c.within.outside; upper = upper; tokens = rw c.within.tokens (simp (append_assoc, append-nil)) }) refl

    pub and_stands : Joins o and_rule → Compared Outer n e lefts ts → Wanting Outer n (record no_lefts { ors = lefts.ors; ands = left_of at o (and_of lefts e) }) (ts ++ placed at (operator o) ∷ [])
    and_stands j c =
        let upper : Upper n lefts.ors (left_of at o (and_of lefts e)) = record {
          before_or = c.within.upper.before_or;
          before_and = (c.within.upper.before_and ++ c.comparison) ++ placed at (operator o) ∷ [];
          or_leads = c.within.upper.or_leads;
          and_leads = operator_leads _ j cmp_and (and_derived e c);
        } in
        wanting (record no_lefts { ors = lefts.ors; ands = left_of at o (and_of lefts e) }) no_lower
        (record { outer = c.within.outer; outside = c.within.outside; upper = upper; tokens = rw c.within.tokens (simp (append_assoc, append-nil)) }) refl

  -- behind `in`
  pub in_stands : (at : ℕ) (e : Expression) → lefts.compared ≡ None → Having Outer n e lefts ts
      → Asking Outer n at (sum_of lefts e) (record lefts { sums = None; terms = None }) (ts ++ placed at (name (codes "in" ∷ [])) ∷ [])
  in_stands at e none h = record {
    side = h.lower.before_sum ++ (h.lower.before_term ++ h.operand);
    within = record { outer = h.within.outer; outside = h.within.outside; upper = h.within.upper; tokens = rw (h.within.tokens, h.lower.no_comparison none) (simp append_assoc) };
    no_signs = h.no_signs;
    derived = sum_derived e h;
  }

-- ---- signs

-- more levels than are taken
pub positive : (n a b most m : ℕ) → n ≡ a + m → n + b ≡ most → suc a + b ≤ most → (k : ℕ) × (m ≡ suc k)
positive n a b most zero e f l = absurd (omega arith)
positive n a b most (suc k) e f l = (k, refl)

pub sign_stands : (Outer : List Placed → Type 0) (n : ℕ) (lefts : Lefts) (ts : List Placed) (at : ℕ) (t : Token) (excludes : Bool) (k : ℕ) (w : Wanting Outer n lefts ts) → w.left_levels ≡ suc k
    → ((us : List Placed) (e : Expression) → Derives k unary_rule us e → Derives (suc k) unary_rule (placed at t ∷ us) (cond excludes (negation at e) (opposite at e)))
    → Wanting Outer n (record lefts { signs = (at, excludes) ∷ lefts.signs }) (ts ++ placed at t ∷ [])
sign_stands Outer n lefts ts at t excludes k w more by = record {
  signs = w.signs ++ placed at t ∷ [];
  lower = w.lower;
  within = record { outer = w.within.outer; outside = w.within.outside; upper = w.within.upper; tokens = rw w.within.tokens (simp append_assoc) };
  left_levels = k;
  levels = omega (arith, w.levels, more);
  sign_leads = λ us e d. rw append_assoc (w.sign_leads (placed at t ∷ us) _ (rw more (by us e d)));
}

-- ---- parentheses

pub opening_stands : (n : ℕ) (kind : Kind) (lefts : Lefts) (frames : List Frame) (ts : List Placed) (at : ℕ)
    → Awaits (Outside frames (suc (length lefts.signs + n))) (suc (length lefts.signs + n)) kind lefts frames ts
    → Wanting (Outside (record { kind = kind; outer = lefts; before = [] } ∷ frames) n) n no_lefts (ts ++ placed at opening ∷ [])
opening_stands n kind lefts frames ts at a =
    let outside : Outside (record { kind = kind; outer = lefts; before = [] } ∷ frames) n (ts ++ placed at opening ∷ []) = record {
      at_opening = at;
      front = ts;
      inside = [];
      awaits = a;
      list_leads = λ us es d. d;
      alone = λ h. refl;
      tokens = refl;
    } in
    wanting no_lefts no_lower (record { outer = ts ++ placed at opening ∷ []; outside = outside; upper = no_upper; tokens = simp append-nil }) refl

before-more : (before : List Expression) (e : Expression) (es : Expressions) → expressions_before (before ++ e ∷ []) es ≡ expressions_before before (one_more e es)
before-more [] e es = refl
before-more (f ∷ before) e es = ap (one_more f) (before-more before e es)

pub before-all : (before : List Expression) (e : Expression) → expressions_before before (one_more e no_more) ≡ expressions_of (before ++ e ∷ [])
before-all [] e = refl
before-all (f ∷ before) e = ap (one_more f) (before-all before e)

pub comma_stands : (n : ℕ) (kind : Kind) (lefts : Lefts) (before : List Expression) (frames : List Frame) (ts : List Placed) (at : ℕ) (e : Expression) → ¬ (kind ≡ parentheses)
    → Complete (Outside (record { kind = kind; outer = lefts; before = before } ∷ frames) n) n e ts
    → Wanting (Outside (record { kind = kind; outer = lefts; before = before ++ e ∷ [] } ∷ frames) n) n no_lefts (ts ++ placed at comma ∷ [])
comma_stands n kind lefts before frames ts at e other c =
    let o = c.outside in
    let outside : Outside (record { kind = kind; outer = lefts; before = before ++ e ∷ [] } ∷ frames) n (ts ++ placed at comma ∷ []) = record {
      at_opening = o.at_opening;
      front = o.front;
      inside = o.inside ++ (c.last ++ placed at comma ∷ []);
      awaits = o.awaits;
      list_leads = λ us es d. rw (append_assoc, append_assoc, before-more) (o.list_leads (c.last ++ placed at comma ∷ us) (one_more e es) (by_more at c.derived d refl));
      alone = λ h. absurd (other h);
      tokens = rw (c.tokens, o.tokens) (simp append_assoc);
    } in
    wanting no_lefts no_lower (record { outer = ts ++ placed at comma ∷ []; outside = outside; upper = no_upper; tokens = simp append-nil }) refl

-- the expressions in a parenthesis that closes
all_derived : (n : ℕ) (kind : Kind) (lefts : Lefts) (before : List Expression) (frames : List Frame) (ts : List Placed) (e : Expression)
    (c : Complete (Outside (record { kind = kind; outer = lefts; before = before } ∷ frames) n) n e ts) → DerivesList n (c.outside.inside ++ c.last) (expressions_of (before ++ e ∷ []))
all_derived n kind lefts before frames ts e c = rw (← before-all) (c.outside.list_leads c.last (one_more e no_more) (by_last c.derived))

pub closing_parentheses : (n : ℕ) (lefts : Lefts) (before : List Expression) (frames : List Frame) (ts : List Placed) (at : ℕ) (e : Expression)
    → Complete (Outside (record { kind = parentheses; outer = lefts; before = before } ∷ frames) n) n e ts
    → Having (Outside frames (suc (length lefts.signs + n))) (suc (length lefts.signs + n)) (signed lefts.signs e) (record lefts { signs = [] }) (ts ++ placed at closing ∷ [])
closing_parentheses n lefts before frames ts at e c =
    let o = c.outside in
    let w = o.awaits in
    let more : suc n ≡ w.left_levels = omega (arith, w.levels) in
    let same : o.front ++ (placed o.at_opening opening ∷ c.last ++ placed at closing ∷ []) ≡ ts ++ placed at closing ∷ [] = rw (c.tokens, o.tokens, o.alone refl) (simp append_assoc) in
    let derived : Derives (suc n) prim_rule (placed o.at_opening opening ∷ c.last ++ placed at closing ∷ []) e = by_parentheses o.at_opening at c.derived refl in
    subst (Having _ _ _ _) same (operand_stands _ _ _ _ w _ e (subst (λ m. Derives m prim_rule (placed o.at_opening opening ∷ c.last ++ placed at closing ∷ []) e) more derived))

pub closing_call : (n at : ℕ) (names : List (List ℕ)) (lefts : Lefts) (before : List Expression) (frames : List Frame) (ts : List Placed) (at_closing : ℕ) (e : Expression)
    → Complete (Outside (record { kind = arguments at names; outer = lefts; before = before } ∷ frames) n) n e ts
    → Having (Outside frames (suc (length lefts.signs + n))) (suc (length lefts.signs + n)) (signed lefts.signs (call at (callee_of names) (expressions_of (before ++ e ∷ [])))) (record lefts { signs = [] }) (ts ++ placed at_closing closing ∷ [])
closing_call n at names lefts before frames ts at_closing e c =
    let o = c.outside in
    let w = o.awaits.wanting in
    let more : suc n ≡ w.left_levels = omega (arith, w.levels) in
    let us = placed at (called names) ∷ placed o.at_opening opening ∷ (o.inside ++ c.last) ++ placed at_closing closing ∷ [] in
    let f = call at (callee_of names) (expressions_of (before ++ e ∷ [])) in
    let derived : Derives (suc n) prim_rule us f = by_call o.at_opening at_closing {parts = names} (all_derived n _ lefts before frames ts e c) refl in
    let same : o.awaits.front ++ us ≡ ts ++ placed at_closing closing ∷ [] = rw (c.tokens, o.tokens, o.awaits.tokens) (simp append_assoc) in
    subst (Having _ _ _ _) same (operand_stands _ _ _ _ w us f (subst (λ m. Derives m prim_rule us f) more derived))

pub closing_members : (n at : ℕ) (left : Expression) (lefts : Lefts) (before : List Expression) (frames : List Frame) (ts : List Placed) (at_closing : ℕ) (e : Expression)
    → Complete (Outside (record { kind = members at left; outer = lefts; before = before } ∷ frames) n) n e ts
    → Compared (Outside frames (suc (length lefts.signs + n))) (suc (length lefts.signs + n)) (among at left (expressions_of (before ++ e ∷ []))) lefts (ts ++ placed at_closing closing ∷ [])
closing_members n at left lefts before frames ts at_closing e c =
    let o = c.outside in
    let a = o.awaits in
    let same : suc (length lefts.signs + n) ≡ suc n = rw a.no_signs (ap (λ m. suc m) (zero-add n)) in
    let us = a.side ++ placed at (name (codes "in" ∷ [])) ∷ placed o.at_opening opening ∷ (o.inside ++ c.last) ++ placed at_closing closing ∷ [] in
    let f = among at left (expressions_of (before ++ e ∷ [])) in
    let side : Derives (suc n) sum_rule a.side left = subst (λ m. Derives m sum_rule a.side left) same a.derived in
    let derived : Derives (suc n) cmp_rule us f = by_members o.at_opening at_closing side (all_derived n _ lefts before frames ts e c) refl in
    record {
      comparison = us;
      within = record { outer = a.within.outer; outside = a.within.outside; upper = a.within.upper; tokens = rw (c.tokens, o.tokens, a.within.tokens) (simp append_assoc) };
      derived = subst (λ m. Derives m cmp_rule us f) (sym same) derived;
    }
