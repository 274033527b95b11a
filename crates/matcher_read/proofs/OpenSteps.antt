-- What stands before a state still stands when the machine has read a token.
use Rattle.std.proofs.Common.{◌≡◌, ℕ, suc, ◌+◌, ◌-◌, ◌≤◌, Bool, true, false, cond, List, [], ◌∷◌, ◌++◌, length, codes, Option, Some, None, option_map, refl, sym, ap, subst, arith}
use Rattle.std.proofs.lemmas.Slice.Eq.{bytes_eq-Decides}
use Rattle.std.specs.Str.{bytes_eq}
use Rattle.matcher_read.specs.Expression.{Expression, evaluated}
use Rattle.matcher_read.specs.Grammar.{Derives, by_text, by_unclosed, by_number, by_true, by_false, by_request, by_policy, by_eval, by_negation, by_opposite, or_rule, and_rule, cmp_rule, sum_rule, term_rule, prim_rule}
use Rattle.matcher_read.specs.Tokens.{Placed, Token, placed, name, called, number, unclosed, operator, exclamation, opening, closing, comma}
use Rattle.matcher_read.specs.Tokens as token
use Rattle.matcher_read.specs.declared.tree.Operator.{Operator}
use Rattle.matcher_read.specs.declared.tree.Operator.TheVariants as op
use Rattle.matcher_read.specs.Helps.Machine.{Left, Lefts, Kind, parentheses, members, arguments, Frame, State, Control, wants, has, has_members, opens, start, state_of, with_operand, pushed, goes, left_of, or_of, sum_of, Rank, term_rank, sum_rank, comparing_rank, and_rank, or_rank, rank, joins, operates, parts, closes, name_operand, is_in, step_wants, step_has, step_members, step_opens, step_by, step, levels_of, depth, levels_at}
use Rattle.matcher_read.specs.Helps.TakenTokens.{joins_by}
use Rattle.matcher_read.specs.declared.words.Chain.TheVariants as chain
use Rattle.matcher_read.proofs.Ranks.{compares_is, joins_is}
use Rattle.matcher_read.proofs.StateLemmas.{Wanting, Having, Compared, Awaits, Complete, Outside, Stands, Holds}
use Rattle.matcher_read.proofs.StandingSteps.{operand_stands, having_compared, compared_complete, term_stands, sum_stands, comparison_stands, or_stands, and_stands, in_stands, positive, sign_stands, opening_stands, comma_stands, closing_parentheses, closing_call, closing_members}

-- the state that is next, if its levels are not too many, holds for the tokens
abbrev pub AfterStep : ℕ → List Placed → Option State → Type 0
AfterStep most ts None = Unit {0}
AfterStep most ts (Some next) = depth next ≤ most → Holds most next ts

-- the same, if the levels round a token that leads to it are not too many
abbrev pub AfterToken : ℕ → State → Token → List Placed → Option State → Type 0
AfterToken most s t ts None = Unit {0}
AfterToken most s t ts (Some next) = levels_at s t next ≤ most → Holds most next ts

-- a token that stands for four
abbrev is_form : Token → Bool
is_form (token.eval at_opening column) = true
is_form _ = false

-- ---- literals and names

abbrev pub AreDerived : ℕ → List Placed → Option Expression → Type 0
AreDerived n ts None = Unit {0}
AreDerived n ts (Some e) = Derives n prim_rule ts e

pub choose : {A : Type 0} (P : Option A → Type 0) (test : Bool) {x y : Option A} → (test ≡ true → P x) → P y → P (cond test x y)
choose P true h k = h refl
choose P false h k = k

pub name_derived : (n at : ℕ) (names : List (List ℕ)) → AreDerived n (placed at (name names) ∷ []) (name_operand at names)
name_derived n at [] = tt
name_derived n at (first ∷ []) =
    choose (AreDerived n (placed at (name (first ∷ [])) ∷ [])) (bytes_eq first (codes "true")) (λ h. rw ((bytes_eq-Decides first (codes "true")).0 h) by_true)
    (choose (AreDerived n (placed at (name (first ∷ [])) ∷ [])) (bytes_eq first (codes "false")) (λ h. rw ((bytes_eq-Decides first (codes "false")).0 h) by_false) tt)
name_derived n at (first ∷ column ∷ []) =
    choose (AreDerived n (placed at (name (first ∷ column ∷ [])) ∷ [])) (bytes_eq first (codes "r")) (λ h. rw ((bytes_eq-Decides first (codes "r")).0 h) by_request)
    (choose (AreDerived n (placed at (name (first ∷ column ∷ [])) ∷ [])) (bytes_eq first (codes "p")) (λ h. rw ((bytes_eq-Decides first (codes "p")).0 h) by_policy) tt)
name_derived n at (first ∷ column ∷ next ∷ path) =
    choose (AreDerived n (placed at (name (first ∷ column ∷ next ∷ path)) ∷ [])) (bytes_eq first (codes "r")) (λ h. rw ((bytes_eq-Decides first (codes "r")).0 h) by_request)
    (choose (AreDerived n (placed at (name (first ∷ column ∷ next ∷ path)) ∷ [])) (bytes_eq first (codes "p")) (λ h. tt) tt)

is_in-tells : (names : List (List ℕ)) → is_in names ≡ true → names ≡ codes "in" ∷ []
is_in-tells [] h = absurd cc
is_in-tells (first ∷ []) h = ap (λ part. part ∷ []) ((bytes_eq-Decides first (codes "in")).0 h)
is_in-tells (first ∷ next ∷ rest) h = absurd cc

-- ---- where an operand is expected

module _ (most n : ℕ) (lefts : Lefts) (frames : List Frame) (ts : List Placed) (levels : n + levels_of frames ≡ most) where
  pub opening_after : (at : ℕ) (kind : Kind) → Awaits (Outside frames n) n kind lefts frames ts → AfterStep most (ts ++ placed at opening ∷ []) (Some (pushed kind lefts frames))
  opening_after at kind a = λ few.
      let k = n - suc (length lefts.signs) in
      let same : n ≡ suc (length lefts.signs + k) = omega (arith, levels, few) in
      record {
        levels_left = k;
        levels = omega (arith, levels, same);
        stands = opening_stands k kind lefts frames ts at (subst (λ m. Awaits (Outside frames m) m kind lefts frames ts) same a);
      }

  module _ (w : Wanting (Outside frames n) n lefts ts) where
    operand_after : (t : Placed) (e : Option Expression) → AreDerived w.left_levels (t ∷ []) e → AfterStep most (ts ++ t ∷ []) (option_map (with_operand lefts frames) e)
    operand_after t None h = tt
    operand_after t (Some e) h = λ few. record { levels_left = n; levels = levels; stands = operand_stands _ _ _ _ w (t ∷ []) e h }

    negation_after : (at : ℕ) → AfterStep most (ts ++ placed at exclamation ∷ []) (Some (state_of wants (record lefts { signs = (at, true) ∷ lefts.signs }) frames))
    negation_after at = λ few.
        let more = positive n (length lefts.signs) (levels_of frames) most w.left_levels w.levels levels few in
        record { levels_left = n; levels = levels; stands = sign_stands _ n lefts ts at exclamation true more.0 w more.1 (λ us e d. by_negation d) }

    minus_after : (at : ℕ) (o : Operator) → AfterStep most (ts ++ placed at (operator o) ∷ []) (step_wants at (operator o) lefts frames)
    minus_after at op.Minus = λ few.
        let more = positive n (length lefts.signs) (levels_of frames) most w.left_levels w.levels levels few in
        record { levels_left = n; levels = levels; stands = sign_stands _ n lefts ts at (operator op.Minus) false more.0 w more.1 (λ us e d. by_opposite d) }
    minus_after at _ = tt

    wants_after : goes start ts ≡ Some (state_of wants lefts frames) → (at : ℕ) (t : Token) → is_form t ≡ false → AfterStep most (ts ++ placed at t ∷ []) (step_wants at t lefts frames)
    wants_after reached at (name names) h = operand_after (placed at (name names)) (name_operand at names) (name_derived w.left_levels at names)
    wants_after reached at (called names) h = λ few. record { levels_left = n; levels = levels; stands = record { front = ts; wanting = w; reached = reached; tokens = refl } }
    wants_after reached at (number digits) h = operand_after (placed at (number digits)) (Some _) by_number
    wants_after reached at (token.text bytes) h = operand_after (placed at (token.text bytes)) (Some _) by_text
    wants_after reached at (unclosed bytes) h = operand_after (placed at (unclosed bytes)) (Some _) by_unclosed
    wants_after reached at (operator o) h = minus_after at o
    wants_after reached at exclamation h = negation_after at
    wants_after reached at (token.eval at_opening column) h = absurd cc
    wants_after reached at opening h = opening_after at parentheses w
    wants_after reached at closing h = tt
    wants_after reached at comma h = tt

    -- the parenthesis of `eval ( p.column )` stands within the levels
    eval_after : (at at_opening : ℕ) (column : List ℕ) → AfterToken most (state_of wants lefts frames) (token.eval at_opening column) (ts ++ placed at (token.eval at_opening column) ∷ []) (Some (with_operand lefts frames (evaluated at column)))
    eval_after at at_opening column = λ few.
        let more = positive n (length lefts.signs) (levels_of frames) most w.left_levels w.levels levels (omega (arith, few)) in
        let derived = subst (λ m. Derives m prim_rule (placed at (token.eval at_opening column) ∷ []) (evaluated at column)) (sym more.1) by_eval in
        record { levels_left = n; levels = levels; stands = operand_stands _ _ _ _ w (placed at (token.eval at_opening column) ∷ []) (evaluated at column) derived }

-- ---- behind a closing parenthesis and a comma

module _ (most n : ℕ) (ts : List Placed) (at : ℕ) (e : Expression) where
  closing_kind : (kind : Kind) (lefts : Lefts) (before : List Expression) (frames : List Frame) → n + suc (length lefts.signs + levels_of frames) ≡ most
      → Complete (Outside (record { kind = kind; outer = lefts; before = before } ∷ frames) n) n e ts
      → AfterStep most (ts ++ placed at closing ∷ []) (closes (record { kind = kind; outer = lefts; before = before } ∷ frames) e)
  closing_kind parentheses lefts before frames levels c = λ few. record { levels_left = suc (length lefts.signs + n); levels = omega (arith, levels); stands = closing_parentheses n lefts before frames ts at e c }
  closing_kind (members place left) lefts before frames levels c = λ few. record { levels_left = suc (length lefts.signs + n); levels = omega (arith, levels); stands = closing_members n place left lefts before frames ts at e c }
  closing_kind (arguments place names) lefts before frames levels c = λ few. record { levels_left = suc (length lefts.signs + n); levels = omega (arith, levels); stands = closing_call n place names lefts before frames ts at e c }

  closing_after : (frames : List Frame) → n + levels_of frames ≡ most → Complete (Outside frames n) n e ts → AfterStep most (ts ++ placed at closing ∷ []) (closes frames e)
  closing_after [] levels c = tt
  closing_after (frame ∷ frames) levels c = closing_kind frame.kind frame.outer frame.before frames levels c

  comma_kind : (kind : Kind) (lefts : Lefts) (before : List Expression) (frames : List Frame) → n + suc (length lefts.signs + levels_of frames) ≡ most
      → Complete (Outside (record { kind = kind; outer = lefts; before = before } ∷ frames) n) n e ts
      → AfterStep most (ts ++ placed at comma ∷ []) (parts (record { kind = kind; outer = lefts; before = before } ∷ frames) e)
  comma_kind parentheses lefts before frames levels c = tt
  comma_kind (members place left) lefts before frames levels c = λ few. record { levels_left = n; levels = levels; stands = comma_stands n (members place left) lefts before frames ts at e (λ h. absurd cc) c }
  comma_kind (arguments place names) lefts before frames levels c = λ few. record { levels_left = n; levels = levels; stands = comma_stands n (arguments place names) lefts before frames ts at e (λ h. absurd cc) c }

  comma_after : (frames : List Frame) → n + levels_of frames ≡ most → Complete (Outside frames n) n e ts → AfterStep most (ts ++ placed at comma ∷ []) (parts frames e)
  comma_after [] levels c = tt
  comma_after (frame ∷ frames) levels c = comma_kind frame.kind frame.outer frame.before frames levels c

-- ---- behind an operand

module _ (most n : ℕ) (lefts : Lefts) (frames : List Frame) (ts : List Placed) (levels : n + levels_of frames ≡ most) (at : ℕ) where
  joins_after : (r : Rank) (o : Operator) → rank o ≡ r → (e : Expression) → Compared (Outside frames n) n e lefts ts → AfterStep most (ts ++ placed at (operator o) ∷ []) (joins r at o lefts frames e)
  joins_after or_rank o h e c = λ few. record { levels_left = n; levels = levels; stands = or_stands _ n lefts ts at o e (joins_is chain.Or o (ap (joins_by or_rule) h)) c }
  joins_after and_rank o h e c = λ few. record { levels_left = n; levels = levels; stands = and_stands _ n lefts ts at o e (joins_is chain.And o (ap (joins_by and_rule) h)) c }
  joins_after comparing_rank o h e c = tt
  joins_after sum_rank o h e c = tt
  joins_after term_rank o h e c = tt

  members_after : (t : Token) (e : Expression) → Compared (Outside frames n) n e lefts ts → AfterStep most (ts ++ placed at t ∷ []) (step_members at t lefts frames e)
  members_after (operator o) e c = joins_after (rank o) o refl e c
  members_after closing e c = closing_after most n ts at (or_of lefts e) frames levels (compared_complete _ n lefts ts e c)
  members_after comma e c = comma_after most n ts at (or_of lefts e) frames levels (compared_complete _ n lefts ts e c)
  members_after _ e c = tt

  module _ (e : Expression) (h : Having (Outside frames n) n e lefts ts) where
    comparison_after : (o : Operator) → rank o ≡ comparing_rank → (compared : Option Left) → lefts.compared ≡ compared → AfterStep most (ts ++ placed at (operator o) ∷ []) (elim compared [
      | None ↦ Some (state_of wants (record lefts { compared = left_of at o (sum_of lefts e); sums = None; terms = None }) frames)
      | Some left ↦ None
    ])
    comparison_after o j None none = λ few. record { levels_left = n; levels = levels; stands = comparison_stands _ n lefts ts at o e (compares_is o (ap (joins_by cmp_rule) j)) none h }
    comparison_after o j (Some left) some = tt

    in_after : (names : List (List ℕ)) → names ≡ codes "in" ∷ [] → (compared : Option Left) → lefts.compared ≡ compared → AfterStep most (ts ++ placed at (name names) ∷ []) (elim compared [
      | None ↦ Some (state_of (opens (members at (sum_of lefts e))) (record lefts { sums = None; terms = None }) frames)
      | Some left ↦ None
    ])
    in_after names same None none = λ few. record { levels_left = n; levels = levels; stands = rw same (in_stands _ n lefts ts at e none h) }
    in_after names same (Some left) some = tt

    operates_after : (r : Rank) (o : Operator) → rank o ≡ r → AfterStep most (ts ++ placed at (operator o) ∷ []) (operates r at o lefts frames e)
    operates_after term_rank o j = λ few. record { levels_left = n; levels = levels; stands = term_stands _ n lefts ts at o e (joins_is chain.Term o (ap (joins_by term_rule) j)) h }
    operates_after sum_rank o j = λ few. record { levels_left = n; levels = levels; stands = sum_stands _ n lefts ts at o e (joins_is chain.Sum o (ap (joins_by sum_rule) j)) h }
    operates_after comparing_rank o j = comparison_after o j lefts.compared refl
    operates_after and_rank o j = joins_after and_rank o j _ (having_compared _ n lefts ts e h)
    operates_after or_rank o j = joins_after or_rank o j _ (having_compared _ n lefts ts e h)

    has_after : (t : Token) → AfterStep most (ts ++ placed at t ∷ []) (step_has at t lefts frames e)
    has_after (name names) = choose (AfterStep most (ts ++ placed at (name names) ∷ [])) (is_in names) (λ same. in_after names (is_in-tells names same) lefts.compared refl) tt
    has_after (operator o) = operates_after (rank o) o refl
    has_after closing = closing_after most n ts at _ frames levels (compared_complete _ n lefts ts _ (having_compared _ n lefts ts e h))
    has_after comma = comma_after most n ts at _ frames levels (compared_complete _ n lefts ts _ (having_compared _ n lefts ts e h))
    has_after _ = tt

  opens_after : (t : Token) (kind : Kind) → Awaits (Outside frames n) n kind lefts frames ts → AfterStep most (ts ++ placed at t ∷ []) (step_opens t kind lefts frames)
  opens_after opening kind a = opening_after most n lefts frames ts levels at kind a
  opens_after _ kind a = tt

-- ---- each step

control_after : (most : ℕ) (c : Control) (n : ℕ) (lefts : Lefts) (frames : List Frame) (ts : List Placed) → n + levels_of frames ≡ most → Stands c n lefts frames ts
    → goes start ts ≡ Some (state_of c lefts frames) → (at : ℕ) (t : Token) → is_form t ≡ false → AfterStep most (ts ++ placed at t ∷ []) (step_by c at t lefts frames)
control_after most wants n lefts frames ts levels stands reached at t h = wants_after most n lefts frames ts levels stands reached at t h
control_after most (has e) n lefts frames ts levels stands reached at t h = has_after most n lefts frames ts levels at e stands t
control_after most (has_members e) n lefts frames ts levels stands reached at t h = members_after most n lefts frames ts levels at t e stands
control_after most (opens kind) n lefts frames ts levels stands reached at t h = opens_after most n lefts frames ts levels at t kind stands

form_after : (most : ℕ) (c : Control) (n : ℕ) (lefts : Lefts) (frames : List Frame) (ts : List Placed) → n + levels_of frames ≡ most → Stands c n lefts frames ts → (at at_opening : ℕ) (column : List ℕ)
    → AfterToken most (state_of c lefts frames) (token.eval at_opening column) (ts ++ placed at (token.eval at_opening column) ∷ []) (step_by c at (token.eval at_opening column) lefts frames)
form_after most wants n lefts frames ts levels stands at at_opening column = eval_after most n lefts frames ts levels stands at at_opening column
form_after most (has e) n lefts frames ts levels stands at at_opening column = tt
form_after most (has_members e) n lefts frames ts levels stands at at_opening column = tt
form_after most (opens kind) n lefts frames ts levels stands at at_opening column = tt

-- another token has the levels of the state that is next
plain_after : (most : ℕ) (s : State) (t : Token) (ts : List Placed) (o : Option State) → is_form t ≡ false → AfterStep most ts o → AfterToken most s t ts o
plain_after most s t ts None h after = tt
plain_after most s t ts (Some next) h after = each t h where
  each : (tk : Token) → is_form tk ≡ false → levels_at s tk next ≤ most → Holds most next ts
  each (token.eval at_opening column) h few = absurd cc
  each _ h few = after few

pub step_after : (most : ℕ) (s : State) (ts : List Placed) (t : Placed) → Holds most s ts → goes start ts ≡ Some s → AfterToken most s t.token (ts ++ t ∷ []) (step s t)
unfolding step
step_after most s ts t h reached = each t.token where
  plain : (tk : Token) → is_form tk ≡ false → AfterToken most s tk (ts ++ placed t.at tk ∷ []) (step_by s.control t.at tk s.lefts s.frames)
  plain tk f = plain_after most s tk (ts ++ placed t.at tk ∷ []) (step_by s.control t.at tk s.lefts s.frames) f (control_after most s.control h.levels_left s.lefts s.frames ts h.levels h.stands reached t.at tk f)

  each : (tk : Token) → AfterToken most s tk (ts ++ placed t.at tk ∷ []) (step_by s.control t.at tk s.lefts s.frames)
  each (token.eval at_opening column) = form_after most s.control h.levels_left s.lefts s.frames ts h.levels h.stands t.at at_opening column
  each (name names) = plain (name names) refl
  each (called names) = plain (called names) refl
  each (number digits) = plain (number digits) refl
  each (token.text bytes) = plain (token.text bytes) refl
  each (unclosed bytes) = plain (unclosed bytes) refl
  each (operator o) = plain (operator o) refl
  each exclamation = plain exclamation refl
  each opening = plain opening refl
  each closing = plain closing refl
  each comma = plain comma refl
