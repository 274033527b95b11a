-- A text says one matcher at most, and else has one first fault at most.
use Rattle.std.proofs.Common.{◌≡◌, ℕ, ◌<◌, ◌&&◌, inl, inr, Bool, true, false, cond, List, [], ◌∷◌, length, Option, Some, None, Ok, Err, refl, ap, sym, ◌∙◌, subst, arith}
use Rattle.std.proofs.lemmas.Bool.{and_parts}
use Rattle.matcher_read.specs.Expression.{Expression, nodes}
use Rattle.matcher_read.specs.Faults.{IsFirst, IsFault, too_long, within}
use Rattle.matcher_read.specs.Grammar.{Derives, or_rule}
use Rattle.matcher_read.specs.Matcher.{IsMatcher, is_closed, most_levels, most_nodes}
use Rattle.matcher_read.specs.Tokens.{Placed, placed, Token, name, called, eval, opening, closing, is_reserved, name_before, token_before, with_calls, is_eval, is_opening, is_closing, column_of, eval_column, with_evals, as_read}
use Rattle.matcher_read.specs.declared.fault.MatcherFault.{MatcherFault}
use Rattle.matcher_read.proofs.CuttingLemmas.{cut_is_one}
use Rattle.matcher_read.specs.Helps.Machine.{start, verdict}
use Rattle.matcher_read.proofs.Passes.{cond_some}
use Rattle.matcher_read.proofs.RunParts.{are_closed}
use Rattle.matcher_read.proofs.Runs.{derives_one, whole_reads}
use Rattle.matcher_read.proofs.Verdicts.{Shows, first_verdict}

name_closed : (parts : List (List ℕ)) (next : Token) → is_closed (name_before parts next) ≡ true
name_closed parts opening = by_word (is_reserved parts)
  where
    by_word : (b : Bool) → is_closed (cond b (name parts) (called parts)) ≡ true
    by_word true = refl
    by_word false = refl
name_closed parts _ = refl

-- a call is as closed as its name
before_closed : (t : Token) (behind : List Placed) → is_closed (token_before t behind) ≡ is_closed t
before_closed (name parts) [] = refl
before_closed (name parts) (next ∷ behind) = name_closed parts next.token
before_closed _ behind = refl

calls_closed : (ts : List Placed) → are_closed (with_calls ts) ≡ are_closed ts
calls_closed [] = refl
calls_closed (t ∷ ts) = rw (before_closed t.token ts, calls_closed ts) refl

-- `eval ( p.column )` is closed, and so are its tokens
eval_closed : (t : Token) → is_eval t ≡ true → is_closed t ≡ true
eval_closed (called parts) h = refl
eval_closed _ h = absurd cc

opening_closed : (t : Token) → is_opening t ≡ true → is_closed t ≡ true
opening_closed opening h = refl
opening_closed _ h = absurd cc

closing_closed : (t : Token) → is_closing t ≡ true → is_closed t ≡ true
closing_closed closing h = refl
closing_closed _ h = absurd cc

column_closed : (t : Token) (column : List ℕ) → column_of t ≡ Some column → is_closed t ≡ true
column_closed (name parts) column h = refl
column_closed _ column h = absurd cc

form_closed : (a b c d : Placed) (ts : List Placed) (column : List ℕ) → eval_column a.token b.token c.token d.token ≡ Some column → are_closed (a ∷ b ∷ c ∷ d ∷ ts) ≡ are_closed ts
form_closed a b c d ts column e =
    let test = cond_some (is_eval a.token && (is_opening b.token && is_closing d.token)) (column_of c.token) column e in
    let first = and_parts (is_eval a.token) (is_opening b.token && is_closing d.token) test.0 in
    let others = and_parts (is_opening b.token) (is_closing d.token) first.1 in
    rw (eval_closed a.token first.0, opening_closed b.token others.0, column_closed c.token column test.1, closing_closed d.token others.1) refl

evals_closed : (ts : List Placed) → are_closed (with_evals ts) ≡ are_closed ts
evals_closed [] = refl
evals_closed (a ∷ []) = refl
evals_closed (a ∷ b ∷ []) = refl
evals_closed (a ∷ b ∷ c ∷ []) = refl
evals_closed (a ∷ b ∷ c ∷ d ∷ ts) = by_column (evals_closed ts) (evals_closed (b ∷ c ∷ d ∷ ts)) (eval_column a.token b.token c.token d.token) refl
  where
    by_column : are_closed (with_evals ts) ≡ are_closed ts → are_closed (with_evals (b ∷ c ∷ d ∷ ts)) ≡ are_closed (b ∷ c ∷ d ∷ ts) → (o : Option (List ℕ)) → eval_column a.token b.token c.token d.token ≡ o
        → are_closed (elim o [ Some column ↦ placed a.at (eval b.at column) ∷ with_evals ts | None ↦ a ∷ with_evals (b ∷ c ∷ d ∷ ts) ]) ≡ are_closed (a ∷ b ∷ c ∷ d ∷ ts)
    by_column one all (Some column) e = one ∙ sym (form_closed a b c d ts column e)
    by_column one all None e = ap (λ (v : Bool). is_closed a.token && v) all

pub read_closed : (ts : List Placed) → are_closed (as_read ts) ≡ are_closed ts
read_closed ts = evals_closed (with_calls ts) ∙ calls_closed ts

-- the verdict of a matcher's tokens
pub matcher_verdict : {bytes : List ℕ} {e : Expression} (m : IsMatcher bytes e) → verdict (length bytes) None start (as_read m.tokens) ≡ Ok e
matcher_verdict {bytes} m = whole_reads (length bytes) m.derived m.sound (read_closed m.tokens ∙ m.closed)

pub one_matcher : (bytes : List ℕ) (first second : Expression) → IsMatcher bytes first → IsMatcher bytes second → first ≡ second
one_matcher bytes first second m n =
    let same = cut_is_one m.cut n.cut in
    derives_one m.derived (subst (λ ts. Derives most_levels or_rule (as_read ts) second) (sym same.0) n.derived)

-- two first faults of the same tokens
one_first : {size : ℕ} {stray : Option ℕ} {ts : List Placed} {f g : MatcherFault} → IsFirst size ts stray f → IsFirst size ts stray g → f ≡ g
one_first {size} {stray} {ts} {f} {g} first second = by_shown (first_verdict first) (first_verdict second)
  where
    by_shown : Shows (verdict size stray start ts) f → Shows (verdict size stray start ts) g → f ≡ g
    by_shown (inl a) (inl b) = let e : Err f ≡ Err g = sym a ∙ b in cc
    by_shown (inl a) (inr (e, b, is, many)) = absurd (let bad : Err f ≡ Ok e = sym a ∙ b in cc)
    by_shown (inr (e, a, is, many)) (inl b) = absurd (let bad : Ok e ≡ Err g = sym a ∙ b in cc)
    by_shown (inr (e, a, is, many)) (inr (d, b, is', many')) = is ∙ sym is'

pub one_fault : (bytes : List ℕ) (first second : MatcherFault) → IsFault bytes first → IsFault bytes second → first ≡ second
one_fault bytes _ _ (too_long over) (too_long over') = refl
one_fault bytes _ second (too_long over) (within few cut first) = absurd (omega arith)
one_fault bytes first _ (within few cut found) (too_long over) = absurd (omega arith)
one_fault bytes first second (within {tokens = ts} {stray = stray} few cut found) (within {tokens = us} {stray = stray'} few' cut' found') =
    let same = cut_is_one cut cut' in
    one_first found (subst (λ o. IsFirst (length bytes) (as_read ts) o second) (sym same.1) (subst (λ vs. IsFirst (length bytes) (as_read vs) stray' second) (sym same.0) found'))

pub no_matcher_with_fault : (bytes : List ℕ) (f : MatcherFault) (e : Expression) → IsFault bytes f → ¬ (IsMatcher bytes e)
no_matcher_with_fault bytes _ e (too_long over) m = let few = m.few_bytes in absurd (omega arith)
no_matcher_with_fault bytes f e (within {tokens = ts} {stray = stray} few cut found) m = by_shown (first_verdict moved)
  where
    same : (ts ≡ m.tokens) × (stray ≡ None)
    same = cut_is_one cut m.cut

    moved : IsFirst (length bytes) (as_read m.tokens) None f
    moved = subst (λ o. IsFirst (length bytes) (as_read m.tokens) o f) same.1 (subst (λ us. IsFirst (length bytes) (as_read us) stray f) same.0 found)

    by_shown : Shows (verdict (length bytes) None start (as_read m.tokens)) f → ⊥
    by_shown (inl a) = let bad : Err f ≡ Ok e = sym a ∙ matcher_verdict m in cc
    by_shown (inr (d, a, is, many)) =
        let same' : Ok d ≡ Ok e = sym a ∙ matcher_verdict m in
        let few = m.few_nodes in
        let over : most_nodes < nodes e = subst (λ x. most_nodes < nodes x) (let p : d ≡ e = cc in p) many in
        omega arith
