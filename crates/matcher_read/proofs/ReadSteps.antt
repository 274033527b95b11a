-- Where nothing goes on, and how a token of a level is read.
use Rattle.std.proofs.Common.{◌≡◌, ℕ, ◌+◌, ◌<◌, ◌≤◌, nat_le, Bool, cond, List, [], ◌∷◌, Option, Some, None, Result, Ok, Err, refl, ap}
use Rattle.std.proofs.lemmas.Bool.{le-leb}
use Rattle.std.proofs.lemmas.Bool.{lt-leb}
use Rattle.matcher_read.specs.Expression.{Expression}
use Rattle.matcher_read.specs.Matcher.{most_levels}
use Rattle.matcher_read.specs.Helps.Parsed.{StopsAt}
use Rattle.matcher_read.specs.Helps.TakenTokens.{place_of_first}
use Rattle.matcher_read.specs.Helps.TokenLists.{end_of}
use Rattle.matcher_read.specs.Tokens.{Placed}
use Rattle.matcher_read.specs.declared.fault.MatcherFault.{MatcherFault}
use Rattle.matcher_read.specs.declared.fault.MatcherFault.TheVariants.{Unexpected, TooDeep}
use Rattle.matcher_read.specs.Helps.Machine.{State, final_value, finish, verdict}
use Rattle.matcher_read.proofs.Passes.{verdict_none}

by_value : ℕ → Option Expression → Result Expression MatcherFault
by_value size o = elim o [
  | Some e ↦ Ok e
  | None ↦ Err (Unexpected (size + 1))
]

finish_none : (size : ℕ) (stray : Option ℕ) (s : State) → final_value s ≡ None → finish size stray s ≡ Err (Unexpected (end_of stray size))
unfolding by_value
finish_none size (Some place) s e = refl
finish_none size None s e = ap (by_value size) e

-- nothing goes on: neither a token, nor the end
pub verdict_stops : (size : ℕ) (stray : Option ℕ) (s : State) (ts : List Placed) → StopsAt s ts → final_value s ≡ None → verdict size stray s ts ≡ Err (Unexpected (place_of_first ts (end_of stray size)))
verdict_stops size stray s [] h e = finish_none size stray s e
verdict_stops size stray s (t ∷ ts) h e = verdict_none size stray s t ts h

-- within the levels, and with one too many
pub quiet : (at depth : ℕ) → depth ≤ most_levels → cond (nat_le depth most_levels) None (Some (TooDeep at)) ≡ None
quiet at depth h = ap (λ (b : Bool). cond b None (Some (TooDeep at))) (le-leb depth most_levels h)

pub loud : (at depth : ℕ) → most_levels < depth → cond (nat_le depth most_levels) None (Some (TooDeep at)) ≡ Some (TooDeep at)
loud at depth h = ap (λ (b : Bool). cond b None (Some (TooDeep at))) (lt-leb depth most_levels h)
