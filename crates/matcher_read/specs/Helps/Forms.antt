-- What is left behind a token that is read, each `eval ( p.column )` as one.
use Rattle.std.specs.Prelude.{◌≡◌, ℕ, zero, suc, List, [], ◌∷◌, ◌++◌, Option, Some, None, option_map, drop}
use Rattle.std.specs.Option.{option_to_list}
use Rattle.matcher_read.specs.Helps.TokenLists.{TokenList, HasDigits, placed_of}
use Rattle.matcher_read.specs.Tokens.{Placed, placed, eval, eval_column}
use Rattle.matcher_read.specs.declared.token.PlacedToken.{PlacedToken}

-- `eval ( p.column )` as one token, where a token and those behind it begin so
abbrev pub eval_at : Placed → List Placed → Option Placed
eval_at first (second ∷ third ∷ fourth ∷ behind) = option_map (λ column. placed first.at (eval second.at column)) (eval_column first.token second.token third.token fourth.token)
eval_at first _ = None

-- behind so many tokens, each `eval ( p.column )` as one
abbrev pub evals_behind : ℕ → List Placed → List Placed
evals_behind n [] = []
evals_behind (suc n) (token ∷ behind) = evals_behind n behind
evals_behind zero (token ∷ behind) = elim (eval_at token behind) [
  | Some form ↦ form ∷ evals_behind 3 behind
  | None ↦ token ∷ evals_behind 0 behind
]

-- a token that is read, if there is one, and the others
abbrev pub formed : Option Placed → TokenList → TokenList
formed current rest = record {
  tokens = option_to_list current ++ evals_behind 0 rest.tokens;
  stray = rest.stray;
  size = rest.size;
}

-- a token was read, or else there is none
abbrev pub IsFormed : Option Placed → TokenList → Type 0
IsFormed (Some current) rest = HasDigits current.token
IsFormed None rest = rest.tokens ≡ []

-- the form is what the token and those behind it begin with, and these are behind it
pub record BeginsWith (form : PlacedToken) (rest : TokenList) (first : Placed) (behind : TokenList) : Type 0 where
  pub is : eval_at first behind.tokens ≡ Some (placed_of form)
  pub tokens : rest.tokens ≡ drop 3 behind.tokens
  pub stray : rest.stray ≡ behind.stray
  pub size : rest.size ≡ behind.size
