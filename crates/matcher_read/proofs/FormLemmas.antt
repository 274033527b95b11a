-- The tokens with each `eval ( p.column )` as one, and the loop that makes them.
use Rattle.std.proofs.Common.{◌≡◌, ℕ, List, [], ◌∷◌, Option, Some, None, option_map, refl, ap}
use Rattle.matcher_read.specs.Helps.Forms.{evals_behind}
use Rattle.matcher_read.specs.Tokens.{Placed, placed, eval, eval_column, with_evals}

-- the loop gives the tokens with each `eval ( p.column )` as one
pub evals_are : (ts : List Placed) → evals_behind 0 ts ≡ with_evals ts
evals_are [] = refl
evals_are (a ∷ []) = refl
evals_are (a ∷ b ∷ []) = refl
evals_are (a ∷ b ∷ c ∷ []) = refl
evals_are (a ∷ b ∷ c ∷ d ∷ ts) = by_column (evals_are ts) (evals_are (b ∷ c ∷ d ∷ ts)) (eval_column a.token b.token c.token d.token)
  where
    by_column : evals_behind 0 ts ≡ with_evals ts → evals_behind 0 (b ∷ c ∷ d ∷ ts) ≡ with_evals (b ∷ c ∷ d ∷ ts) → (o : Option (List ℕ))
        → ◌≡◌ {A = List Placed} (elim (option_map (λ column. placed a.at (eval b.at column)) o) [ Some form ↦ form ∷ evals_behind 0 ts | None ↦ a ∷ evals_behind 0 (b ∷ c ∷ d ∷ ts) ])
        (elim o [ Some column ↦ placed a.at (eval b.at column) ∷ with_evals ts | None ↦ a ∷ with_evals (b ∷ c ∷ d ∷ ts) ])
    by_column one all (Some column) = ap (λ read. placed a.at (eval b.at column) ∷ read) one
    by_column one all None = ap (λ read. a ∷ read) all
