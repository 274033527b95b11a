-- How many edits are to be kept, and where those that are kept start.
use Rattle.std.proofs.Common.{◌≡◌, ℕ, ◌-◌, max, false, List, [], ◌∷◌, ◌++◌, append_assoc, append-nil, Option, Some, None, refl, ap, ◌∙◌, arith}
use Rattle.std.specs.List.{filter_map, last_or}
use Rattle.std.specs.Option.{option_map_or}
use Rattle.std.proofs.lemmas.List.Elements.{filter_map-append}
use Rattle.perm_base.specs.declared.shapes.Shapes.{Shapes}
use Rattle.policy_table.specs.Tables.{Policy}
use Rattle.script_read.specs.Said.{Said}
use Rattle.script_read.specs.Said as said
use Rattle.session_meaning.specs.Versions.{count_of, is_publish, kept, out, start, start_asked, start_behind}

last_or-append : {X : Type 0} (first : Option X) (xs ys : List X) → last_or first (xs ++ ys) ≡ last_or (last_or first xs) ys
last_or-append first [] ys = refl
last_or-append first (x ∷ xs) ys = last_or-append (Some x) xs ys

-- ---- the count that is to be kept

pub kept_none : kept [] ≡ None
unfolding kept
kept_none = refl

-- one item more says it anew, or leaves it
pub kept_more : (before : List Said) (item : Said) → kept (before ++ item ∷ []) ≡ last_or (kept before) (filter_map count_of (item ∷ []))
unfolding kept
kept_more before item = ap (last_or None) (filter_map-append count_of before (item ∷ [])) ∙ last_or-append None (filter_map count_of before) (filter_map count_of (item ∷ []))

module _ (shapes : Shapes) (opening : Policy) where
  -- ---- the start

  pub start_none : start shapes opening [] ≡ 0
  unfolding start
  start_none = refl

  behind_more : (before items : List Said) (item : Said)
      → start_behind shapes opening before (items ++ item ∷ []) ≡ max (start_behind shapes opening before items) (start_asked shapes opening (before ++ items) item)
  behind_more before [] item =
      let same : start_asked shapes opening (before ++ []) item ≡ start_asked shapes opening before item = ap (λ (l : List Said). start_asked shapes opening l item) (append-nil before) in
      omega (arith, same)
  behind_more before (first ∷ items) item =
      let rest = behind_more (before ++ first ∷ []) items item in
      let same : start_asked shapes opening (before ++ first ∷ [] ++ items) item ≡ start_asked shapes opening (before ++ (first ∷ items)) item = ap (λ (l : List Said). start_asked shapes opening l item) (append_assoc before (first ∷ []) items) in
      omega (arith, rest, same)

  start_more : (before : List Said) (item : Said) → start shapes opening (before ++ item ∷ []) ≡ max (start shapes opening before) (start_asked shapes opening before item)
  unfolding start
  start_more before item = behind_more [] before item

  -- a publish raises it to the version that was out less the count that is to be kept, where there is one
  pub start_publish : (before : List Said) → start shapes opening (before ++ said.publishes ∷ [])
      ≡ option_map_or (λ (count : ℕ). max (start shapes opening before) (out shapes opening before - count)) (kept before) (start shapes opening before)
  start_publish before = start_more before said.publishes ∙ by (kept before)
    where
      by : (count : Option ℕ) → max (start shapes opening before) (option_map_or (λ (n : ℕ). out shapes opening before - n) count 0)
          ≡ option_map_or (λ (n : ℕ). max (start shapes opening before) (out shapes opening before - n)) count (start shapes opening before)
      by None = omega arith
      by (Some count) = refl

  asks_none : (before : List Said) (item : Said) → is_publish item ≡ false → start_asked shapes opening before item ≡ 0
  asks_none before said.publishes other = absurd cc
  asks_none before _ other = refl

  -- all else leaves it
  pub start_same : (before : List Said) (item : Said) → is_publish item ≡ false → start shapes opening (before ++ item ∷ []) ≡ start shapes opening before
  start_same before item other = omega (arith, start_more before item, asks_none before item other)
