-- The roles that a walk gathers at a level.
use Rattle.std.specs.Prelude.{◌≡◌, ◌≢◌, ◌⊎◌, ◌<◌, ◌++◌, ℕ, Bool, true, false, List}
use Rattle.std.specs.Cmp.Lexicographic.{slice_cmp}
use Rattle.std.specs.List.{Contains, IsDistinct}
use Rattle.std.specs.Ordering.{is_lt, nat_cmp}
use Rattle.std.specs.Str.{bytes_eq}
use Rattle.role_graph.specs.Helps.Marks.{IsSet}
use Rattle.role_graph.specs.Helps.Walks.{IsRoleAt, Linked}

-- the one text comes before the other by bytes
abbrev pub is_before : List ℕ → List ℕ → Bool
is_before one other = is_lt (slice_cmp nat_cmp one other)

-- these names were seen beside those before
pub record AreSeen (before after : List ℕ → Bool) (names : List (List ℕ)) : Type 0 where
  pub old : (y : List ℕ) → before y ≡ true → after y ≡ true
  pub new : (y : List ℕ) → Contains names y → after y ≡ true
  pub only : (y : List ℕ) → after y ≡ true → (before y ≡ true) ⊎ Contains names y

-- those of the roles were added that are not the name and were not seen before, each once
pub record Adds (x : List ℕ) (roles : List (List ℕ)) (before after : List ℕ → Bool) (old new : List (List ℕ)) : Type 0 where
  pub added : List (List ℕ)
  pub is : new ≡ old ++ added
  pub seen : AreSeen before after added
  pub sound : (y : List ℕ) → Contains added y → (y ≢ x) × (before y ≡ false) × Contains roles y
  pub whole : (y : List ℕ) → Contains roles y → y ≢ x → before y ≡ false → Contains added y
  pub once : IsDistinct bytes_eq added

-- the roles of these groups, of those before `upto`, that are not the name and were not seen before, each once
pub record AreGathered (linked : Linked) (x : List ℕ) (groups : List ℕ) (upto : ℕ) (before after : List ℕ → Bool) (fresh : List (List ℕ)) : Type 0 where
  pub seen : AreSeen before after fresh
  pub sound : (y : List ℕ) → Contains fresh y → (y ≢ x) × (before y ≡ false) × (at : ℕ) × IsSet groups at × IsRoleAt linked y at
  pub whole : (y : List ℕ) (at : ℕ) → at < upto → y ≢ x → before y ≡ false → IsSet groups at → IsRoleAt linked y at → Contains fresh y
  pub once : IsDistinct bytes_eq fresh
