-- The roles of one user, as they are kept: one alone in its own place, and several in a vector.
use Rattle.std.specs.Prelude.{List, [], ◌∷◌, ℕ}
use Rattle.role_graph.specs.declared.role_texts.Held.{Held}
use Rattle.role_graph.specs.declared.role_texts.Held.TheVariants.{One, Many}

-- the list of them
pub record Texts : Type 0 where
  pub items : List (List ℕ)

abbrev pub texts_of : Held → Texts
texts_of (One role) = record { items = role ∷ [] }
texts_of (Many roles) = record { items = roles.items }
