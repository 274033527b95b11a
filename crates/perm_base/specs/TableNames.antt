-- The names of the tables of a policy (Casbin, policy: the first field of a line is `p`, `g`, `g2` ..).
use Rattle.std.specs.Prelude.{ℕ, zero, suc, List, [], ◌∷◌, Option, Some, None, codes, option_map, position, slice_get}
use Rattle.std.specs.Str.{bytes_eq}
use Rattle.perm_base.specs.declared.shapes.TableId.{TableId}
use Rattle.perm_base.specs.declared.shapes.TableId.TheVariants.{P, G}

-- the names of `p` and of the role relations 1 to 8
abbrev pub table_names : List (List ℕ)
table_names = codes "p" ∷ codes "g" ∷ codes "g2" ∷ codes "g3" ∷ codes "g4" ∷ codes "g5" ∷ codes "g6" ∷ codes "g7" ∷ codes "g8" ∷ []

-- the table whose name stands at this place among them, counted from 0
abbrev pub table_at : ℕ → TableId
table_at zero = P
table_at (suc place) = G (suc place)

-- the table whose name the text is
abbrev pub table_named : List ℕ → Option TableId
table_named text = option_map table_at (position (bytes_eq text) table_names)

-- the name of a table; a relation that is not numbered 1 to 8 has none
abbrev pub name_of : TableId → Option (List ℕ)
name_of P = Some (codes "p")
name_of (G zero) = None
name_of (G (suc place)) = slice_get table_names (suc place)
