-- The names of the tables.
use Rattle.std.proofs.Common.{◌≡◌, ℕ, zero, suc, List, [], codes, All, Option, Some, None, get_or, option_map, slice_get, refl, sym, ap, subst, ◌∙◌, arith}
use Rattle.std.specs.Prelude.{position}
use Rattle.std.specs.Str.{bytes_eq}
use Rattle.std.proofs.lemmas.List.Elements.{All-from_recursion}
use Rattle.std.proofs.lemmas.List.Quantifiers.{position-Some}
use Rattle.std.proofs.lemmas.Option.{get_or_from_slice_get, slice_get-get_or, slice_get_within}
use Rattle.std.proofs.lemmas.Slice.Eq.{bytes_eq-Decides}
use Rattle.perm_base.specs.FieldLine.{printed_field}
use Rattle.perm_base.specs.TableNames.{name_of, table_at, table_named, table_names}
use Rattle.perm_base.specs.declared.shapes.TableId.{TableId}
use Rattle.perm_base.specs.declared.shapes.TableId.TheVariants.{P, G}

named_by : (table : TableId) (front name : List ℕ) → Some front ≡ Some name → table_named front ≡ Some table → table_named name ≡ Some table
named_by table front name e is = let same : front ≡ name = cc in ap table_named (sym same) ∙ is

-- the name of a table names it
pub named_from_name : (table : TableId) (name : List ℕ) → name_of table ≡ Some name → table_named name ≡ Some table
named_from_name P name e = named_by P (codes "p") name e refl
named_from_name (G zero) name e = absurd cc
named_from_name (G (suc zero)) name e = named_by (G 1) (codes "g") name e refl
named_from_name (G (suc (suc zero))) name e = named_by (G 2) (codes "g2") name e refl
named_from_name (G (suc (suc (suc zero)))) name e = named_by (G 3) (codes "g3") name e refl
named_from_name (G (suc (suc (suc (suc zero))))) name e = named_by (G 4) (codes "g4") name e refl
named_from_name (G (suc (suc (suc (suc (suc zero)))))) name e = named_by (G 5) (codes "g5") name e refl
named_from_name (G (suc (suc (suc (suc (suc (suc zero))))))) name e = named_by (G 6) (codes "g6") name e refl
named_from_name (G (suc (suc (suc (suc (suc (suc (suc zero)))))))) name e = named_by (G 7) (codes "g7") name e refl
named_from_name (G (suc (suc (suc (suc (suc (suc (suc (suc zero))))))))) name e = named_by (G 8) (codes "g8") name e refl
named_from_name (G (suc (suc (suc (suc (suc (suc (suc (suc (suc more)))))))))) name e = absurd (let within = slice_get_within table_names (suc (suc (suc (suc (suc (suc (suc (suc (suc more))))))))) name e in omega (arith, within))

-- the table at a place has the name there
name_at : (place : ℕ) → name_of (table_at place) ≡ slice_get table_names place
name_at zero = refl
name_at (suc place) = refl

by_place : (table : TableId) (name : List ℕ) (o : Option ℕ) → position (bytes_eq name) table_names ≡ o → option_map table_at o ≡ Some table → name_of table ≡ Some name
by_place table name None e is = absurd cc
by_place table name (Some place) e is =
    let there = position-Some (bytes_eq name) table_names place [] e in
    let same : name ≡ get_or table_names place [] = (bytes_eq-Decides name (get_or table_names place [])).0 there.1 in
    let table_is : table_at place ≡ table = cc in
    ap name_of (sym table_is) ∙ name_at place ∙ slice_get-get_or table_names place [] there.0 ∙ ap (λ (text : List ℕ). Some text) (sym same)

-- what names a table is its name
pub name_from_named : (table : TableId) (name : List ℕ) → table_named name ≡ Some table → name_of table ≡ Some name
name_from_named table name is = by_place table name (position (bytes_eq name) table_names) refl is

-- the name of a table is printed as it is
pub plain_name : (table : TableId) (name : List ℕ) → name_of table ≡ Some name → printed_field name ≡ name
unfolding printed_field
plain_name P name e = let same : codes "p" ≡ name = cc in subst (λ (t : List ℕ). printed_field t ≡ t) same refl
plain_name (G zero) name e = absurd cc
plain_name (G (suc at)) name e =
    let all : All (λ (text : List ℕ). printed_field text ≡ text) table_names
    = All-from_recursion (λ (text : List ℕ). printed_field text ≡ text) table_names (refl, (refl, (refl, (refl, (refl, (refl, (refl, (refl, (refl, tt))))))))) in
    subst (λ (text : List ℕ). printed_field text ≡ text) (get_or_from_slice_get table_names (suc at) name name e) (all (suc at) name (slice_get_within table_names (suc at) name e))
