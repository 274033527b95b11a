-- What is found among the rows of matches once values are put in.
use Rattle.std.proofs.Common.{◌≡◌, ◌∙◌, ◌||◌, Bool, true, false, cond, List, [], ◌∷◌, ◌++◌, find, is_some, option_map, Option, Some, None, refl, sym, ap, true≢false, bytes_eq}
use Rattle.clap.specs.Walk.{Row, Text, has_row, stronger, with_values, without}
use Rattle.clap.specs.declared.builder.value_parser.Reading.{Reading}
use Rattle.clap.specs.declared.parser.matches.ValueSource.{ValueSource}
use Rattle.command_words.proofs.TextLemmas.{bytes_same, bytes_self}

-- the row of that id
abbrev pub row_of_id : Text → List Row → Option Row
row_of_id id rows = find (λ (r : Row). bytes_eq r.id id) rows

-- the row that values make, and the row with more of them
abbrev pub new_row : Text → Reading → ValueSource → List Text → Row
new_row id how source values = record { id = id; values = values; count = None; source = Some source; reading = how }

abbrev pub more_row : ValueSource → List Text → Row → Row
more_row source values r = record r { values = r.values ++ values; source = Some (stronger r.source source) }

some_none : {X P : Type 0} (x : X) → ◌≡◌ {A = Option X} (Some x) None → P
some_none x e = absurd cc

pub has_row_is : (id : Text) (rows : List Row) → has_row id rows ≡ is_some (row_of_id id rows)
has_row_is id [] = refl
has_row_is id (r ∷ rows) = go (bytes_eq r.id id) (has_row_is id rows)
  where
    go : (test : Bool) → has_row id rows ≡ is_some (row_of_id id rows) → (test || has_row id rows) ≡ is_some (cond test (Some r) (row_of_id id rows))
    go true e = refl
    go false e = e

pub no_row : (id : Text) (rows : List Row) → has_row id rows ≡ false → row_of_id id rows ≡ None
no_row id rows none = go (row_of_id id rows) (sym (has_row_is id rows) ∙ none)
  where
    go : (o : Option Row) → is_some o ≡ false → o ≡ None
    go None e = refl
    go (Some r) e = absurd (true≢false e)

pub without_none : (id : Text) (rows : List Row) → has_row id rows ≡ false → without id rows ≡ rows
without_none id [] none = refl
without_none id (r ∷ rows) none = go (bytes_eq r.id id) none (without_none id rows)
  where
    go : (test : Bool) → (test || has_row id rows) ≡ false → (has_row id rows ≡ false → without id rows ≡ rows) → cond test rows (r ∷ without id rows) ≡ r ∷ rows
    go true e rest = absurd (true≢false e)
    go false e rest = ap (λ (rs : List Row). r ∷ rs) (rest e)

module _ (id : Text) (how : Reading) (source : ValueSource) (values : List Text) where
  -- another id
  pub values_other : (other : Text) (rows : List Row) → bytes_eq id other ≡ false → row_of_id other (with_values id how source values rows) ≡ row_of_id other rows
  values_other other [] apart = ap (λ (t : Bool). cond t (Some (new_row id how source values)) None) apart
  values_other other (r ∷ rows) apart = go (bytes_eq r.id id) refl (values_other other rows apart)
    where
      rest : List Row
      rest = with_values id how source values rows

      go : (test : Bool) → bytes_eq r.id id ≡ test → row_of_id other rest ≡ row_of_id other rows
          → row_of_id other (cond test (more_row source values r ∷ rows) (r ∷ rest)) ≡ cond (bytes_eq r.id other) (Some r) (row_of_id other rows)
      go true same found =
          let not_other : bytes_eq r.id other ≡ false = ap (λ (t : Text). bytes_eq t other) (bytes_same r.id id same) ∙ apart in
          ap (λ (t : Bool). cond t (Some (more_row source values r)) (row_of_id other rows)) not_other ∙ sym (ap (λ (t : Bool). cond t (Some r) (row_of_id other rows)) not_other)
      go false same found = ap (λ (o : Option Row). cond (bytes_eq r.id other) (Some r) o) found

  -- the id itself, where it had no row, and where it had one
  pub values_new : (rows : List Row) → row_of_id id rows ≡ None → row_of_id id (with_values id how source values rows) ≡ Some (new_row id how source values)
  values_new [] none = ap (λ (t : Bool). cond t (Some (new_row id how source values)) None) (bytes_self id)
  values_new (r ∷ rows) none = go (bytes_eq r.id id) refl none (values_new rows)
    where
      rest : List Row
      rest = with_values id how source values rows

      go : (test : Bool) → bytes_eq r.id id ≡ test → cond test (Some r) (row_of_id id rows) ≡ None → (row_of_id id rows ≡ None → row_of_id id rest ≡ Some (new_row id how source values))
          → row_of_id id (cond test (more_row source values r ∷ rows) (r ∷ rest)) ≡ Some (new_row id how source values)
      go true same e found = some_none r e
      go false same e found = ap (λ (t : Bool). cond t (Some r) (row_of_id id rest)) same ∙ found e

  pub values_more : (rows : List Row) (had : Row) → row_of_id id rows ≡ Some had → row_of_id id (with_values id how source values rows) ≡ Some (more_row source values had)
  values_more [] had has = some_none had (sym has)
  values_more (r ∷ rows) had has = go (bytes_eq r.id id) refl has (values_more rows had)
    where
      rest : List Row
      rest = with_values id how source values rows

      go : (test : Bool) → bytes_eq r.id id ≡ test → cond test (Some r) (row_of_id id rows) ≡ Some had → (row_of_id id rows ≡ Some had → row_of_id id rest ≡ Some (more_row source values had))
          → row_of_id id (cond test (more_row source values r ∷ rows) (r ∷ rest)) ≡ Some (more_row source values had)
      go true same e found =
          ap (λ (t : Bool). cond t (Some (more_row source values r)) (row_of_id id rows)) same
          ∙ ap (λ (o : Option Row). option_map (more_row source values) o) e
      go false same e found = ap (λ (t : Bool). cond t (Some r) (row_of_id id rest)) same ∙ found e
