-- Whether fields fit the values of a filter, one value after the other.
use Rattle.std.proofs.Common.{◌≡◌, ℕ, ◌+◌, ◌<◌, Bool, true, false, not, ◌||◌, ◌&&◌, eqb, List, [], length, get_or, drop, slice_get, Some, ap, ◌∙◌, arith}
use Rattle.std.proofs.lemmas.Bool.{not-false, not-true}
use Rattle.std.proofs.lemmas.List.{drop_more}
use Rattle.std.proofs.lemmas.Option.{get_or_from_slice_get, slice_get_within}
use Rattle.std.specs.Str.{bytes_eq}
use Rattle.policy_table.specs.Filters.{fits_values}
use Rattle.policy_table.specs.Tables.{Fields}

module _ (fields values : Fields) (at place : ℕ) where
  -- the values behind this place fit
  abbrev rest_fits : Bool
  rest_fits = fits_values (drop (at + (place + 1)) fields) (drop (place + 1) values)

  -- what is left fits where this value does and those behind it do
  at_place : (value : List ℕ) → at + place < length fields → slice_get values place ≡ Some value
      → fits_values (drop (at + place) fields) (drop place values) ≡ ((eqb (length value) 0 || bytes_eq value (get_or fields (at + place) [])) && rest_fits)
  at_place value within there =
      let next : at + place + 1 ≡ at + (place + 1) = omega arith in
      rw (drop_more fields (at + place) [] within, drop_more values place value (slice_get_within values place value there), get_or_from_slice_get values place value value there, next)

  -- an empty value is left open
  pub fits_values-empty : (value : List ℕ) → at + place < length fields → slice_get values place ≡ Some value → eqb (length value) 0 ≡ true
      → fits_values (drop (at + place) fields) (drop place values) ≡ rest_fits
  fits_values-empty value within there empty = at_place value within there ∙ ap (λ b. (b || bytes_eq value (get_or fields (at + place) [])) && rest_fits) empty

  module _ (value field : List ℕ) (there : slice_get values place ≡ Some value) (here : slice_get fields (at + place) ≡ Some field) where
    -- the same with the field beside the value
    beside : fits_values (drop (at + place) fields) (drop place values) ≡ ((eqb (length value) 0 || bytes_eq value field) && rest_fits)
    beside =
        at_place value (slice_get_within fields (at + place) field here) there
        ∙ ap (λ f. (eqb (length value) 0 || bytes_eq value f) && rest_fits) (get_or_from_slice_get fields (at + place) field [] here)

    -- a value that is the field beside it fits
    pub fits_values-same : eqb (length value) 0 ≡ false → not (bytes_eq value field) ≡ false → fits_values (drop (at + place) fields) (drop place values) ≡ rest_fits
    fits_values-same full same = beside ∙ rw (full, not-false _ same)

    -- and another does not
    pub fits_values-other : eqb (length value) 0 ≡ false → not (bytes_eq value field) ≡ true → fits_values (drop (at + place) fields) (drop place values) ≡ false
    fits_values-other full other = beside ∙ rw (full, not-true _ other)
