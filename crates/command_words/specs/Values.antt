-- The values of options: numbers, and lists of role relations with functions.
use Rattle.std.specs.Prelude.{ℕ, ◌==◌, ◌&&◌, Bool, nat_le, nat_lt, List, [], ◌∷◌, length, Option, Some, None, codes, bytes_eq, if◌then◌else◌}
use Rattle.std.specs.Char.{is_ascii_digit}
use Rattle.std.specs.List.{after_first, before_first, list_all, slice_split}
use Rattle.std.specs.Str.Parse.{digits_value}
use Rattle.perm_base.specs.TableNames.{table_named}
use Rattle.perm_base.specs.declared.shapes.Fit.{Fit}
use Rattle.perm_base.specs.declared.shapes.Fit.TheVariants.{KeyMatch, KeyMatch2, KeyMatch3, Glob}
use Rattle.perm_base.specs.declared.shapes.TableId.{TableId}
use Rattle.perm_base.specs.declared.shapes.TableId.TheVariants.{G}
use Rattle.command_words.specs.Fits.{has_relation}
use Rattle.command_words.specs.Items.{is_equals}

-- one to so many decimal digits
abbrev pub is_numeral : ℕ → List ℕ → Bool
is_numeral most text = nat_lt 0 (length text) && nat_le (length text) most && list_all is_ascii_digit text

-- the number lies in the range
abbrev pub is_within : ℕ → ℕ → ℕ → Bool
is_within least most number = nat_le least number && nat_le number most

-- the number that one to so many digits write, where it lies in the range
abbrev pub number_between : ℕ → ℕ → ℕ → List ℕ → Option ℕ
number_between digits least most text = if is_numeral digits text && is_within least most (digits_value 10 text) then Some (digits_value 10 text) else None

-- the role relation that a table is
abbrev pub relation_of : Option TableId → Option ℕ
relation_of (Some (G relation)) = Some relation
relation_of _ = None

-- the function of that name
abbrev pub fit_named : List ℕ → Option Fit
fit_named name =
    if bytes_eq name (codes "keyMatch") then Some KeyMatch
    else if bytes_eq name (codes "keyMatch2") then Some KeyMatch2
    else if bytes_eq name (codes "keyMatch3") then Some KeyMatch3
    else if bytes_eq name (codes "globMatch") then Some Glob
    else None

-- both of these
abbrev pub fitted : Option ℕ → Option Fit → Option (ℕ × Fit)
fitted (Some relation) (Some fit) = Some (relation, fit)
fitted _ _ = None

-- `RELATION=FUNCTION`
abbrev pub entry_of : List ℕ → Option (ℕ × Fit)
entry_of text = fitted (relation_of (table_named (before_first is_equals text))) (fit_named (after_first is_equals text))

-- one more in front of a list, where its relation is none of these
abbrev pub with_fit : Option (ℕ × Fit) → Option (List (ℕ × Fit)) → Option (List (ℕ × Fit))
with_fit (Some fit) (Some fits) = if has_relation fits fit.0 then None else Some (fit ∷ fits)
with_fit _ _ = None

-- what entries say, in the order given
abbrev pub fits_in : List (List ℕ) → Option (List (ℕ × Fit))
fits_in [] = Some []
fits_in (entry ∷ entries) = with_fit (entry_of entry) (fits_in entries)

-- `,`
abbrev pub is_comma : ℕ → Bool
is_comma byte = byte == 44

-- a list, whose entries stand between its commas
abbrev pub fits_of : List ℕ → Option (List (ℕ × Fit))
fits_of text = fits_in (slice_split is_comma text)
