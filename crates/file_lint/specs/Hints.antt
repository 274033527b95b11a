-- What to write in place of what no matcher goes on with, by what stands at the place of the fault and in front of it.
use Rattle.std.specs.Prelude.{ℕ, ◌==◌, ◌&&◌, ◌||◌, ◌-◌, Bool, true, false, nat_eq, slice_get, List, [], ◌∷◌, codes, drop, length, if◌then◌else◌}
use Rattle.std.specs.Char.{is_ascii_digit}
use Rattle.std.specs.List.{list_any, prefix_len, starts_with}
use Rattle.std.specs.Option.{option_map_or}
use Rattle.text_parts.specs.Blanks.{is_blank}
use Rattle.file_lint.specs.Places.{ends_in}

-- the text begins so
abbrev pub begins_so : List ℕ → List ℕ → Bool
begins_so front text = starts_with nat_eq text front

-- the text begins with one of these
abbrev pub begins_with_one : List (List ℕ) → List ℕ → Bool
begins_with_one fronts text = list_any (λ (front : List ℕ). begins_so front text) fronts

-- the last byte passes the test
abbrev pub last_is : (ℕ → Bool) → List ℕ → Bool
last_is test text = option_map_or test (slice_get text (length text - 1)) false

-- it ends in a digit
abbrev pub ends_in_digit : List ℕ → Bool
ends_in_digit text = last_is is_ascii_digit text

-- a sign that compares stands in front
abbrev pub compares : List ℕ → Bool
compares rest = begins_with_one (codes "==" ∷ codes "!=" ∷ codes "<" ∷ codes ">" ∷ []) rest

-- a second request or policy does
abbrev pub begins_second : List ℕ → Bool
begins_second rest = begins_with_one (codes "r2." ∷ codes "p2." ∷ codes "r3." ∷ codes "p3." ∷ []) rest

-- the point of a number that is no whole one
abbrev pub is_fraction : List ℕ → List ℕ → Bool
is_fraction before rest = begins_so (codes ".") rest && ends_in_digit before

-- the second sign of `**`
abbrev pub is_power : List ℕ → List ℕ → Bool
is_power before rest = begins_so (codes "*") rest && ends_in 42 before

-- names that have another form here
abbrev pub hint_of_names : List ℕ → List ℕ
hint_of_names rest =
    if begins_so (codes "r_") rest then codes "write `r.` in place of `r_`"
    else if begins_so (codes "p_") rest then codes "write `p.` in place of `p_`"
    else if begins_second rest then codes "a model has one r and one p: write `r.` or `p.`"
    else codes "no matcher goes on so"

-- signs of lists and numbers that have another form here, and else a name
abbrev pub hint_of_forms : List ℕ → List ℕ → List ℕ
hint_of_forms before rest =
    if begins_so (codes "|") rest then codes "there is no `|`: write `||`"
    else if begins_so (codes "[") rest then codes "there is no `[a, b]`: write `(a, b)`"
    else if is_fraction before rest then codes "numbers are whole"
    else hint_of_names rest

-- signs that compare, choose and join, and else another
abbrev pub hint_of_signs : List ℕ → List ℕ → List ℕ
hint_of_signs before rest =
    if begins_so (codes "=") rest then codes "there is no `=`: write `==`"
    else if begins_so (codes "?") rest then codes "there is no `? :`: write `a && b || !a && c`"
    else if is_power before rest then codes "there is no `**`: write a product"
    else if begins_so (codes "&") rest then codes "there is no `&`: write `&&`"
    else hint_of_forms before rest

-- the sign of a line that is continued, at its end
abbrev pub is_continued : ℕ → List ℕ → Bool
is_continued byte behind = byte == 92 && prefix_len is_blank behind == length behind

-- a comment, or that sign
abbrev pub ends_here : ℕ → List ℕ → Bool
ends_here byte behind = byte == 35 || is_continued byte behind

-- nothing stands there, or one of these
abbrev pub is_over : List ℕ → Bool
is_over [] = true
is_over (byte ∷ bytes) = ends_here byte bytes

-- behind blanks it is over
abbrev pub is_end : List ℕ → Bool
is_end rest = is_over (drop (prefix_len is_blank rest) rest)

-- what to write, by what stands in front and at the place; behind the last byte blanks, a comment or the sign of a line that is continued may stand
abbrev pub hint : List ℕ → List ℕ → List ℕ
hint before rest =
    if is_end rest then codes "the matcher ends here, and something is missing"
    else if begins_so (codes "=~") rest then codes "there is no `=~`: write regexMatch(TEXT, PATTERN)"
    else if begins_so (codes "!~") rest then codes "there is no `!~`: write !regexMatch(TEXT, PATTERN)"
    else if compares rest then codes "comparisons are not chained: write `a == b && b == c`"
    else hint_of_signs before rest
