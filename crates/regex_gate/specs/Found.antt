-- What a pattern matches, both it and the text being bytes (the regex crate: its syntax, and its module `bytes`), and when a pattern may be refused.
use Rattle.std.specs.Prelude.{◌≡◌, ◌⊎◌, ℕ, ◌<◌, ◌==◌, ◌||◌, Bool, true, false, List, length, Option, None, option_map, is_some, IsSomeAnd, chars, if◌then◌else◌}
use Rattle.std.specs.List.{list_any}
use Rattle.std.specs.Prelude.{nat_lt}
use Rattle.std.specs.Str.{is_utf8}
use Rattle.regex.specs.Patterns.{Config, Re, default_config}
use Rattle.regex_hir.specs.Find.{find}
use Rattle.regex_syntax.specs.Brackets.{Nested}
use Rattle.regex_syntax.specs.Grammar.{Names, read}

-- the options of a search in bytes: the default ones, and a match need not be text
abbrev pub byte_config : Config
byte_config = record default_config { utf8 = false }

-- what `regex` reads in the pattern; None where the pattern cannot be read: it is not UTF-8, or `regex` reads nothing in it
unfoldable pub read_pattern : List ℕ → Option (Nested Re × Names)
read_pattern pattern = if is_utf8 pattern then read byte_config (chars pattern) else None

-- the pattern can be read
abbrev pub is_readable : List ℕ → Bool
is_readable pattern = is_some (read_pattern pattern)

-- whether the pattern has a match in the text; None where it cannot be read
unfoldable pub has_match : List ℕ → List ℕ → Option Bool
has_match pattern text = option_map (λ p. is_some (find p.0.value text 0)) (read_pattern pattern)

-- the pattern nests deeper than `regex` builds it: 250 levels of groups, repetitions and classes
unfoldable pub IsTooDeep : List ℕ → Type 0
IsTooDeep pattern = IsSomeAnd (read_pattern pattern) (λ p. byte_config.nest_limit < p.0.depth)

-- the pattern may be too large to be built: it has more than 64 bytes, or a `{`, which may count repetitions
abbrev pub is_large : List ℕ → Bool
is_large pattern = nat_lt 64 (length pattern) || list_any (λ byte. byte == 0x7B) pattern

-- the pattern may be refused: it cannot be read, or it is too deep, or it may be too large
abbrev pub IsRefusable : List ℕ → Type 0
IsRefusable pattern = (is_readable pattern ≡ false) ⊎ (IsTooDeep pattern ⊎ (is_large pattern ≡ true))
