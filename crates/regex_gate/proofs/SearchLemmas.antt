-- A search for the tree that was read is a search for the pattern.
use Rattle.std.proofs.Common.{◌≡◌, ℕ, ◌<◌, List, get_or, Option, Some, None, IsSomeAnd, IsUtf8, is_some, option_map, false, sym, ap, ◌∙◌}
use Rattle.std.specs.Str.{chars}
use Rattle.regex.specs.Patterns.{Re, SameCaptures}
use Rattle.regex.specs.Bytes as raw
use Rattle.regex.specs.declared.bytes.regex.Regex.{Regex}
use Rattle.regex.proofs.ForCallers.{is_match_alike}
use Rattle.regex_hir.specs.Find.{find}
use Rattle.regex_syntax.specs.Grammar.{Names, read}
use Rattle.regex_syntax.specs.Brackets.{Nested}
use Rattle.regex_syntax.specs.Verdict.{Reads}
use Rattle.regex_gate.specs.Found.{byte_config, has_match}
use Rattle.regex_gate.proofs.FoundLemmas.{read_text}

-- what matches alike is found alike
pub found_alike : (o : Option (Nested Re × Names)) (P : Nested Re × Names → Type 0) (re : Re) (text : List ℕ) → ((k : ℕ) → get_or text k 0 < 256)
    → ((p : Nested Re × Names) → P p → SameCaptures re p.0.value) → IsSomeAnd o P
    → option_map (λ (p : Nested Re × Names). is_some (find p.0.value text 0)) o ≡ Some (is_some (find re text 0))
found_alike None P re text bytes alike is = absurd is
found_alike (Some p) P re text bytes alike is = ap (λ (b : _). Some b) (sym (is_match_alike (alike p is) text bytes false 0))

-- a pattern that is text has a match where what its characters read has one
pub has_match_text : (pattern text : List ℕ) → IsUtf8 pattern → has_match pattern text ≡ option_map (λ (p : Nested Re × Names). is_some (find p.0.value text 0)) (read byte_config (chars pattern))
unfolding has_match
has_match_text pattern text utf8 = ap (option_map (λ (p : Nested Re × Names). is_some (find p.0.value text 0))) (read_text pattern utf8)

-- a regex that was read from a pattern under the options of a search in bytes
pub found_by_regex : (regex : Regex) (pattern text : List ℕ) → IsUtf8 pattern → raw.regex_source regex ≡ pattern → raw.regex_config regex ≡ byte_config → raw.IsReadFromSource regex
    → ((k : ℕ) → get_or text k 0 < 256) → has_match pattern text ≡ Some (is_some (find (raw.regex_pattern regex) text 0))
unfolding Reads
found_by_regex regex pattern text utf8 source config is_read bytes =
    let reads = rw (source, config) at is_read in
    has_match_text pattern text utf8 ∙ found_alike (read byte_config (chars pattern)) _ (raw.regex_pattern regex) text bytes (λ p h. h.1) reads
