-- When a pattern can be read, and when it may be refused.
use Rattle.std.proofs.Common.{◌≡◌, ◌≢◌, inl, inr, ◌⊎◌, ℕ, Bool, true, false, cond, List, Option, Some, None, is_some, option_map, refl, sym, ap, ◌∙◌, subst}
use Rattle.std.specs.Prelude.{IsUtf8, IsSomeAnd, IfSome, ◌<◌, chars}
use Rattle.std.specs.Str.{is_utf8}
use Rattle.std.proofs.lemmas.Str.{IsUtf8-from_is_utf8, is_utf8-from_IsUtf8}
use Rattle.regex.specs.Patterns.{Re}
use Rattle.regex.specs.declared.error.Error.TheVariants.{Syntax}
use Rattle.regex.specs.Sources.{IsRefusal}
use Rattle.regex.specs.Failures.{IsRightKind}
use Rattle.regex_syntax.specs.Brackets.{Nested}
use Rattle.regex_syntax.specs.Grammar.{Names, read}
use Rattle.regex_syntax.specs.Verdict.{Refuses}
use Rattle.regex_syntax.specs.declared.error.Error as parser
use Rattle.regex_syntax.specs.declared.error.ErrorKind.TheVariants as kind
use Rattle.regex_gate.specs.Found.{byte_config, read_pattern, is_readable, has_match, IsTooDeep, IsRefusable}

-- a pattern that is text is read as its characters are
pub read_text : (pattern : List ℕ) → IsUtf8 pattern → read_pattern pattern ≡ read byte_config (chars pattern)
unfolding read_pattern
read_text pattern utf8 = rw (is_utf8-from_IsUtf8 pattern utf8) refl

none_unless : {X : Type 0} (b : Bool) (o : Option X) → ((b ≡ true) → ⊥) → is_some (cond b o None) ≡ false
none_unless true o never = absurd (never refl)
none_unless false o never = refl

-- a pattern that is no text cannot be read
pub no_text : (pattern : List ℕ) → ¬ (IsUtf8 pattern) → is_readable pattern ≡ false
unfolding read_pattern
no_text pattern never = none_unless (is_utf8 pattern) (read byte_config (chars pattern)) (λ is. never (IsUtf8-from_is_utf8 pattern is))

mapped_there : {X Y : Type 0} (f : X → Y) (o : Option X) → is_some (option_map f o) ≡ is_some o
mapped_there f None = refl
mapped_there f (Some x) = refl

-- a search has an answer where the pattern can be read, and only there
pub answered_readable : (pattern text : List ℕ) → is_some (has_match pattern text) ≡ is_readable pattern
unfolding has_match
answered_readable pattern text = mapped_there _ (read_pattern pattern)

-- what is read, and nests so deep
deep_or_none : (o : Option (Nested Re × Names)) → IfSome o (λ p. byte_config.nest_limit < p.0.depth) → (is_some o ≡ false) ⊎ IsSomeAnd o (λ p. byte_config.nest_limit < p.0.depth)
deep_or_none None deep = inl refl
deep_or_none (Some p) deep = inr deep

-- what is read in the characters, or not, is so of the pattern
refusable_by : (pattern : List ℕ) (o : Option (Nested Re × Names)) → read_pattern pattern ≡ o → (o ≡ None) ⊎ IfSome o (λ p. byte_config.nest_limit < p.0.depth) → IsRefusable pattern
unfolding IsTooDeep
refusable_by pattern o same (inl none) = inl (ap is_some (same ∙ none))
refusable_by pattern o same (inr deep) = go (deep_or_none o deep)
  where
    go : (is_some o ≡ false) ⊎ IsSomeAnd o (λ p. byte_config.nest_limit < p.0.depth) → IsRefusable pattern
    go (inl none) = inl (ap is_some same ∙ none)
    go (inr is) = inr (inl (subst (λ (o : Option (Nested Re × Names)). IsSomeAnd o (λ p. byte_config.nest_limit < p.0.depth)) (sym same) is))

said_by_parser : (pattern : List ℕ) (error : parser.Error) → (error.kind ≢ kind.OutOfMemory) → Refuses byte_config pattern error.kind
    → (read byte_config (chars pattern) ≡ None) ⊎ IfSome (read byte_config (chars pattern)) (λ p. byte_config.nest_limit < p.0.depth)
unfolding Refuses
said_by_parser pattern error other (inl memory) = absurd (other memory)
said_by_parser pattern error other (inr (inl none)) = inl none
said_by_parser pattern error other (inr (inr deep)) = inr deep.1

-- what the parser of `regex` refuses may be refused
pub refused_by_parser : (pattern : List ℕ) (error : parser.Error) → IsUtf8 pattern → IsRefusal byte_config pattern (Syntax error) → IsRightKind byte_config pattern (Syntax error) → IsRefusable pattern
refused_by_parser pattern error utf8 refusal other =
    refusable_by pattern (read byte_config (chars pattern)) (read_text pattern utf8) (said_by_parser pattern error other (refusal error refl))
