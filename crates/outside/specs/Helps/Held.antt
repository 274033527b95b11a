-- Where the bytes of a text lie.
use Rattle.std.specs.Prelude.{List, ℕ, string_bytes}
use Rattle.outside.specs.declared.line_text.HeldLine.{HeldLine}
use Rattle.outside.specs.declared.line_text.HeldLine.TheVariants as line
use Rattle.outside.specs.declared.text.Held.{Held}
use Rattle.outside.specs.declared.text.Held.TheVariants as held

-- the bytes, wherever they lie
abbrev pub held_bytes : Held → List ℕ
held_bytes (held.Short text) = text.bytes
held_bytes (held.Long text) = string_bytes text

abbrev pub held_line_bytes : HeldLine → List ℕ
held_line_bytes (line.Short text) = text.bytes
held_line_bytes (line.Long text) = string_bytes text
