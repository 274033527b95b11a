-- Where the bytes of a field lie.
use Rattle.std.specs.Prelude.{List, ℕ}
use Rattle.perm_base.specs.declared.line_field.Held.{Held}
use Rattle.perm_base.specs.declared.line_field.Held.TheVariants as held

-- the bytes, wherever they lie
abbrev pub held_bytes : Held → List ℕ
held_bytes (held.Part text) = text.now
held_bytes (held.Own text) = text
