-- The lines of a policy's text that count.
use Rattle.std.specs.Prelude.{ℕ, List}
use Rattle.text_parts.specs.Full.{full_lines}
use Rattle.text_parts.specs.Numbered.{Line}

-- the lines of the text that are neither blank nor comments, numbered from 1
abbrev pub policy_lines : List ℕ → List Line
policy_lines bytes = full_lines 1 bytes
