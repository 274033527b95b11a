-- Where a word ends, and a block: its lines up to the first that ends it.
use Rattle.std.specs.Prelude.{ℕ, Bool, not, List, [], ◌∷◌, Option, Some, None, if◌then◌else◌}
use Rattle.text_parts.specs.Blanks.{is_blank}
use Rattle.script_read.specs.Blocks.{Part, block, single}
use Rattle.script_read.specs.Lines.{begins_block, ends_block}
use Rattle.text_parts.specs.Numbered.{Line}

-- no blank
abbrev pub is_no_blank : ℕ → Bool
is_no_blank byte = not (is_blank byte)

-- the lines before it, or all
unfoldable pub before_end : List Line → List Line
before_end [] = []
before_end (line ∷ lines) = if ends_block line.text then [] else line ∷ before_end lines

-- its number
unfoldable pub end_number : List Line → Option ℕ
end_number [] = None
end_number (line ∷ lines) = if ends_block line.text then Some line.number else end_number lines

-- the lines behind it
unfoldable pub behind_end : List Line → List Line
behind_end [] = []
behind_end (line ∷ lines) = if ends_block line.text then lines else behind_end lines

-- the first part of lines: the first line, and the block that it begins
abbrev pub first_part : Line → List Line → Part
first_part line lines = if begins_block line.text then block line (before_end lines) (end_number lines) else single line

-- the lines behind that part
abbrev pub behind_part : List ℕ → List Line → List Line
behind_part text lines = if begins_block text then behind_end lines else lines

-- the number of the line that ends the block that a line begins
abbrev pub end_of_part : List ℕ → List Line → Option ℕ
end_of_part text lines = if begins_block text then end_number lines else None
