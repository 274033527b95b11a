-- Blanks at the ends of a text.
use Rattle.std.specs.Prelude.{◌≡◌, ℕ, ◌==◌, ◌||◌, Bool, true, if◌then◌else◌, List, [], ◌∷◌}
use Rattle.std.specs.List.{list_all}

-- space or tab
abbrev pub is_blank : ℕ → Bool
is_blank byte = byte == 32 || byte == 9

-- these bytes are blanks, or there are none
abbrev pub AreBlanks : List ℕ → Type 0
AreBlanks bytes = list_all is_blank bytes ≡ true

-- without the blanks in front
abbrev pub behind_blanks : List ℕ → List ℕ
behind_blanks [] = []
behind_blanks (byte ∷ bytes) = if is_blank byte then behind_blanks bytes else byte ∷ bytes

-- without the blanks at the end
abbrev pub before_blanks : List ℕ → List ℕ
before_blanks [] = []
before_blanks (byte ∷ bytes) = if list_all is_blank (byte ∷ bytes) then [] else byte ∷ before_blanks bytes

-- without the blanks at both ends
abbrev pub trimmed : List ℕ → List ℕ
trimmed text = before_blanks (behind_blanks text)
