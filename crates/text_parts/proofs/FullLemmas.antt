-- The lines of a text that count, from the front.
use Rattle.std.proofs.Common.{◌≡◌, ℕ, ◌+◌, true, false, List, [], ◌∷◌, refl}
use Rattle.text_parts.specs.Full.{full_lines}
use Rattle.text_parts.specs.Numbered.{line, text_lines}
use Rattle.text_parts.specs.Passed.{is_passed}

pub full_lines-none : (number : ℕ) (text : List ℕ) → text_lines text ≡ [] → full_lines number text ≡ []
unfolding full_lines
full_lines-none number text e = rw e refl

pub full_lines-passed : (number : ℕ) (text first rest : List ℕ) → text_lines text ≡ first ∷ text_lines rest → is_passed first ≡ true → full_lines number text ≡ full_lines (number + 1) rest
unfolding full_lines
full_lines-passed number text first rest e passed = rw (e, passed) refl

pub full_lines-first : (number : ℕ) (text first rest : List ℕ) → text_lines text ≡ first ∷ text_lines rest → is_passed first ≡ false → full_lines number text ≡ line number first ∷ full_lines (number + 1) rest
unfolding full_lines
full_lines-first number text first rest e counts = rw (e, counts) refl
