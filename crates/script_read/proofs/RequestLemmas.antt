-- The lines of a text that are requests.
use Rattle.std.proofs.Common.{◌≡◌, ℕ, Bool, true, false, cond, not, List, [], ◌∷◌, refl}
use Rattle.std.specs.Prelude.{filter}
use Rattle.text_parts.specs.Numbered.{text_lines}
use Rattle.text_parts.specs.Passed.{is_passed}
use Rattle.script_read.specs.Lines.{requests_of}

-- the requests from a line on
pub requests_of-none : (text : List ℕ) → text_lines text ≡ [] → requests_of text ≡ []
unfolding requests_of
requests_of-none text e = rw e refl

kept : (line : List ℕ) (others : List (List ℕ)) (passed : Bool) → is_passed line ≡ passed → cond (not (is_passed line)) (line ∷ others) others ≡ cond passed others (line ∷ others)
kept line others true e = rw e refl
kept line others false e = rw e refl

pub requests_of-passed : (text line rest : List ℕ) → text_lines text ≡ line ∷ text_lines rest → is_passed line ≡ true → requests_of text ≡ requests_of rest
unfolding requests_of
requests_of-passed text line rest e passed = rw e (kept line (filter (λ (l : List ℕ). not (is_passed l)) (text_lines rest)) true passed)

pub requests_of-first : (text line rest : List ℕ) → text_lines text ≡ line ∷ text_lines rest → is_passed line ≡ false → requests_of text ≡ line ∷ requests_of rest
unfolding requests_of
requests_of-first text line rest e other = rw e (kept line (filter (λ (l : List ℕ). not (is_passed l)) (text_lines rest)) false other)
