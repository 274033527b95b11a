-- A text with a line replaced, from one line to the next.
use Rattle.std.proofs.Common.{◌≡◌, ℕ, ◌<◌, ◌≤◌, Bool, true, false, List, [], ◌∷◌, ◌++◌, Some, None, length, refl, sym, ap, ◌∙◌, arith}
use Rattle.std.specs.Prelude.{nat_lt}
use Rattle.std.proofs.lemmas.Bool.{le-ltb, lt-ltb}
use Rattle.std.proofs.lemmas.List.{append_assoc}
use Rattle.text_parts.specs.Lines.{with_ends}
use Rattle.text_parts.specs.Numbered.{Line}
use Rattle.model_conf.specs.ModelText.{most_bytes}
use Rattle.file_lint.specs.Mended.{if_short, piece, reach_behind, replaced}
use Rattle.file_lint.specs.declared.mended.Extent.{Extent}
use Rattle.file_lint.specs.declared.mended.Reach.{Reach}

pub replaced_none : (extent : Extent) (at : ℕ) (by : List ℕ) (reach : Reach) → with_ends (replaced extent at by reach []) ≡ []
unfolding replaced
replaced_none extent at by reach = refl

-- one line more
pub replaced_next : (extent : Extent) (at : ℕ) (by : List ℕ) (reach : Reach) (next : Line) (others : List Line) (made whole : List ℕ)
    → made ++ with_ends (replaced extent at by reach (next ∷ others)) ≡ whole
    → ((made ++ piece by reach (reach_behind extent at reach next) next.text) ++ 10 ∷ []) ++ with_ends (replaced extent at by (reach_behind extent at reach next) others) ≡ whole
unfolding replaced
replaced_next extent at by reach next others made whole is =
    let p = piece by reach (reach_behind extent at reach next) next.text in
    let rest = with_ends (replaced extent at by (reach_behind extent at reach next) others) in
    append_assoc (made ++ p) (10 ∷ []) rest ∙ append_assoc made p (10 ∷ rest) ∙ ap (λ (l : List ℕ). made ++ l) (sym (append_assoc p (10 ∷ []) rest)) ∙ is

-- a text that is longer than a model may be, and one that is not
pub too_long : (guessed : Bool) (text shown : List ℕ) → shown ≡ text → most_bytes < length shown → None ≡ if_short guessed text
too_long guessed text shown same long = let is : nat_lt most_bytes (length text) ≡ true = lt-ltb most_bytes (length text) (omega (arith, ap (λ (l : List ℕ). length l) same, long)) in rw is refl

pub short_text : (guessed : Bool) (text shown : List ℕ) → shown ≡ text → length shown ≤ most_bytes → Some (record { text = text; guessed = guessed }) ≡ if_short guessed text
short_text guessed text shown same short = let is : nat_lt most_bytes (length text) ≡ false = le-ltb most_bytes (length text) (omega (arith, ap (λ (l : List ℕ). length l) same, short)) in rw is refl
