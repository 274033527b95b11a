-- A rule with another field.
use Rattle.std.proofs.Common.{◌≡◌, ℕ, zero, suc, ◌<◌, ◌≤◌, ◌^◌, Bool, true, false, List, [], ◌∷◌, length, set, refl, arith}
use Rattle.std.specs.Prelude.{◌||◌}
use Rattle.std.specs.List.{list_any}
use Rattle.std.proofs.lemmas.List.{length-set}
use Rattle.perm_base.specs.LineEnds.{AreFields, has_line_end}

unended : (fields : List (List ℕ)) (at : ℕ) (text : List ℕ) → has_line_end text ≡ false → list_any has_line_end fields ≡ false → list_any has_line_end (set fields at text) ≡ false
unended [] at text none all = refl
unended (first ∷ others) zero text none all = rw none (rest (has_line_end first) all)
  where
    rest : (ends : Bool) → (ends || list_any has_line_end others) ≡ false → list_any has_line_end others ≡ false
    rest true all = absurd cc
    rest false all = all
unended (first ∷ others) (suc at) text none all = by (has_line_end first) all (λ rest. unended others at text none rest)
  where
    by : (ends : Bool) → (ends || list_any has_line_end others) ≡ false → (list_any has_line_end others ≡ false → list_any has_line_end (set others at text) ≡ false) → (ends || list_any has_line_end (set others at text)) ≡ false
    by true all rest = absurd cc
    by false all rest = rest all

pub fields_with : (fields : List (List ℕ)) (at : ℕ) (text : List ℕ) → has_line_end text ≡ false → AreFields fields → AreFields (set fields at text)
fields_with fields at text none are = record { few = omega (arith, are.few, length-set fields at text); whole_lines = unended fields at text none are.whole_lines }
