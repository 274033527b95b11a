-- Which texts are patterns of a function (Casbin, functions in matchers).
use Rattle.std.specs.Prelude.{ℕ, Bool, List, codes}
use Rattle.std.specs.List.{list_any}
use Rattle.text_parts.specs.Lines.{has_byte}
use Rattle.perm_base.specs.declared.shapes.Fit.{Fit}
use Rattle.perm_base.specs.declared.shapes.Fit.TheVariants.{Exact, KeyMatch, KeyMatch2, KeyMatch3, Glob}

-- the bytes that make a text more than itself to the function
abbrev pub signs_of : Fit → List ℕ
signs_of Exact = codes ""
signs_of KeyMatch = codes "*"
signs_of KeyMatch2 = codes "*:"
signs_of KeyMatch3 = codes "*{"
signs_of Glob = codes "*?["

-- the text holds a sign of the function
abbrev pub is_pattern : Fit → List ℕ → Bool
is_pattern fit text = list_any (λ (byte : ℕ). has_byte byte (signs_of fit)) text
