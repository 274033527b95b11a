-- Where domains are compared as they stand no row has a pattern as its domain.
use Rattle.std.proofs.Common.{◌≡◌, ℕ, Bool, false, cond, filter, List, [], ◌∷◌, refl, sym, ap, ◌∙◌}
use Rattle.perm_base.specs.Patterns.{is_pattern}
use Rattle.perm_base.specs.declared.shapes.Fit.{Fit}
use Rattle.perm_base.specs.declared.shapes.Fit.TheVariants.{Exact}
use Rattle.policy_table.specs.Tables.{Fields}
use Rattle.role_domain.specs.Relations.{has_pattern}
use Rattle.role_meaning.specs.Links.{domain_of}

-- no text is a pattern of equality
none_exact : (text : List ℕ) → is_pattern Exact text ≡ false
none_exact [] = refl
none_exact (byte ∷ text) = none_exact text

none_of : (rows : List Fields) → filter (has_pattern Exact) rows ≡ []
none_of [] = refl
none_of (row ∷ rows) = ap (λ (b : Bool). cond b (row ∷ filter (has_pattern Exact) rows) (filter (has_pattern Exact) rows)) (none_exact (domain_of row)) ∙ none_of rows

-- so no row has one
pub no_patterns : (fit : Fit) (rows found : List Fields) → fit ≡ Exact → found ≡ [] → found ≡ filter (has_pattern fit) rows
no_patterns fit rows found is none = none ∙ sym (none_of rows) ∙ ap (λ (f : Fit). filter (has_pattern f) rows) (sym is)
