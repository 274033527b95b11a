-- Lists that are cut.
use Rattle.std.proofs.Common.{◌≡◌, ℕ, Bor, List, [], ◌∷◌, sym, ap, ◌∙◌, arith, lit<}
use Rattle.std.proofs.lemmas.List.Splits.{slice_split_first, slice_split_none}
use Rattle.std.proofs.lemmas.List.Sums.{fails_before_first}
use Rattle.std.proofs.lemmas.Str.Pattern.{IsSplitOnceResult, split_once_first}
use Rattle.std.specs.Prelude.{Option, Some, None, MatchOption}
use Rattle.std.specs.List.{after_first, slice_split}
use Rattle.command_words.specs.Values.{is_comma}

-- the entries of a list that is cut at its first comma
pub entries_cut : (list : List ℕ) (r : Option (Bor (List ℕ) × Bor (List ℕ))) → IsSplitOnceResult 44 list r → MatchOption r (slice_split is_comma list ≡ list ∷ []) (λ cut. slice_split is_comma list ≡ cut.0.now ∷ slice_split is_comma cut.1.now)
entries_cut list None h =
    let none = split_once_first 44 list None h (lit< tt) in
    slice_split_none is_comma list (λ k d inside. fails_before_first is_comma list k d (omega (arith, none)))
entries_cut list (Some cut) h =
    let first = split_once_first 44 list (Some cut) h (lit< tt) in
    slice_split_first is_comma list 0 first.0 ∙ ap (λ (entry : List ℕ). entry ∷ slice_split is_comma (after_first is_comma list)) (sym first.1) ∙ ap (λ (rest : List ℕ). cut.0.now ∷ slice_split is_comma rest) (sym first.2)
