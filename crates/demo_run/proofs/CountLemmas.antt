-- Lines that are counted one after the other.
use Rattle.std.proofs.Common.{◌≡◌, ℕ, suc, ◌+◌, ◌<◌, ◌≤◌, Err, List, [], ◌∷◌, ◌++◌, Ok, get_or, length, length-append, map, take, refl, sym, ap, ◌∙◌, arith}
use Rattle.std.specs.Prelude.{OnOk, Result, fold}
use Rattle.std.proofs.lemmas.List.{get_or_default, take_all, take_more}
use Rattle.std.proofs.lemmas.List.Sums.{fold-append}
use Rattle.answer_lines.specs.Printed.{printed_line, shown_by, shown_of}
use Rattle.answer_lines.specs.declared.answer.Line.{Line}
use Rattle.answer_lines.specs.declared.printed.Shown.{Shown}
use Rattle.demo_run.specs.Helps.Tallies.{IsTallied}
use Rattle.demo_run.specs.Summary.{counted_behind, with_shown}
use Rattle.demo_run.specs.declared.counts.Counts.{Counts}
use Rattle.demo_run.specs.declared.counts.Tally.{Tally}
use Rattle.live_rounds.specs.Shares.{in_turn}
use Rattle.live_rounds.specs.Taken.{AreTaken}

-- what lines show, counted behind others
abbrev pub counted_by : {X : Type 0} → (X → Shown) → Counts → List X → Counts
counted_by shown counts lines = fold (λ (so_far : Counts) (line : _). with_shown so_far (shown line)) counts lines

-- lines, and more
behind_more : {X : Type 0} (shown : X → Shown) (counts : Counts) (lines more : List X) → counted_by shown counts (lines ++ more) ≡ counted_by shown (counted_by shown counts lines) more
behind_more shown counts lines more = fold-append (λ (so_far : Counts) (line : _). with_shown so_far (shown line)) counts lines more

-- one line more
pub counted_more : {X : Type 0} (shown : X → Shown) (lines : List X) (n : ℕ) (line : X) (first counts new : Counts) → n < length lines → line ≡ get_or lines n line → counts ≡ counted_by shown first (take n lines) → new ≡ with_shown counts (shown line)
    → new ≡ counted_by shown first (take (n + 1) lines)
counted_more {X = X} shown lines n line first counts new within is so new-is =
    new-is ∙ ap (λ (k : Counts). with_shown k (shown line)) so ∙ sym (behind_more shown first (take n lines) (line ∷ [])) ∙ ap (counted_by shown first) (sym (take_more lines n line within ∙ ap (λ (l : X). take n lines ++ l ∷ []) (sym is)))

-- the same by its place
pub counted_at : (lines : List Shown) (n : ℕ) (d : Shown) (first counts new : Counts) → n < length lines → counts ≡ counted_by (λ (s : Shown). s) first (take n lines) → new ≡ with_shown counts (get_or lines n d) → new ≡ counted_by (λ (s : Shown). s) first (take (n + 1) lines)
counted_at lines n d first counts new within so new-is = counted_more (λ (s : Shown). s) lines n (get_or lines n d) first counts new within (get_or_default lines n d (get_or lines n d) within) so new-is

-- what printed lines show
shown_counted : (first : Counts) (told : List Line) (shown : List Shown) → shown ≡ shown_of (map printed_line told) → counted_by (λ (s : Shown). s) first shown ≡ counted_behind first told
shown_counted first told shown is = ap (counted_by (λ (s : Shown). s) first) is ∙ by first told
  where
    by : (first : Counts) (told : List Line) → counted_by (λ (s : Shown). s) first (shown_of (map printed_line told)) ≡ counted_behind first told
    by first [] = refl
    by first (line ∷ told) = by (with_shown first (shown_by line.answer)) told

shown_long : (told : List Line) (shown : List Shown) → shown ≡ shown_of (map printed_line told) → length shown ≡ length told
shown_long told shown is = ap (λ (l : List Shown). length l) is ∙ by told
  where
    by : (told : List Line) → length (shown_of (map printed_line told)) ≡ length told
    by [] = refl
    by (line ∷ told) = ap (λ (n : ℕ). suc n) (by told)

-- all of them are counted
pub shown_tallied : (told : List Line) (shown : List Shown) (old new : Tally) (counts : Counts) (n : ℕ) → length shown ≤ n → counts ≡ counted_by (λ (s : Shown). s) old.counts (take n shown) → new.items ≡ old.items + length shown → new.counts ≡ counts → shown ≡ shown_of (map printed_line told) → IsTallied old told new
shown_tallied told shown old new counts n past so items-is counts-is is = record {
  items = omega (arith, items-is, shown_long told shown is);
  counts = counts-is ∙ so ∙ ap (counted_by (λ (s : Shown). s) old.counts) (take_all n shown past) ∙ shown_counted old.counts told shown is;
}

-- what holds at Ok by two facts there
pub on_ok_of_two : {T E A B C : Type 0} (r : Result T E) → (A → B → C) → OnOk r A → OnOk r B → OnOk r C
on_ok_of_two (Ok x) both a b = both a b
on_ok_of_two (Err e) both a b = tt

-- lists of lines, one after the other
pub lists_tallied : (old : Tally) (lists : List (List Line)) (new : Tally) → AreTaken IsTallied old lists new → IsTallied old (in_turn lists) new
lists_tallied old [] new taken = record { items = omega (arith, ap (λ (t : Tally). t.items) taken); counts = ap (λ (t : Tally). t.counts) taken }
lists_tallied old (lines ∷ lists) new taken =
    let rest = lists_tallied taken.0 lists new taken.2 in
    record {
      items = omega (arith, rest.items, taken.1.items, length-append lines (in_turn lists));
      counts = rest.counts ∙ ap (λ (counts : Counts). counted_behind counts (in_turn lists)) taken.1.counts ∙ sym (behind_more (λ (line : Line). shown_by line.answer) old.counts lines (in_turn lists));
    }
