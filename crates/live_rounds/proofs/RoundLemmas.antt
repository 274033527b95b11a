-- The lines of a round, out of the replies to the requests of its parts and of those to its other items.
use Rattle.std.proofs.Common.{◌≡◌, ℕ, zero, suc, List, [], ◌∷◌, ◌++◌, length, length-append, map, take, drop, refl, sym, ap, subst, ◌∙◌, arith}
use Rattle.std.specs.Prelude.{All}
use Rattle.std.specs.List.{AllByRecursion, AllZip}
use Rattle.std.specs.List.Sorted.{IsNonDecreasing}
use Rattle.std.proofs.lemmas.List.Elements.{All-from_recursion}
use Rattle.answer_lines.specs.Printed.{PrintedAnswer, printed_line}
use Rattle.answer_lines.specs.Printed.{PrintedLine}
use Rattle.answer_lines.specs.declared.answer.Line.{Line}
use Rattle.live_rounds.proofs.ItemLemmas.{requests_both}
use Rattle.live_rounds.proofs.MergedLemmas.{merged_are}
use Rattle.live_rounds.proofs.RiseLemmas.{rise_is}
use Rattle.live_rounds.specs.Administrators.{AreReplies}
use Rattle.live_rounds.specs.Answered.{AreAnsweredAt, Rise}
use Rattle.live_rounds.specs.Merged.{merged}
use Rattle.live_rounds.specs.Requests.{AreParts, requests}
use Rattle.live_rounds.specs.Shares.{HasEach, in_turn}
use Rattle.model_conf.specs.ModelText.{ModelParts}
use Rattle.perm_base.specs.declared.shapes.Shapes.{Shapes}
use Rattle.policy_table.specs.Tables.{Policy}
use Rattle.script_read.specs.Said.{Reading, Said}
use Rattle.session_meaning.specs.Plain.{all_refused}
use Rattle.session_meaning.specs.Rounds.{AreOfRound, IsCut, share_size, shares}

-- ---- lists that are shared out

pub take_front : {X : Type 0} (n : ℕ) (xs ys : List X) → n ≡ length xs → take n (xs ++ ys) ≡ xs
take_front zero [] ys is = refl
take_front (suc n) [] ys is = absurd (omega (arith, is))
take_front zero (x ∷ xs) ys is = absurd (omega (arith, is))
take_front (suc n) (x ∷ xs) ys is = ap (λ (l : List _). x ∷ l) (take_front n xs ys (omega (arith, is)))

pub drop_front : {X : Type 0} (n : ℕ) (xs ys : List X) → n ≡ length xs → drop n (xs ++ ys) ≡ ys
drop_front zero [] ys is = refl
drop_front (suc n) [] ys is = absurd (omega (arith, is))
drop_front zero (x ∷ xs) ys is = absurd (omega (arith, is))
drop_front (suc n) (x ∷ xs) ys is = drop_front n xs ys (omega (arith, is))

module _ {X : Type 0} where
  -- one for each request of a part
  abbrev pub HasOneEach : List Said → List X → Type 0
  HasOneEach part xs = length xs ≡ length (requests part)

  -- as many as there are requests
  all_long : (others : ℕ) (items : List Said) (parts : List (List Said)) (lists : List (List X)) → AreParts others items parts → AllZip HasOneEach parts lists → length (in_turn lists) ≡ length (requests items)
  all_long zero items (part ∷ []) (versions ∷ []) are each = omega (arith, each.0, length-append versions [], ap (λ (l : List Said). length (requests l)) are)
  all_long (suc others) items (part ∷ parts) (versions ∷ lists) are each =
      let rest = all_long others are.0 parts lists are.3 each.1 in
      omega (arith, rest, each.0, length-append versions (in_turn lists), ap (λ (l : List Said). length (requests l)) are.1, ap (λ (l : List Reading). length l) (requests_both part are.0), length-append (requests part) (requests are.0))
  all_long zero items [] lists are each = absurd are
  all_long zero items (part ∷ other ∷ parts) lists are each = absurd are
  all_long zero items (part ∷ []) [] are each = absurd each
  all_long zero items (part ∷ []) (versions ∷ other ∷ lists) are each = absurd each.1
  all_long (suc others) items [] lists are each = absurd are
  all_long (suc others) items (part ∷ parts) [] are each = absurd each

  -- the shares are those of the parts
  pub shared : (others : ℕ) (items : List Said) (parts : List (List Said)) (lists : List (List X)) → AreParts others items parts → AllZip HasOneEach parts lists → shares (suc others) (in_turn lists) ≡ lists
  shared zero items (part ∷ []) (versions ∷ []) are each =
      let whole : share_size 0 (length (versions ++ [])) ≡ length versions = omega (arith, length-append versions []) in
      ap (λ (l : List X). l ∷ []) (take_front (share_size 0 (length (versions ++ []))) versions [] whole)
  shared (suc others) items (part ∷ parts) (versions ∷ lists) are each =
      let long = all_long (suc others) items (part ∷ parts) (versions ∷ lists) are each in
      let size : share_size (suc others) (length (versions ++ in_turn lists)) ≡ length versions = ap (share_size (suc others)) long ∙ sym are.2 ∙ sym each.0 in
      (λ j. take_front (share_size (suc others) (length (versions ++ in_turn lists))) versions (in_turn lists) size j ∷ shares (suc others) (drop_front (share_size (suc others) (length (versions ++ in_turn lists))) versions (in_turn lists) size j))
      ∙ ap (λ (l : List (List X)). versions ∷ l) (shared others are.0 parts lists are.3 each.1)
  shared zero items [] lists are each = absurd are
  shared zero items (part ∷ other ∷ parts) lists are each = absurd are
  shared zero items (part ∷ []) [] are each = absurd each
  shared zero items (part ∷ []) (versions ∷ other ∷ lists) are each = absurd each.1
  shared (suc others) items [] lists are each = absurd are
  shared (suc others) items (part ∷ parts) [] are each = absurd each

-- ---- the lines of a round

module _ (model : ModelParts) (shapes : Shapes) (opening : Policy) (before round : List Said) (others : ℕ) (parts : List (List Said)) (lists : List (List ℕ)) (refused : List (List (List ℕ))) (asked replies : List PrintedAnswer) (low : ℕ) where
  pub record AreLinesFor (printed : List PrintedLine) : Type 0 where
    pub lines : List Line
    pub told : printed ≡ map printed_line lines
    pub of_items : List (List (List ℕ))
    pub lines_are : AreOfRound model shapes opening (suc others) before round of_items lines
    pub refused_are : all_refused of_items ≡ all_refused refused

  all_rise : (lists : List (List ℕ)) → AllByRecursion (Rise low) lists → AllByRecursion IsNonDecreasing lists
  all_rise [] rise = tt
  all_rise (versions ∷ lists) rise = (rise_is low versions rise.0, all_rise lists rise.1)

  pub lines_for : AreParts others round parts → AllZip HasEach parts lists → AllByRecursion (Rise low) lists → AreAnsweredAt model shapes opening before round (in_turn lists) refused asked (requests round) → length asked ≡ length (requests round)
      → AreReplies shapes opening before round replies → AreLinesFor (merged (length before) round asked replies)
  lines_for are each rise answered all told =
      let is = merged_are model shapes opening before round before round (in_turn lists) refused asked replies answered all told in
      record {
        lines = is.lines;
        told = is.told;
        of_items = is.of_items;
        lines_are = record {
          versions = is.chosen;
          chosen = record {
            cuts = All-from_recursion (IsCut shapes opening before round) is.chosen is.cuts;
            rise = subst (All IsNonDecreasing) (sym (ap (shares (suc others)) is.versions_are ∙ shared others round parts lists are each)) (All-from_recursion IsNonDecreasing lists (all_rise lists rise));
          };
          are = is.lines_are;
        };
        refused_are = is.refused_are;
      }
