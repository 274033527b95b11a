-- The replies to the requests of a round, at cuts of it, and those to its other items are its lines.
use Rattle.std.proofs.Common.{◌≡◌, ℕ, suc, List, [], ◌∷◌, ◌++◌, length, length-append, map, refl, sym, ap, ◌∙◌, arith}
use Rattle.std.specs.List.{AllByRecursion}
use Rattle.answer_lines.specs.Printed.{PrintedAnswer, printed_line}
use Rattle.answer_lines.specs.declared.answer.Line.{Line}
use Rattle.answer_lines.specs.Printed.{PrintedLine}
use Rattle.live_rounds.specs.Administrators.{AreReplies}
use Rattle.live_rounds.specs.Answered.{AreAnsweredAt}
use Rattle.live_rounds.specs.Merged.{merged}
use Rattle.live_rounds.specs.Requests.{requests}
use Rattle.model_conf.specs.ModelText.{ModelParts}
use Rattle.perm_base.specs.declared.shapes.Shapes.{Shapes}
use Rattle.policy_table.specs.Tables.{Policy}
use Rattle.script_read.specs.Said.{Said}
use Rattle.script_read.specs.Said as said
use Rattle.session_meaning.specs.Plain.{all_refused, number_behind}
use Rattle.session_meaning.specs.Rounds.{AreLinesAt, IsCut, at_requests}
use Rattle.session_meaning.specs.Versions.{out, tables_at}

module _ (model : ModelParts) (shapes : Shapes) (opening : Policy) (before round : List Said) where
  -- versions and refusals for each item, of which those for requests are these
  pub record AreMerged (behind items : List Said) (versions : List ℕ) (refused : List (List (List ℕ))) (printed : List PrintedLine) : Type 0 where
    pub lines : List Line
    pub told : printed ≡ map printed_line lines
    pub chosen : List ℕ
    pub of_items : List (List (List ℕ))
    pub lines_are : AreLinesAt model shapes opening (tables_at shapes opening (before ++ round)) behind items chosen of_items lines
    pub versions_are : at_requests items chosen ≡ versions
    pub cuts : AllByRecursion (IsCut shapes opening before round) chosen
    pub refused_are : all_refused of_items ≡ all_refused refused

  -- a version that is a cut: the one that is out before the round
  first_cut : IsCut shapes opening before round (out shapes opening (before ++ []))
  first_cut = record { front = []; back = round; parts = refl; is_out = refl }

  pub merged_are : (behind items : List Said) (versions : List ℕ) (refused : List (List (List ℕ))) (asked others : List PrintedAnswer) → AreAnsweredAt model shapes opening before round versions refused asked (requests items) → length asked ≡ length (requests items)
      → AreReplies shapes opening behind items others → AreMerged behind items versions refused (merged (length behind) items asked others)
  merged_are behind [] [] [] [] [] answered all replies = record { lines = []; told = refl; chosen = []; of_items = []; lines_are = tt; versions_are = refl; cuts = tt; refused_are = refl }
  merged_are behind (said.asks reading ∷ items) (version ∷ versions) (patterns ∷ refused) (reply ∷ asked) others answered all replies =
      let rest = merged_are (behind ++ said.asks reading ∷ []) items versions refused asked others answered.1 (omega (arith, all)) replies in
      let count : length (behind ++ said.asks reading ∷ []) ≡ suc (length behind) = omega (arith, length-append behind (said.asks reading ∷ [])) in
      record {
        lines = record { number = number_behind (length behind); answer = answered.0.answers.answer } ∷ rest.lines;
        told = (λ j. record { number = number_behind (length behind); answer = answered.0.answers.told j } ∷ (ap (λ (n : ℕ). merged n items asked others) (sym count) ∙ rest.told) j);
        chosen = version ∷ rest.chosen;
        of_items = patterns ∷ rest.of_items;
        lines_are = (record { number = refl; answer = answered.0.answers.holds; unasked = answered.0.unasked }, rest.lines_are);
        versions_are = ap (λ (l : List ℕ). version ∷ l) rest.versions_are;
        cuts = (answered.0.cut, rest.cuts);
        refused_are = ap (λ (l : List (List ℕ)). patterns ++ l) rest.refused_are;
      }
  merged_are behind [] [] [] [] (reply ∷ others) answered all replies = absurd replies
  merged_are behind [] [] [] (told ∷ asked) others answered all replies = absurd answered
  merged_are behind [] [] (patterns ∷ refused) asked others answered all replies = absurd answered
  merged_are behind [] (version ∷ versions) [] asked others answered all replies = absurd answered
  merged_are behind [] (version ∷ versions) (patterns ∷ refused) [] others answered all replies = absurd answered
  merged_are behind [] (version ∷ versions) (patterns ∷ refused) (told ∷ asked) others answered all replies = absurd answered
  merged_are behind (said.asks reading ∷ items) [] [] [] others answered all replies = absurd (omega (arith, all))
  merged_are behind (said.asks reading ∷ items) [] [] (told ∷ asked) others answered all replies = absurd answered
  merged_are behind (said.asks reading ∷ items) [] (patterns ∷ refused) asked others answered all replies = absurd answered
  merged_are behind (said.asks reading ∷ items) (version ∷ versions) [] asked others answered all replies = absurd answered
  merged_are behind (said.asks reading ∷ items) (version ∷ versions) (patterns ∷ refused) [] others answered all replies = absurd answered
  merged_are behind (item ∷ items) versions refused asked [] answered all replies = absurd replies
  merged_are behind (item ∷ items) versions refused asked (reply ∷ others) answered all replies =
      let rest = merged_are (behind ++ item ∷ []) items versions refused asked others answered all replies.1 in
      let count : length (behind ++ item ∷ []) ≡ suc (length behind) = omega (arith, length-append behind (item ∷ [])) in
      record {
        lines = record { number = number_behind (length behind); answer = replies.0.answer } ∷ rest.lines;
        told = (λ j. record { number = number_behind (length behind); answer = replies.0.told j } ∷ (ap (λ (n : ℕ). merged n items asked others) (sym count) ∙ rest.told) j);
        chosen = out shapes opening (before ++ []) ∷ rest.chosen;
        of_items = [] ∷ rest.of_items;
        lines_are = (record { number = refl; answer = replies.0.holds model; unasked = λ calm. refl }, rest.lines_are);
        versions_are = rest.versions_are;
        cuts = (first_cut, rest.cuts);
        refused_are = rest.refused_are;
      }
