-- A stream that says the items of a session is answered by the session's lines.
use Rattle.std.proofs.Common.{◌≡◌, ℕ, ◌+◌, ◌<◌, List, [], ◌∷◌, ◌++◌, length, map, refl, ap, ◌∙◌, arith}
use Rattle.std.proofs.lemmas.List.{length-append}
use Rattle.answer_lines.specs.LineText.{answer_text, line_text, numbered}
use Rattle.answer_lines.specs.declared.answer.Line.{Line}
use Rattle.model_conf.specs.ModelText.{ModelParts}
use Rattle.perm_base.specs.declared.shapes.Shapes.{Shapes}
use Rattle.policy_table.specs.Tables.{Policy}
use Rattle.script_read.specs.Said.{Said}
use Rattle.session_meaning.specs.Plain.{AreLines, IsPlain}
use Rattle.live_serve.specs.Lines.{AreTexts, next_number}
use Rattle.live_serve.specs.Sayings.{said}

module _ (model : ModelParts) (shapes : Shapes) (opening : Policy) where
  texts_of : (before items : List Said) (number : ℕ) (refused : List (List (List ℕ))) (lines : List Line) → number ≡ length before → length before + length items < 4294967295 → AreLines model shapes opening before items refused lines
      → AreTexts model shapes opening before number (said items) refused (map line_text lines)
  texts_of before [] number [] [] counted few are = tt
  texts_of before (it ∷ items) number (patterns ∷ refused) (line ∷ lines) counted few are =
      let same : line.number ≡ next_number number = omega (arith, are.0.number, counted, few) in
      let more : next_number number ≡ length (before ++ it ∷ []) = omega (arith, counted, few, length-append before (it ∷ [])) in (
        record { reply = line.answer; replied = are.0.answer; unasked = are.0.unasked; text_is = ap (λ (n : ℕ). numbered n (answer_text line.answer)) same },
        texts_of (before ++ it ∷ []) items (next_number number) refused lines more (omega (arith, few, length-append before (it ∷ []))) are.1,
      )
  texts_of before [] number (patterns ∷ refused) lines counted few are = absurd are
  texts_of before [] number [] (line ∷ lines) counted few are = absurd are
  texts_of before (it ∷ items) number [] lines counted few are = absurd are
  texts_of before (it ∷ items) number (patterns ∷ refused) [] counted few are = absurd are

  pub session_texts : (items : List Said) (refused : List (List (List ℕ))) (lines : List Line) → length items < 4294967295 → IsPlain model shapes opening items refused lines → AreTexts model shapes opening [] 0 (said items) refused (map line_text lines)
  unfolding IsPlain
  session_texts items refused lines few plain = texts_of [] items 0 refused lines refl (omega (arith, few)) plain
