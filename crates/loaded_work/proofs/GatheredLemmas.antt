-- Lines that are gathered as a text, and pushed together.
use Rattle.std.proofs.Common.{◌≡◌, ℕ, suc, ◌+◌, ◌<◌, ◌≤◌, List, [], ◌∷◌, ◌++◌, drop, drop-cons, get_or, length, take, refl, sym, ap, ◌∙◌, ⊎_elim, append_assoc, append-nil, arith}
use Rattle.std.specs.Prelude.{Option}
use Rattle.std.proofs.Math.Seq.{take-append_seam}
use Rattle.answer_lines.specs.LineText.{line_text}
use Rattle.answer_lines.specs.declared.answer.Line.{Line}
use Rattle.outside.specs.Told.{with_back, TookFront}
use Rattle.outside.proofs.CallerLemmas.{with_back-append, with_back-nothing}
use Rattle.loaded_work.specs.Helps.GatheredLines.{AreGathered, Moves}
use Rattle.loaded_work.specs.Texts.{text_of_lines}

-- the texts of lines and more
pub text_more : (lines more : List Line) → text_of_lines (lines ++ more) ≡ text_of_lines lines ++ text_of_lines more
text_more [] more = refl
text_more (line ∷ lines) more = ap (λ (text : List ℕ). line_text line ++ text) (text_more lines more) ∙ sym (append_assoc (line_text line) (text_of_lines lines) (text_of_lines more))

text_one : (line : Line) → text_of_lines (line ∷ []) ≡ line_text line
text_one line = append-nil (line_text line)

pub gathered_none : (before : Option (List ℕ)) (gathered : List ℕ) (faults : ℕ) → gathered ≡ [] → AreGathered before before gathered [] faults faults
gathered_none before gathered faults none = record { pushed = []; waiting = []; parts = refl; took = with_back-nothing before; text = none; counted = omega arith }

-- one line more
pub gathered_more : (before now : Option (List ℕ)) (gathered more : List ℕ) (lines : List Line) (line : Line) (a b : ℕ) → AreGathered before now gathered lines a b → more ≡ gathered ++ line_text line → AreGathered before now more (lines ++ line ∷ []) a b
gathered_more before now gathered more lines line a b so more-is = record {
  pushed = so.pushed;
  waiting = so.waiting ++ line ∷ [];
  parts = ap (λ (l : List Line). l ++ line ∷ []) so.parts ∙ append_assoc so.pushed so.waiting (line ∷ []);
  took = so.took;
  text = more-is ∙ ap (λ (t : List ℕ). t ++ line_text line) so.text ∙ ap (λ (t : List ℕ). text_of_lines so.waiting ++ t) (sym (text_one line)) ∙ sym (text_more so.waiting (line ∷ []));
  counted = so.counted;
}

-- all that was gathered is pushed
pub all_pushed : (before mid now : Option (List ℕ)) (gathered : List ℕ) (lines : List Line) (a b : ℕ) → AreGathered before mid gathered lines a b → now ≡ with_back mid gathered → now ≡ with_back before (text_of_lines lines)
all_pushed before mid now gathered lines a b so took =
    let whole : text_of_lines lines ≡ text_of_lines so.pushed ++ gathered = ap text_of_lines so.parts ∙ text_more so.pushed so.waiting ∙ ap (λ (t : List ℕ). text_of_lines so.pushed ++ t) (sym so.text) in
    rw (took, so.took, whole) (with_back-append before (text_of_lines so.pushed) gathered)

pub gathered_moved : (before mid now : Option (List ℕ)) (gathered left : List ℕ) (lines : List Line) (a b c : ℕ) → AreGathered before mid gathered lines a b → Moves mid now gathered left → b ≤ c → AreGathered before now left lines a c
gathered_moved before mid now gathered left lines a b c so moved counted = ⊎_elim
    (λ all. record { pushed = lines; waiting = []; parts = sym (append-nil lines); took = all_pushed before mid now gathered lines a b so all.0; text = all.1; counted = omega (arith, so.counted, counted) })
    (λ none. record { pushed = so.pushed; waiting = so.waiting; parts = so.parts; took = none.0 ∙ so.took; text = none.1 ∙ so.text; counted = omega (arith, so.counted, counted) }) moved

-- ---- the ends, also before more lines

pub stopped_first : (before now : Option (List ℕ)) (gathered : List ℕ) (lines more : List Line) (a b : ℕ) → AreGathered before now gathered lines a b → (count : ℕ) × (now ≡ with_back before (text_of_lines (take count (lines ++ more))))
stopped_first before now gathered lines more a b so =
    let whole : lines ++ more ≡ so.pushed ++ (so.waiting ++ more) = ap (λ (l : List Line). l ++ more) so.parts ∙ append_assoc so.pushed so.waiting more in
    let first : take (length so.pushed) (lines ++ more) ≡ so.pushed = ap (take (length so.pushed)) whole ∙ take-append_seam so.pushed (so.waiting ++ more) in
    (length so.pushed, so.took ∙ ap (λ (l : List Line). with_back before (text_of_lines l)) (sym first))

pub stopped_front : (before mid now : Option (List ℕ)) (gathered : List ℕ) (lines more : List Line) (a b : ℕ) → AreGathered before mid gathered lines a b → TookFront mid now gathered → TookFront before now (text_of_lines (lines ++ more))
stopped_front before mid now gathered lines more a b so front = record {
  front = text_of_lines so.pushed ++ front.front;
  rest = front.rest ++ text_of_lines more;
  parts = text_more lines more ∙ ap (λ (t : List ℕ). t ++ text_of_lines more) (ap text_of_lines so.parts ∙ text_more so.pushed so.waiting ∙ ap (λ (t : List ℕ). text_of_lines so.pushed ++ t) (sym so.text ∙ front.parts)) ∙ simp append_assoc;
  took = rw (front.took, so.took) (with_back-append before (text_of_lines so.pushed) front.front);
}

-- the next of what is left of a list
pub next_left : {X : Type 0} (xs : List X) (i : ℕ) (x : X) → i < length xs → x ≡ get_or xs i x → drop i xs ≡ x ∷ drop (i + 1) xs
next_left xs i x within is =
    let next : suc i ≡ i + 1 = omega arith in
    drop-cons xs i x within ∙ ap (λ y. y ∷ drop (suc i) xs) (sym is) ∙ ap (λ (n : ℕ). x ∷ drop n xs) next
