-- The lines of a script.
use Rattle.std.proofs.Common.{◌≡◌, ℕ, suc, true, false, List, [], ◌∷◌, ◌++◌, append_assoc, append-nil, length, refl, sym, ap, subst, ◌∙◌}
use Rattle.std.proofs.lemmas.List.Concat.{flat_map-append}
use Rattle.answer_lines.specs.declared.answer.Line.{Line}
use Rattle.refusal_meaning.specs.Unread.{AreUnreadable}
use Rattle.model_conf.specs.ModelText.{ModelParts}
use Rattle.perm_base.specs.declared.shapes.Shapes.{Shapes}
use Rattle.policy_table.specs.Tables.{Policy}
use Rattle.refusal_meaning.proofs.CallerLemmas.{unread_left, unread_right}
use Rattle.script_read.specs.Said.{Said}
use Rattle.session_meaning.specs.Plain.{AreLines, IsLine, IsPlain, all_refused, none_refused, number_behind}
use Rattle.session_meaning.specs.Replies.{is_decided}
use Rattle.session_meaning.specs.Versions.{out, published}
use Rattle.session_meaning.proofs.ReplyLemmas.{OneJudged, SomeJudged, StaysJudged, reply_one, reply_some, reply_stays}

-- what was refused for one item more
pub all_more : (refused : List (List (List ℕ))) (more : List (List ℕ)) → all_refused (refused ++ more ∷ []) ≡ all_refused refused ++ more
all_more refused more = flat_map-append (λ (patterns : List (List ℕ)). patterns) refused (more ∷ []) ∙ ap (λ (l : List (List ℕ)). all_refused refused ++ l) (append-nil more)

-- what is judged is one verdict, where no pattern that was refused can be read
abbrev pub OneUnread : ModelParts → Shapes → Type 0
OneUnread model shapes = (few many : List (List ℕ)) → AreUnreadable few → AreUnreadable many → OneJudged model shapes few many

module _ (model : ModelParts) (shapes : Shapes) (opening : Policy) where
  -- ---- one list, where no pattern that was refused can be read

  line_one : (few many : List (List ℕ)) → OneJudged model shapes few many → (before : List Said) (item : Said) (first second : Line) → IsLine model shapes opening before item few first → IsLine model shapes opening before item many second → first ≡ second
  line_one few many one before item first second p q =
      let number : first.number ≡ second.number = p.number ∙ sym q.number in
      let same : first.answer ≡ second.answer = reply_one model shapes opening before (out shapes opening before) (published shapes opening before) few many one item first.answer second.answer p.answer q.answer in
      λ j. record { number = number j; answer = same j }

  lines_one : OneUnread model shapes → (before items : List Said) (refused others : List (List (List ℕ))) (first second : List Line) → AreLines model shapes opening before items refused first → AreLines model shapes opening before items others second
      → AreUnreadable (all_refused refused) → AreUnreadable (all_refused others) → first ≡ second
  lines_one one before [] [] [] [] [] p q none no_others = refl
  lines_one one before (item ∷ items) (patterns ∷ refused) (more ∷ others) (y ∷ ys) (z ∷ zs) p q none no_others =
      let line = line_one patterns more (one patterns more (unread_left patterns (all_refused refused) none) (unread_left more (all_refused others) no_others)) before item y z p.0 q.0 in
      let rest = lines_one one (before ++ item ∷ []) items refused others ys zs p.1 q.1 (unread_right patterns (all_refused refused) none) (unread_right more (all_refused others) no_others) in
      λ j. line j ∷ rest j
  lines_one one before [] (patterns ∷ refused) others first second p q none no_others = absurd p
  lines_one one before [] [] others (y ∷ ys) second p q none no_others = absurd p
  lines_one one before [] [] (more ∷ others) [] second p q none no_others = absurd q
  lines_one one before [] [] [] [] (z ∷ zs) p q none no_others = absurd q
  lines_one one before (item ∷ items) [] others first second p q none no_others = absurd p
  lines_one one before (item ∷ items) (patterns ∷ refused) others [] second p q none no_others = absurd p
  lines_one one before (item ∷ items) (patterns ∷ refused) [] (y ∷ ys) second p q none no_others = absurd q
  lines_one one before (item ∷ items) (patterns ∷ refused) (more ∷ others) (y ∷ ys) [] p q none no_others = absurd q

  pub plain_one : OneUnread model shapes → (items : List Said) (refused others : List (List (List ℕ))) (first second : List Line) → IsPlain model shapes opening items refused first → IsPlain model shapes opening items others second
      → AreUnreadable (all_refused refused) → AreUnreadable (all_refused others) → first ≡ second
  unfolding IsPlain
  plain_one one items refused others first second p q none no_others = lines_one one [] items refused others first second p q none no_others

  -- ---- lines are there

  lines_some : SomeJudged model shapes [] → (before items : List Said) → (lines : List Line) × AreLines model shapes opening before items (none_refused items) lines
  lines_some some before [] = ([], tt)
  lines_some some before (item ∷ items) =
      let reply = reply_some model shapes opening before (out shapes opening before) (published shapes opening before) [] some item in
      let others = lines_some some (before ++ item ∷ []) items in
      let line : Line = record { number = number_behind (length before); answer = reply.0 } in
      (line ∷ others.0, (record { number = refl; answer = reply.1; unasked = λ calm. refl }, others.1))

  pub plain_some : SomeJudged model shapes [] → (items : List Said) → (lines : List Line) × IsPlain model shapes opening items (none_refused items) lines
  unfolding IsPlain
  plain_some some items = lines_some some [] items

  lines_counted : (before items : List Said) (refused : List (List (List ℕ))) (lines : List Line) → AreLines model shapes opening before items refused lines → length lines ≡ length items
  lines_counted before [] [] [] are = refl
  lines_counted before (x ∷ xs) (patterns ∷ refused) (y ∷ ys) are = ap (λ (n : ℕ). suc n) (lines_counted (before ++ x ∷ []) xs refused ys are.1)
  lines_counted before _ _ _ are = absurd are

  -- there are as many lines as items
  pub plain_counted : (items : List Said) (refused : List (List (List ℕ))) (lines : List Line) → IsPlain model shapes opening items refused lines → length lines ≡ length items
  unfolding IsPlain
  plain_counted items refused lines are = lines_counted [] items refused lines are

  -- ---- one item more

  lines_more : (before items : List Said) (refused : List (List (List ℕ))) (lines : List Line) (item : Said) (patterns : List (List ℕ)) (line : Line) → AreLines model shapes opening before items refused lines → IsLine model shapes opening (before ++ items) item patterns line
      → AreLines model shapes opening before (items ++ item ∷ []) (refused ++ patterns ∷ []) (lines ++ line ∷ [])
  lines_more before [] [] [] item patterns line are is = (subst (λ (l : List Said). IsLine model shapes opening l item patterns line) (append-nil before) is, tt)
  lines_more before (x ∷ xs) (p ∷ ps) (y ∷ ys) item patterns line are is =
      (are.0, lines_more (before ++ x ∷ []) xs ps ys item patterns line are.1 (subst (λ (l : List Said). IsLine model shapes opening l item patterns line) (sym (append_assoc before (x ∷ []) xs)) is))
  lines_more before _ _ _ item patterns line are is = absurd are

  -- a script without items has no lines
  pub plain_none : IsPlain model shapes opening [] [] []
  unfolding IsPlain
  plain_none = tt

  -- one item more has its line behind the others
  pub plain_more : (items : List Said) (refused : List (List (List ℕ))) (lines : List Line) (item : Said) (patterns : List (List ℕ)) (line : Line) → IsPlain model shapes opening items refused lines → IsLine model shapes opening items item patterns line
      → IsPlain model shapes opening (items ++ item ∷ []) (refused ++ patterns ∷ []) (lines ++ line ∷ [])
  unfolding IsPlain
  plain_more items refused lines item patterns line are is = lines_more [] items refused lines item patterns line are is

  -- ---- more patterns that were refused

  pub line_stays : (few many : List (List ℕ)) → StaysJudged model shapes few many → (before : List Said) (item : Said) (line : Line) → is_decided model item ≡ true → IsLine model shapes opening before item few line → IsLine model shapes opening before item many line
  line_stays few many stays before item line decided is = record {
    number = is.number;
    answer = reply_stays model shapes opening before (out shapes opening before) (published shapes opening before) few many stays item line.answer decided is.answer;
    unasked = λ calm. absurd (let both : true ≡ false = sym decided ∙ calm in cc);
  }
