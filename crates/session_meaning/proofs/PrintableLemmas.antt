-- What an item is answered can be printed, where its table has a name.
use Rattle.std.proofs.Common.{◌≡◌, ℕ, zero, suc, ◌+◌, ◌-◌, ◌<◌, ◌≤◌, inl, inr, Bool, true, false, not, cond, ◌||◌, ◌==◌, eqb, List, [], ◌∷◌, length, slice_get, Option, Some, None, Ok, Err, refl, sym, ap, subst, ◌∙◌, arith}
use Rattle.std.specs.Prelude.{All, Contains, MatchBool, ◌++◌, find, if◌then◌else◌, is_some, nat_le, nat_lt, ⊤}
use Rattle.std.specs.List.{AllByRecursion, AllZip, list_all}
use Rattle.std.specs.List.Sorted.{IsPermutation}
use Rattle.std.specs.Option.{option_map_or, option_or}
use Rattle.std.proofs.lemmas.List.Elements.{All-from_recursion, recursion_from_All}
use Rattle.std.proofs.lemmas.List.Sorted.{All-permutation}
use Rattle.answer_lines.specs.Told.{comes_with_rule, has_name, is_call_told, is_printable, is_query_told, row_has_rule}
use Rattle.answer_lines.specs.declared.answer.Answer.{Answer}
use Rattle.answer_lines.specs.declared.answer.Answer.TheVariants as answer
use Rattle.answer_lines.specs.declared.answer.Line.{Line}
use Rattle.edit_calls.specs.Answers.{CallAnswer, answer as answer_in, while_few, within}
use Rattle.edit_calls.specs.Edits.{edit_by}
use Rattle.edit_calls.specs.Refusals.{added_rules, bad_filter, filter_fault, has_long_field, named_rules, other_length, refusal, table_of}
use Rattle.edit_calls.specs.declared.call.Call.{Call}
use Rattle.edit_calls.specs.declared.call.Call.TheVariants.{RemoveFiltered, UpdateFiltered}
use Rattle.edit_calls.specs.declared.refused.CallRefused.{CallRefused}
use Rattle.edit_calls.specs.declared.refused.CallRefused.TheVariants as call
use Rattle.effect_fold.specs.Verdict.{Taken, allow_by, allows, ends, settled_by, unsettled, verdict, verdict_at}
use Rattle.effect_fold.specs.declared.effect.Effect.{Effect}
use Rattle.effect_fold.specs.declared.effect.Effect.TheVariants as effect
use Rattle.effect_fold.specs.declared.outcome.Outcome.{Outcome}
use Rattle.effect_fold.specs.declared.outcome.Outcome.TheVariants.{Unmatched, Matched, Failed}
use Rattle.effect_fold.specs.declared.verdict.Verdict.{Verdict}
use Rattle.matcher_meaning.specs.Cases.{Case}
use Rattle.matcher_meaning.specs.Order.{AreInOrder, Numbered, numbered_from}
use Rattle.matcher_meaning.specs.Perm.{Refusal, names_policy}
use Rattle.matcher_meaning.specs.Verdicts.{HasOneOutcome, HasOutcomesOver, IsJudged, IsVerdict, RowHasOutcome, case_of}
use Rattle.model_conf.specs.ModelText.{ModelParts}
use Rattle.perm_base.specs.RoleShapes.{shape_of}
use Rattle.perm_base.specs.declared.shapes.RoleShape.{RoleShape}
use Rattle.perm_base.specs.declared.shapes.Shapes.{Shapes}
use Rattle.perm_base.specs.declared.shapes.TableId.{TableId}
use Rattle.perm_base.specs.declared.shapes.TableId.TheVariants.{P, G}
use Rattle.perm_value.specs.Datum.{Datum}
use Rattle.policy_query.specs.Answers.{answer_unless}
use Rattle.policy_query.specs.Names.{named_columns, names_refusal}
use Rattle.policy_query.specs.Rules.{filter_refusal, rule_refusal}
use Rattle.policy_query.specs.declared.refused.QueryRefused.{QueryRefused}
use Rattle.policy_query.specs.declared.refused.QueryRefused.TheVariants as query
use Rattle.policy_table.specs.Changes.{edited, replay}
use Rattle.policy_table.specs.Limits.{columns_of, passed}
use Rattle.policy_table.specs.Tables.{Fields, Policy, rows}
use Rattle.policy_table.specs.declared.change.Change.{Change}
use Rattle.policy_table.specs.declared.limit.Limit.{Limit}
use Rattle.policy_table.specs.declared.limit.Limit.TheVariants.{Edits}
use Rattle.script_read.specs.Named.{is_named}
use Rattle.script_read.specs.Said.{Said}
use Rattle.script_read.specs.Said as said
use Rattle.version_log.specs.Log.{most_versions}
use Rattle.session_meaning.specs.Given.{given}
use Rattle.session_meaning.specs.Plain.{AreLines, IsPlain}
use Rattle.session_meaning.specs.Replies.{IsDecided, IsReplyAt, call_reply, query_reply, recall_refusal, rule_at, rule_of}
use Rattle.session_meaning.specs.Versions.{out, published, start}

-- ---- the rule that a verdict names stands

-- the law that the order in which rows are judged has each once
abbrev pub RowsAreMoved : Type 0
RowsAreMoved = (case : Case) (e : Effect) (table : List Fields) (judged : List Numbered) → AreInOrder case e table judged → IsPermutation (numbered_from 1 table) judged

-- where an outcome names a row of p, its rule is there
abbrev HasRule : Policy → Taken → Type 0
HasRule policy taken = row_has_rule taken.0 (rule_at policy taken.0) ≡ true

abbrev OptionHasRule : Policy → Option Taken → Type 0
OptionHasRule policy None = ⊤
OptionHasRule policy (Some taken) = HasRule policy taken

-- a verdict comes with the rule that it names
abbrev ComesWith : Policy → Verdict → Type 0
ComesWith policy v = comes_with_rule v (rule_of policy v) ≡ true

there : (rules : List Fields) (at : ℕ) → at < length rules → is_some (slice_get rules at) ≡ true
there [] at within = absurd (omega (arith, within))
there (rule ∷ rules) zero within = refl
there (rule ∷ rules) (suc at) within = there rules at (omega (arith, within))

numbers_below : (most number : ℕ) (table : List Fields) → number + length table ≤ most → AllByRecursion (λ (row : Numbered). row.number < most) (numbered_from number table)
numbers_below most number [] within = tt
numbers_below most number (fields ∷ others) within = (omega (arith, within), numbers_below most (suc number) others (omega (arith, within)))

module _ (policy : Policy) where
  found_has : (p : Taken → Bool) (outcomes : List Taken) → AllByRecursion (HasRule policy) outcomes → OptionHasRule policy (find p outcomes)
  found_has p [] all = tt
  found_has p (taken ∷ outcomes) all = by (p taken) (found_has p outcomes all.1)
    where
      by : (b : Bool) → OptionHasRule policy (find p outcomes) → OptionHasRule policy (cond b (Some taken) (find p outcomes))
      by true rest = all.0
      by false rest = rest

  settled_comes : (row : Option ℕ) (outcome : Outcome) → HasRule policy (row, outcome) → ComesWith policy (settled_by row outcome)
  settled_comes row (Failed fault) has = refl
  settled_comes row (Matched true) has = has
  settled_comes row (Matched false) has = has
  settled_comes row Unmatched has = refl

  allow_comes : (found : Option Taken) → OptionHasRule policy found → ComesWith policy (allow_by found)
  allow_comes None has = refl
  allow_comes (Some taken) has = has

  unsettled_comes : (e : Effect) (outcomes : List Taken) → AllByRecursion (HasRule policy) outcomes → ComesWith policy (unsettled e outcomes)
  unsettled_comes effect.AllowOverride outcomes all = refl
  unsettled_comes effect.DenyOverride outcomes all = refl
  unsettled_comes effect.AllowAndDeny outcomes all = allow_comes (find allows outcomes) (found_has allows outcomes all)
  unsettled_comes effect.Priority outcomes all = refl
  unsettled_comes effect.SubjectPriority outcomes all = refl

  verdict_comes : (e : Effect) (outcomes : List Taken) → AllByRecursion (HasRule policy) outcomes → ComesWith policy (verdict e outcomes)
  verdict_comes e outcomes all = by (find (ends e) outcomes) (found_has (ends e) outcomes all)
    where
      by : (found : Option Taken) → OptionHasRule policy found → ComesWith policy (verdict_at e outcomes found)
      by None has = unsettled_comes e outcomes all
      by (Some taken) has = settled_comes taken.0 taken.1 has

  one_has : (case : Case) (refused : Option Refusal) (outcomes : List Taken) → HasOneOutcome case refused outcomes → AllByRecursion (HasRule policy) outcomes
  one_has case refused outcomes (outcome, is, one) = subst (AllByRecursion (HasRule policy)) (sym one) (refl, tt)

  rows_have : (case : Case) (refused : Option Refusal) (judged : List Numbered) (outcomes : List Taken) → AllZip (RowHasOutcome case refused) judged outcomes
      → AllByRecursion (λ (row : Numbered). HasRule policy (Some row.number, Unmatched)) judged → AllByRecursion (HasRule policy) outcomes
  rows_have case refused [] [] each all = tt
  rows_have case refused [] (taken ∷ outcomes) each all = absurd each
  rows_have case refused (row ∷ judged) [] each all = absurd each
  rows_have case refused (row ∷ judged) (taken ∷ outcomes) each all =
      (subst (λ (number : Option ℕ). row_has_rule number (rule_at policy number) ≡ true) (sym each.0.0) all.0, rows_have case refused judged outcomes each.1 all.1)

  -- the order in which rows are judged has each once
  module _ (moved : RowsAreMoved) where
    outcomes_have : (case : Case) (refused : Option Refusal) (names : Bool) (table : List Fields) (outcomes : List Taken) → table ≡ rows policy P → HasOutcomesOver case refused names table outcomes
        → AllByRecursion (HasRule policy) outcomes
    outcomes_have case refused false table outcomes same is = one_has case refused outcomes is
    outcomes_have case refused true [] outcomes same is = one_has case refused outcomes is
    outcomes_have case refused true (first ∷ others) outcomes same (judged, order, each) =
        let table : List Fields = first ∷ others in
        let few = numbers_below (suc (length (first ∷ others))) 1 (first ∷ others) (omega arith) in
        let below = All-permutation (λ (row : Numbered). row.number < suc (length (first ∷ others))) (numbered_from 1 (first ∷ others)) judged
        (moved case case.model.effect (first ∷ others) judged order) (All-from_recursion _ (numbered_from 1 (first ∷ others)) few) in
        rows_have case refused judged outcomes each (stand judged (recursion_from_All _ judged below))
      where
        stand : (list : List Numbered) → AllByRecursion (λ (row : Numbered). row.number < suc (length (first ∷ others))) list → AllByRecursion (λ (row : Numbered). HasRule policy (Some row.number, Unmatched)) list
        stand [] all = tt
        stand (row ∷ list) all =
            (subst (λ (rules : List Fields). is_some (slice_get rules (row.number - 1)) ≡ true) same (there (first ∷ others) (row.number - 1) (omega (arith, all.0))), stand list all.1)

    judged_comes : (model : ModelParts) (shapes : Shapes) (values : List Datum) (refused : Option Refusal) (v : Verdict) → IsVerdict model shapes policy values refused v → ComesWith policy v
    judged_comes model shapes values refused v (outcomes, over, is) =
        subst (ComesWith policy) (sym is)
        (verdict_comes model.effect outcomes (outcomes_have (case_of model shapes policy values) refused (names_policy model.matcher) (rows policy P) outcomes refl over))

    -- what is judged comes with the rule that it names
    pub rule_stands : (model : ModelParts) (shapes : Shapes) (values : List Datum) (IsBad : List ℕ → Type 0) (v : Verdict) → IsJudged model shapes policy values IsBad v → comes_with_rule v (rule_of policy v) ≡ true
    rule_stands model shapes values IsBad v (inl is) = judged_comes model shapes values None v is
    rule_stands model shapes values IsBad v (inr (refusal, bad, fault, is)) = judged_comes model shapes values (Some refusal) v is

-- ---- refusals

abbrev CallTold : Option CallRefused → Type 0
CallTold None = ⊤
CallTold (Some refused) = is_call_told refused ≡ true

first_told : (first second : Option CallRefused) → CallTold first → CallTold second → CallTold (option_or first second)
first_told None second p q = q
first_told (Some refused) second p q = p

length_told : (columns : ℕ) (rules : List Fields) → CallTold (other_length columns rules)
length_told columns rules = by (find (λ (rule : Fields). not (length rule == columns)) rules)
  where
    by : (found : Option Fields) → CallTold (option_map_or (λ (rule : Fields). Some (call.Columns columns (length rule))) found None)
    by None = tt
    by (Some rule) = refl

filter_told : (columns at : ℕ) (values : Fields) → CallTold (bad_filter columns at values)
filter_told columns at values = by (nat_lt columns (at + length values)) (list_all (λ (value : List ℕ). length value == 0) values)
  where
    by : (past open_all : Bool) → CallTold (if past then Some call.FilterPlace else if open_all then Some call.EmptyFilter else None)
    by true open_all = refl
    by false true = refl
    by false false = tt

fault_told : (columns : ℕ) (called : Call) → CallTold (filter_fault columns called)
fault_told columns (RemoveFiltered table at values) = filter_told columns at values
fault_told columns (UpdateFiltered table at values rules) = filter_told columns at values
fault_told columns _ = tt

refusal_told : (shapes : Shapes) (called : Call) → has_name (table_of called) ≡ true → CallTold (refusal shapes called)
refusal_told shapes called named = by (columns_of shapes (table_of called))
  where
    long_told : (long : Bool) → CallTold (if long then Some call.FieldTooLong else None)
    long_told true = refl
    long_told false = tt

    by : (p : Option ℕ) → CallTold (option_map_or (λ (columns : ℕ). option_or (other_length columns (named_rules called)) (option_or (filter_fault columns called) (if has_long_field (added_rules called) then Some call.FieldTooLong else None))) p (Some (call.NoTable (table_of called))))
    by None = named
    by (Some columns) = first_told (other_length columns (named_rules called)) _ (length_told columns (named_rules called))
        (first_told (filter_fault columns called) _ (fault_told columns called) (long_told (has_long_field (added_rules called))))

abbrev Printable : CallAnswer → Type 0
Printable answered = is_printable (call_reply answered) ≡ true

few_told : (count : ℕ) (answered : CallAnswer) → Printable answered → Printable (while_few most_versions count answered)
few_told count (Ok None) told = refl
few_told count (Err refused) told = told
few_told count (Ok (Some edit)) told = by (eqb count most_versions)
  where
    by : (full : Bool) → Printable (if full then Err (call.Full Edits) else Ok (Some edit))
    by true = refl
    by false = refl

answer_told : (shapes : Shapes) (policy : Policy) (called : Call) → has_name (table_of called) ≡ true → Printable (answer_in shapes policy called)
answer_told shapes policy called named = by_refusal (refusal shapes called) (refusal_told shapes called named)
  where
    limited : List Change → Option Limit → CallAnswer
    limited edit limit = option_map_or (λ (what : Limit). Err (call.Full what)) limit (Ok (Some edit))

    edited_by : Option (List Change) → CallAnswer
    edited_by one = option_map_or (λ (edit : List Change). within shapes policy edit) one (Ok None)

    refused_by : Option CallRefused → CallAnswer
    refused_by refused = option_map_or (λ (why : CallRefused). Err why) refused (edited_by (edit_by shapes policy called))

    by_limit : (edit : List Change) (limit : Option Limit) → Printable (limited edit limit)
    by_limit edit None = refl
    by_limit edit (Some what) = refl

    by_edit : (one : Option (List Change)) → Printable (edited_by one)
    by_edit None = refl
    by_edit (Some edit) = by_limit edit (passed shapes (edited edit policy))

    by_refusal : (refused : Option CallRefused) → CallTold refused → Printable (refused_by refused)
    by_refusal None told = by_edit (edit_by shapes policy called)
    by_refusal (Some why) told = told

abbrev pub QueryTold : Option QueryRefused → Type 0
QueryTold None = ⊤
QueryTold (Some refused) = is_query_told refused ≡ true

pub query_told : {T : Type 0} (told : T → Answer) (refused : Option QueryRefused) (value : T) → QueryTold refused → is_printable (told value) ≡ true → is_printable (query_reply told (answer_unless refused value)) ≡ true
query_told told None value p q = q
query_told told (Some refused) value p q = p

pub rule_told : (shapes : Shapes) (table : TableId) (rule : Fields) → has_name table ≡ true → QueryTold (rule_refusal shapes table rule)
rule_told shapes table rule named = by (columns_of shapes table)
  where
    by_columns : (columns : ℕ) (fits : Bool) → QueryTold (if fits then None else Some (query.Columns columns (length rule)))
    by_columns columns true = tt
    by_columns columns false = refl

    by : (p : Option ℕ) → QueryTold (option_map_or (λ (columns : ℕ). if length rule == columns then None else Some (query.Columns columns (length rule))) p (Some (query.NoTable table)))
    by None = named
    by (Some columns) = by_columns columns (eqb (length rule) columns)

pub rows_told : (shapes : Shapes) (table : TableId) (at : ℕ) (values : Fields) → has_name table ≡ true → QueryTold (filter_refusal shapes table at values)
rows_told shapes table at values named = by (columns_of shapes table)
  where
    by_place : (past : Bool) → QueryTold (if past then Some query.FilterPlace else None)
    by_place true = refl
    by_place false = tt

    by : (p : Option ℕ) → QueryTold (option_map_or (λ (columns : ℕ). if nat_lt columns (at + length values) then Some query.FilterPlace else None) p (Some (query.NoTable table)))
    by None = named
    by (Some columns) = by_place (nat_lt columns (at + length values))

pub names_told : (shapes : Shapes) (relation : ℕ) (domain : Option (List ℕ)) → has_name (G relation) ≡ true → QueryTold (names_refusal shapes relation domain)
names_told shapes relation domain named = by (shape_of shapes.roles relation)
  where
    by_columns : (want got : ℕ) (fits : Bool) → QueryTold (if fits then None else Some (query.Columns want got))
    by_columns want got true = tt
    by_columns want got false = refl

    by : (p : Option RoleShape) → QueryTold (option_map_or (λ (shape : RoleShape). if named_columns shape.with_domain == named_columns (is_some domain) then None
        else Some (query.Columns (named_columns shape.with_domain) (named_columns (is_some domain)))) p (Some (query.NoTable (G relation))))
    by None = named
    by (Some shape) = by_columns (named_columns shape.with_domain) (named_columns (is_some domain)) (eqb (named_columns shape.with_domain) (named_columns (is_some domain)))

recall_told : (version start number : ℕ) → QueryTold (recall_refusal version start number)
recall_told version start number = by (number == 0 || nat_lt version number) (nat_le number start)
  where
    by : (past dropped : Bool) → QueryTold (if past then Some (query.NoEdit version) else if dropped then Some (query.Dropped start) else None)
    by true dropped = refl
    by false true = refl
    by false false = tt

-- ---- what an item is answered

module _ (moved : RowsAreMoved) (model : ModelParts) (shapes : Shapes) (opening : Policy) where
  module _ (refused : List (List ℕ)) (before : List Said) (at : ℕ) (over : Policy) where
    decided_printable : (values : List Datum) (reply : Answer) → IsDecided model shapes refused at over values reply → is_printable reply ≡ true
    decided_printable values reply is = ap is_printable is.told ∙ rule_stands over moved model shapes values (Contains refused) is.verdict is.judged

    pub reply_printable : (item : Said) (reply : Answer) → is_named item ≡ true → IsReplyAt model shapes opening refused before at over item reply → is_printable reply ≡ true
    reply_printable (said.asks (Ok values)) reply named is = by (eqb (length values) (length model.request)) is
      where
        by : (fits : Bool) → MatchBool fits (IsDecided model shapes refused at over values reply) (reply ≡ answer.Arity (length values) (length model.request)) → is_printable reply ≡ true
        by true decided = decided_printable values reply decided
        by false told = ap is_printable told
    reply_printable (said.asks (Err fault)) reply named is = ap is_printable is ∙ named
    reply_printable (said.edits called) reply named is =
        ap is_printable is ∙ few_told (length (given shapes opening before)) (answer_in shapes (replay (given shapes opening before) opening) called) (answer_told shapes (replay (given shapes opening before) opening) called named)
    reply_printable said.publishes reply named is = ap is_printable is
    reply_printable said.syncs reply named is = ap is_printable is
    reply_printable (said.has table rule) reply named is = ap is_printable is ∙ query_told (answer.Has (out shapes opening before)) (rule_refusal shapes table rule) _ (rule_told shapes table rule named) refl
    reply_printable (said.rows table place values) reply named is = ap is_printable is ∙ query_told (answer.Rows (out shapes opening before) table) (filter_refusal shapes table place values) _ (rows_told shapes table place values named) named
    reply_printable (said.roles relation name domain) reply named is = ap is_printable is ∙ query_told (answer.Roles (out shapes opening before)) (names_refusal shapes relation domain) _ (names_told shapes relation domain named) refl
    reply_printable (said.users relation name domain) reply named is = ap is_printable is ∙ query_told (answer.Users (out shapes opening before)) (names_refusal shapes relation domain) _ (names_told shapes relation domain named) refl
    reply_printable (said.keeps count) reply named is = ap is_printable is
    reply_printable (said.recalls number) reply named is =
        ap is_printable is ∙ query_told (answer.Recorded (out shapes opening before) number) (recall_refusal (out shapes opening before) (start shapes opening before) number) _ (recall_told (out shapes opening before) (start shapes opening before) number) refl

  lines_printable : (before items : List Said) (refused : List (List (List ℕ))) (lines : List Line) → AreLines model shapes opening before items refused lines
      → AllByRecursion (λ (item : Said). is_named item ≡ true) items → AllByRecursion (λ (line : Line). is_printable line.answer ≡ true) lines
  lines_printable before [] [] [] are named = tt
  lines_printable before (item ∷ items) (patterns ∷ refused) (line ∷ lines) are named =
      (reply_printable patterns before (out shapes opening before) (published shapes opening before) item line.answer named.0 are.0.answer, lines_printable (before ++ item ∷ []) items refused lines are.1 named.1)
  lines_printable before _ _ _ are named = absurd are

  -- the lines of a script whose tables have names can be printed
  pub plain_printable : (items : List Said) (refused : List (List (List ℕ))) (lines : List Line) → IsPlain model shapes opening items refused lines
      → All (λ (item : Said). is_named item ≡ true) items → All (λ (line : Line). is_printable line.answer ≡ true) lines
  unfolding IsPlain
  plain_printable items refused lines are named = All-from_recursion (λ (line : Line). is_printable line.answer ≡ true) lines
      (lines_printable [] items refused lines are (recursion_from_All (λ (item : Said). is_named item ≡ true) items named))
