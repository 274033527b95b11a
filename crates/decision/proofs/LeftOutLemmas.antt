-- Why the matcher does not hold for a row that a part of it excludes: all parts before it come to a truth, and it comes to false.
use Rattle.std.proofs.Common.{◌≡◌, ℕ, ◌&&◌, ◌||◌, ◌==◌, Bool, true, false, true≢false, List, [], ◌∷◌, ◌++◌, length, map, Option, Some, None, Result, Ok, refl, sym, ap, ◌∙◌, subst, cond, inl, inr, ◌⊎◌, ◌+◌, arith}
use Rattle.std.specs.Prelude.{is_some, option_and_then, option_map}
use Rattle.std.specs.List.{AllByRecursion, list_all, list_any}
use Rattle.std.specs.Option.{option_or}
use Rattle.std.specs.Str.{bytes_eq}
use Rattle.std.proofs.lemmas.Bool.{and_parts, eqb-true, false_from_ne_true}
use Rattle.std.proofs.lemmas.Bool.Decides.{nat_tests}
use Rattle.std.proofs.lemmas.List.{append_assoc}
use Rattle.std.proofs.lemmas.Option.{same_Some, some_pair_parts}
use Rattle.std.proofs.lemmas.List.Folds.{list_all-append}
use Rattle.effect_fold.specs.declared.fault.Fault.{Fault}
use Rattle.perm_value.specs.Datum.{Datum}
use Rattle.perm_value.specs.Datum as datum
use Rattle.perm_value.specs.Equality.{datum_eq}
use Rattle.perm_value.specs.Helps.EqualityLaws.{datum_eq-Decides}
use Rattle.key_match.specs.Names.{CoversAlike}
use Rattle.key_match.specs.Patterns.{brace_pieces, colon_pieces, glob_pieces}
use Rattle.key_match.specs.Pieces.{Covers}
use Rattle.key_match.specs.Stars.{AgreesToStar}
use Rattle.policy_index.specs.Keys.{may_fit}
use Rattle.policy_index.specs.declared.key.FrontKind.{FrontKind}
use Rattle.policy_index.specs.declared.key.FrontKind.TheVariants as fronts
use Rattle.policy_index.proofs.CallerLemmas.{alike_may, brace_may, colon_may, cut_may, glob_may, star_may}
use Rattle.matcher_read.specs.Expression.{function, relation, Expression, text, whole, truth, request, policy, evaluated, negation, opposite, binary, among, call, Expressions, no_more, one_more, count, place}
use Rattle.matcher_read.specs.declared.tree.Function.{Function}
use Rattle.matcher_read.specs.declared.tree.Function.TheVariants as f
use Rattle.matcher_read.specs.declared.tree.Operator.TheVariants as op
use Rattle.model_conf.specs.ModelText.{ModelParts}
use Rattle.model_conf.specs.Uses.{Use, of_request, is_declared, uses}
use Rattle.matcher_meaning.specs.Answers as answers
use Rattle.matcher_meaning.specs.Answers.{Evaluation, After, Unless}
use Rattle.matcher_meaning.specs.Calls.{IsWhether, OfTwo, text_before, texts_of, without_query}
use Rattle.matcher_meaning.specs.CaseCalls.{GivesForTexts}
use Rattle.matcher_meaning.specs.Cases.{Case, IsLinkedBy, asked_value, row_text}
use Rattle.matcher_meaning.specs.Comes.{ComesTo, ComeToBy, Evaluates, TruthIs}
use Rattle.matcher_meaning.specs.Meaning.{along, truth_at}
use Rattle.matcher_meaning.specs.Operators.{settled, joined}
use Rattle.decision.specs.Plans.{Fitted, Questioned, are_asked, are_names, asked_column, both_columns, compared, conjuncts, fitted, is_name, is_operand, is_quiet, kind_of, policy_column, question, questioned, quiet_front}
use Rattle.decision.specs.Helps.KeptPlans.{asked_among, asked_in, asked_of, column_before}

-- each of these uses is declared by the model
abbrev pub are_declared : ModelParts → List Use → Bool
are_declared model all = list_all (is_declared model.request model.policy model.relations) all

-- the request has a value in each column of the model
abbrev pub HasValues : Case → Type 0
HasValues case = (column : List ℕ) → list_any (bytes_eq column) case.model.request ≡ true → (d : Datum) × (asked_value case column ≡ Some d)

-- its value in the column is a text
abbrev pub HoldsText : Case → List ℕ → Type 0
HoldsText case column = (t : List ℕ) × (asked_value case column ≡ Some (datum.text t))

-- its value in the one column is another datum than the row's text in the other
abbrev pub Differs : Case → List ℕ → List ℕ → Type 0
Differs case asked column = (d : Datum) × (asked_value case asked ≡ Some d) × (d ≡ datum.text (row_text case column) → ⊥)

pub declared_parts : (model : ModelParts) (us vs : List Use) → are_declared model (us ++ vs) ≡ true → (are_declared model us ≡ true) × (are_declared model vs ≡ true)
declared_parts model us vs are = and_parts (are_declared model us) (are_declared model vs) (sym (list_all-append (is_declared model.request model.policy model.relations) us vs) ∙ are)

pub declared_column : (model : ModelParts) (at : ℕ) (column : List ℕ) → are_declared model (of_request at column ∷ []) ≡ true → list_any (bytes_eq column) model.request ≡ true
declared_column model at column are = (and_parts (is_declared model.request model.policy model.relations (of_request at column)) true are).0

pub each_parts : {X : Type 0} (P : X → Type 0) (xs ys : List X) → AllByRecursion P (xs ++ ys) → AllByRecursion P xs × AllByRecursion P ys
each_parts P [] ys each = (tt, each)
each_parts P (x ∷ xs) ys each = let rest = each_parts P xs ys each.1 in ((each.0, rest.0), rest.1)

-- ---- columns and operands

pub column_comes : (case : Case) (e : Expression) (column : List ℕ) (d : Datum) → asked_column e ≡ Some column → asked_value case column ≡ Some d → (r : Evaluation) → ComesTo case e r → r ≡ Ok d
column_comes case (request at own []) column d is value r comes =
    let same : own ≡ column = cc in
    comes ∙ ap (λ (c : List ℕ). along at (asked_value case c) []) same ∙ ap (λ (v : Option Datum). along at v []) value
column_comes case (request at own (name ∷ path)) column d is value r comes = absurd cc
column_comes case (text at bytes) column d is value r comes = absurd cc
column_comes case (whole at n) column d is value r comes = absurd cc
column_comes case (truth at b) column d is value r comes = absurd cc
column_comes case (policy at own) column d is value r comes = absurd cc
column_comes case (evaluated at own) column d is value r comes = absurd cc
column_comes case (negation at e) column d is value r comes = absurd cc
column_comes case (opposite at e) column d is value r comes = absurd cc
column_comes case (binary at o e f) column d is value r comes = absurd cc
column_comes case (among at e es) column d is value r comes = absurd cc
column_comes case (call at callee es) column d is value r comes = absurd cc

pub field_comes : (case : Case) (e : Expression) (column : List ℕ) → policy_column e ≡ Some column → (r : Evaluation) → ComesTo case e r → r ≡ Ok (datum.text (row_text case column))
field_comes case (policy at own) column is r comes =
    let same : own ≡ column = cc in
    comes ∙ ap (λ (c : List ℕ). Ok (datum.text (row_text case c))) same
field_comes case (request at own path) column is r comes = absurd cc
field_comes case (text at bytes) column is r comes = absurd cc
field_comes case (whole at n) column is r comes = absurd cc
field_comes case (truth at b) column is r comes = absurd cc
field_comes case (evaluated at own) column is r comes = absurd cc
field_comes case (negation at e) column is r comes = absurd cc
field_comes case (opposite at e) column is r comes = absurd cc
field_comes case (binary at o e f) column is r comes = absurd cc
field_comes case (among at e es) column is r comes = absurd cc
field_comes case (call at callee es) column is r comes = absurd cc

never : {P : Type 0} → ◌≡◌ {A = Bool} false true → P
never e = absurd (true≢false (sym e))

-- an operand comes to a value
operand_comes : (case : Case) (e : Expression) → HasValues case → is_operand e ≡ true → are_declared case.model (uses e) ≡ true → (r : Evaluation) → ComesTo case e r → (d : Datum) × (r ≡ Ok d)
operand_comes case (text at bytes) has is declared r comes = (datum.text bytes, comes)
operand_comes case (whole at n) has is declared r comes = (datum.whole n, comes)
operand_comes case (truth at b) has is declared r comes = (datum.truth b, comes)
operand_comes case (policy at column) has is declared r comes = (datum.text (row_text case column), comes)
operand_comes case (request at column []) has is declared r comes =
    let value = has column (declared_column case.model at column declared) in
    (value.0, comes ∙ ap (λ (v : Option Datum). along at v []) value.1)
operand_comes case (request at column (name ∷ path)) has is declared r comes = never is
operand_comes case (evaluated at column) has is declared r comes = never is
operand_comes case (negation at e) has is declared r comes = never is
operand_comes case (opposite at e) has is declared r comes = never is
operand_comes case (binary at o e f) has is declared r comes = never is
operand_comes case (among at e es) has is declared r comes = never is
operand_comes case (call at callee es) has is declared r comes = never is

-- a name comes to a text
name_comes : (case : Case) (e : Expression) (rest : List (List ℕ)) → is_name e ≡ true → AllByRecursion (HoldsText case) (column_before (asked_column e) rest) → (r : Evaluation) → ComesTo case e r
    → ((t : List ℕ) × (r ≡ Ok (datum.text t))) × AllByRecursion (HoldsText case) rest
name_comes case (text at bytes) rest is texts r comes = ((bytes, comes), texts)
name_comes case (policy at column) rest is texts r comes = ((row_text case column, comes), texts)
name_comes case (request at column []) rest is texts r comes = ((texts.0.0, comes ∙ ap (λ (v : Option Datum). along at v []) texts.0.1), texts.1)
name_comes case (request at column (name ∷ path)) rest is texts r comes = never is
name_comes case (whole at n) rest is texts r comes = never is
name_comes case (truth at b) rest is texts r comes = never is
name_comes case (evaluated at column) rest is texts r comes = never is
name_comes case (negation at e) rest is texts r comes = never is
name_comes case (opposite at e) rest is texts r comes = never is
name_comes case (binary at o e f) rest is texts r comes = never is
name_comes case (among at e es) rest is texts r comes = never is
name_comes case (call at callee es) rest is texts r comes = never is

-- ---- an equality

-- what is said of an answer whose one side is known
pub side_is : {Y : Type 0} (x : Evaluation) (d : Datum) (next : Datum → Result Y Fault → Type 0) (r : Result Y Fault) → x ≡ Ok d → After x (λ v. next v r) r → next d r
side_is {Y} x d next r is after = subst (λ (a : Evaluation). After a (λ v. next v r) r) is after

pub equality_comes : (case : Case) (at : ℕ) (e f : Expression) (d c : Datum) → ((x : Evaluation) → ComesTo case e x → x ≡ Ok d) → ((y : Evaluation) → ComesTo case f y → y ≡ Ok c) → (r : Evaluation) → ComesTo case (binary at op.Equal e f) r → r ≡ Ok (datum.truth (datum_eq d c))
equality_comes case at e f d c left right r (x, p, after) =
    let second : (y : Evaluation) × ComesTo case f y × (r ≡ answers.then y (joined at op.Equal d)) =
    side_is x d (λ v s. Unless (settled at op.Equal v) ((y : Evaluation) × ComesTo case f y × (s ≡ answers.then y (joined at op.Equal v))) s) r (left x p) after in
    second.2 ∙ ap (λ (y : Evaluation). answers.then y (joined at op.Equal d)) (right second.0 second.1)

-- an equality of operands comes to a truth
quiet_equality : (case : Case) (at : ℕ) (e f : Expression) → HasValues case → (is_operand e && is_operand f) ≡ true → are_declared case.model (uses e ++ uses f) ≡ true
    → (r : Evaluation) → ComesTo case (binary at op.Equal e f) r → (b : Bool) × (r ≡ Ok (datum.truth b))
quiet_equality case at e f has quiet_is declared r (x, p, after) =
    let are = and_parts (is_operand e) (is_operand f) quiet_is in
    let named = declared_parts case.model (uses e) (uses f) declared in
    let left = operand_comes case e has are.0 named.0 x p in
    let second : (y : Evaluation) × ComesTo case f y × (r ≡ answers.then y (joined at op.Equal left.0)) =
    side_is x left.0 (λ v s. Unless (settled at op.Equal v) ((y : Evaluation) × ComesTo case f y × (s ≡ answers.then y (joined at op.Equal v))) s) r left.1 after in
    let right = operand_comes case f has are.1 named.1 second.0 second.1 in
    (datum_eq left.0 right.0, second.2 ∙ ap (λ (y : Evaluation). answers.then y (joined at op.Equal left.0)) right.1)

other_datum : (d c : Datum) → (d ≡ c → ⊥) → datum_eq d c ≡ false
other_datum d c differs = false_from_ne_true (datum_eq d c) (λ e. differs ((datum_eq-Decides d c).0 e))

-- a column of the request that is not the policy's column of the row equals it neither way
differing : (case : Case) (at : ℕ) (e f : Expression) (asked column : List ℕ) → Differs case asked column → asked_column e ≡ Some asked → policy_column f ≡ Some column
    → (r : Evaluation) → ComesTo case (binary at op.Equal e f) r → r ≡ Ok (datum.truth false)
differing case at e f asked column (d, value, differs) is field r comes =
    equality_comes case at e f d (datum.text (row_text case column)) (column_comes case e asked d is value) (field_comes case f column field) r comes
    ∙ ap (λ (b : Bool). Ok (datum.truth b)) (other_datum d (datum.text (row_text case column)) differs)

differing_back : (case : Case) (at : ℕ) (e f : Expression) (asked column : List ℕ) → Differs case asked column → asked_column f ≡ Some asked → policy_column e ≡ Some column
    → (r : Evaluation) → ComesTo case (binary at op.Equal e f) r → r ≡ Ok (datum.truth false)
differing_back case at e f asked column (d, value, differs) is field r comes =
    equality_comes case at e f (datum.text (row_text case column)) d (field_comes case e column field) (column_comes case f asked d is value) r comes
    ∙ ap (λ (b : Bool). Ok (datum.truth b)) (other_datum (datum.text (row_text case column)) d (λ same. differs (sym same)))

-- the columns of which a pair was made
pub both_are : (asked column : Option (List ℕ)) (x y : List ℕ) → option_and_then {U = List ℕ × List ℕ} (λ a. option_map (λ c. (a, c)) column) asked ≡ Some (x, y) → (asked ≡ Some x) × (column ≡ Some y)
both_are (Some a) (Some c) x y is =
    let same = some_pair_parts a x c y is in
    (ap (λ (l : List ℕ). Some l) same.0, ap (λ (l : List ℕ). Some l) same.1)
both_are (Some a) None x y is = absurd cc
both_are None column x y is = absurd cc

pub either : {X : Type 0} (first second : Option X) (x : X) → option_or first second ≡ Some x → (first ≡ Some x) ⊎ (second ≡ Some x)
either (Some a) second x is = inl is
either None second x is = inr is

compared_comes : (case : Case) (e : Expression) (asked column : List ℕ) → compared e ≡ Some (asked, column) → Differs case asked column → (r : Evaluation) → ComesTo case e r → r ≡ Ok (datum.truth false)
compared_comes case (binary at op.Equal e f) asked column is differs r comes = by (either (both_columns e f) (both_columns f e) (asked, column) is)
  where
    by : (both_columns e f ≡ Some (asked, column)) ⊎ (both_columns f e ≡ Some (asked, column)) → r ≡ Ok (datum.truth false)
    by (inl one) = let are = both_are (asked_column e) (policy_column f) asked column one in differing case at e f asked column differs are.0 are.1 r comes
    by (inr one) = let are = both_are (asked_column f) (policy_column e) asked column one in differing_back case at e f asked column differs are.0 are.1 r comes
compared_comes case _ asked column is differs r comes = absurd cc

-- ---- a role question

texts_are : (ts : List (List ℕ)) → texts_of (map datum.text ts) ≡ Some ts
texts_are [] = refl
texts_are (t ∷ ts) = ap (text_before (Some t)) (texts_are ts)

one_longer : (t : List ℕ) (ts : List (List ℕ)) (n : ℕ) → length ts ≡ n → length (t ∷ ts) ≡ 1 + n
one_longer t ts n is = omega (arith, is)

-- names come to texts
names_come : (case : Case) (es : Expressions) → are_names es ≡ true → AllByRecursion (HoldsText case) (asked_among es) → (r : Result (List Datum) Fault) → ComeToBy case (Evaluates case) es r
    → (ts : List (List ℕ)) × (r ≡ Ok (map datum.text ts)) × (length ts ≡ count es)
names_come case no_more are texts r come = ([], come, refl)
names_come case (one_more e es) are texts r (x, p, after) =
    let names = and_parts (is_name e) (are_names es) are in
    let first = name_comes case e (asked_among es) names.0 texts x p in
    let t = first.0.0 in
    let behind : (y : Result (List Datum) Fault) × ComeToBy case (Evaluates case) es y × (r ≡ answers.with_first (datum.text t) y) =
    side_is {Y = List Datum} x (datum.text t) (λ d s. (y : Result (List Datum) Fault) × ComeToBy case (Evaluates case) es y × (s ≡ answers.with_first d y)) r first.0.1 after in
    let rest = names_come case es names.1 first.1 behind.0 behind.1 in
    (t ∷ rest.0, behind.2 ∙ ap (answers.with_first (datum.text t)) rest.1, one_longer t rest.0 (count es) rest.2)

-- a role question of two or three texts comes to a truth
question_gives : (case : Case) (at number : ℕ) (ts : List (List ℕ)) → (length ts == 2 || length ts == 3) ≡ true → (r : Evaluation) → GivesForTexts case at (relation number) (Some ts) r → (b : Bool) × (r ≡ Ok (datum.truth b))
question_gives case at number [] are r gives = never are
question_gives case at number (s ∷ []) are r gives = never are
question_gives case at number (s ∷ t ∷ []) are r (b, whether, is) = (b, is)
question_gives case at number (s ∷ t ∷ u ∷ []) are r (b, whether, is) = (b, is)
question_gives case at number (s ∷ t ∷ u ∷ v ∷ more) are r gives = absurd (grind (arith, nat_tests))

quiet_question : (case : Case) (at number : ℕ) (es : Expressions) → are_asked es ≡ true → AllByRecursion (HoldsText case) (asked_among es)
    → (r : Evaluation) → ComesTo case (call at (relation number) es) r → (b : Bool) × (r ≡ Ok (datum.truth b))
quiet_question case at number es quiet_is texts r (x, come, after) =
    let are = and_parts (count es == 2 || count es == 3) (are_names es) quiet_is in
    let names = names_come case es are.1 texts x come in
    let many : (length names.0 == 2 || length names.0 == 3) ≡ true = ap (λ (n : ℕ). n == 2 || n == 3) names.2 ∙ are.0 in
    let gives : GivesForTexts case at (relation number) (texts_of (map datum.text names.0)) r =
    subst (λ (a : Result (List Datum) Fault). After a (λ ds. GivesForTexts case at (relation number) (texts_of ds) r) r) names.1 after in
    question_gives case at number names.0 many r (subst (λ (ts : Option (List (List ℕ))). GivesForTexts case at (relation number) ts r) (texts_are names.0) gives)

-- ---- a function of two names

-- what a function says of two texts, where its patterns have fronts
abbrev pub Fits : Function → (word pattern : List ℕ) → Type 0
Fits f.KeyMatch word pattern = AgreesToStar word pattern
Fits f.KeyMatch2 word pattern = Covers (colon_pieces pattern) word
Fits f.KeyMatch3 word pattern = Covers (brace_pieces pattern) word
Fits f.KeyMatch4 word pattern = CoversAlike (brace_pieces pattern) word
Fits f.KeyMatch5 word pattern = Covers (brace_pieces pattern) (without_query word)
Fits f.GlobMatch word pattern = Covers (glob_pieces pattern) word
Fits _ word pattern = Unit {0}

-- it comes to whether the text fits
fits_whether : (refused : Option (ℕ × List ℕ)) (at : ℕ) (called : Function) (word pattern : List ℕ) (r : Evaluation) → is_some (kind_of called) ≡ true → OfTwo refused at called word pattern r → IsWhether (Fits called word pattern) r
fits_whether refused at f.KeyMatch word pattern r some is = is
fits_whether refused at f.KeyMatch2 word pattern r some is = is
fits_whether refused at f.KeyMatch3 word pattern r some is = is
fits_whether refused at f.KeyMatch4 word pattern r some is = is
fits_whether refused at f.KeyMatch5 word pattern r some is = is
fits_whether refused at f.GlobMatch word pattern r some is = is
fits_whether refused at f.RegexMatch word pattern r some is = never some
fits_whether refused at f.IpMatch word pattern r some is = never some
fits_whether refused at f.KeyGet word pattern r some is = never some
fits_whether refused at f.KeyGet2 word pattern r some is = never some
fits_whether refused at f.KeyGet3 word pattern r some is = never some

-- a text that fits may fit by the front of the pattern
pub fitting_may : (called : Function) (kind : FrontKind) (word pattern : List ℕ) → kind_of called ≡ Some kind → Fits called word pattern → may_fit kind pattern word ≡ true
fitting_may f.KeyMatch kind word pattern is fits = subst (λ (k : FrontKind). may_fit k pattern word ≡ true) (same_Some fronts.Star kind is) (star_may pattern word fits)
fitting_may f.KeyMatch2 kind word pattern is fits = subst (λ (k : FrontKind). may_fit k pattern word ≡ true) (same_Some fronts.Colon kind is) (colon_may pattern word fits)
fitting_may f.KeyMatch3 kind word pattern is fits = subst (λ (k : FrontKind). may_fit k pattern word ≡ true) (same_Some fronts.Brace kind is) (brace_may pattern word fits)
fitting_may f.KeyMatch4 kind word pattern is fits = subst (λ (k : FrontKind). may_fit k pattern word ≡ true) (same_Some fronts.Brace kind is) (alike_may pattern word fits)
fitting_may f.KeyMatch5 kind word pattern is fits = subst (λ (k : FrontKind). may_fit k pattern word ≡ true) (same_Some fronts.CutBrace kind is) (cut_may pattern word fits)
fitting_may f.GlobMatch kind word pattern is fits = subst (λ (k : FrontKind). may_fit k pattern word ≡ true) (same_Some fronts.Glob kind is) (glob_may pattern word fits)
fitting_may f.RegexMatch kind word pattern is fits = absurd cc
fitting_may f.IpMatch kind word pattern is fits = absurd cc
fitting_may f.KeyGet kind word pattern is fits = absurd cc
fitting_may f.KeyGet2 kind word pattern is fits = absurd cc
fitting_may f.KeyGet3 kind word pattern is fits = absurd cc

-- a call of two texts comes to a truth
pair_gives : (case : Case) (at : ℕ) (called : Function) (ts : List (List ℕ)) → is_some (kind_of called) ≡ true → length ts ≡ 2 → (r : Evaluation) → GivesForTexts case at (function called) (Some ts) r → (b : Bool) × (r ≡ Ok (datum.truth b))
pair_gives case at called [] some are r gives = absurd (omega (arith, are))
pair_gives case at called (s ∷ []) some are r gives = absurd (omega (arith, are))
pair_gives case at called (s ∷ t ∷ []) some are r gives = let whether = fits_whether case.refused at called s t r some gives in (whether.0, whether.2)
pair_gives case at called (s ∷ t ∷ u ∷ more) some are r gives = absurd (omega (arith, are))

quiet_call : (case : Case) (at : ℕ) (called : Function) (es : Expressions) → (is_some (kind_of called) && (count es == 2 && are_names es)) ≡ true → AllByRecursion (HoldsText case) (asked_among es)
    → (r : Evaluation) → ComesTo case (call at (function called) es) r → (b : Bool) × (r ≡ Ok (datum.truth b))
quiet_call case at called es quiet_is texts r (x, come, after) =
    let outer = and_parts (is_some (kind_of called)) (count es == 2 && are_names es) quiet_is in
    let are = and_parts (count es == 2) (are_names es) outer.1 in
    let names = names_come case es are.1 texts x come in
    let two : length names.0 ≡ 2 = names.2 ∙ eqb-true (count es) 2 are.0 in
    let gives : GivesForTexts case at (function called) (texts_of (map datum.text names.0)) r =
    subst (λ (a : Result (List Datum) Fault). After a (λ ds. GivesForTexts case at (function called) (texts_of ds) r) r) names.1 after in
    pair_gives case at called names.0 outer.0 two r (subst (λ (ts : Option (List (List ℕ))). GivesForTexts case at (function called) ts r) (texts_are names.0) gives)

-- ---- what two known columns come to

-- the arguments of a call of a request's column and one of the policy
two_come : (case : Case) (e g : Expression) (columns : List ℕ × List ℕ) (t : List ℕ) → both_columns e g ≡ Some columns → asked_value case columns.0 ≡ Some (datum.text t)
    → (r : Result (List Datum) Fault) → ComeToBy case (Evaluates case) (one_more e (one_more g no_more)) r → r ≡ Ok (datum.text t ∷ datum.text (row_text case columns.1) ∷ [])
two_come case e g columns t is value r (x, first, after) =
    let are = both_are (asked_column e) (policy_column g) columns.0 columns.1 is in
    let behind : (y : Result (List Datum) Fault) × ComeToBy case (Evaluates case) (one_more g no_more) y × (r ≡ answers.with_first (datum.text t) y) =
    side_is {Y = List Datum} x (datum.text t) (λ d s. (y : Result (List Datum) Fault) × ComeToBy case (Evaluates case) (one_more g no_more) y × (s ≡ answers.with_first d y)) r (column_comes case e columns.0 (datum.text t) are.0 value x first) after in
    behind.2 ∙ ap (answers.with_first (datum.text t)) (one_comes behind.0 behind.1 are.1)
  where
    one_comes : (y : Result (List Datum) Fault) → ComeToBy case (Evaluates case) (one_more g no_more) y → policy_column g ≡ Some columns.1 → y ≡ Ok (datum.text (row_text case columns.1) ∷ [])
    one_comes y (z, second, rest) field =
        let last : (w : Result (List Datum) Fault) × (w ≡ Ok []) × (y ≡ answers.with_first (datum.text (row_text case columns.1)) w) =
        side_is {Y = List Datum} z (datum.text (row_text case columns.1)) (λ d s. (w : Result (List Datum) Fault) × (w ≡ Ok []) × (s ≡ answers.with_first d w)) y (field_comes case g columns.1 field z second) rest in
        last.2 ∙ ap (answers.with_first (datum.text (row_text case columns.1))) last.1

-- a call that says whether a fact holds that does not
whether_not : (Fact : Type 0) (r : Evaluation) → IsWhether Fact r → (Fact → ⊥) → r ≡ Ok (datum.truth false)
whether_not Fact r (true, holds, is) differs = absurd (differs (holds.0 refl))
whether_not Fact r (false, holds, is) differs = is

-- or that does
whether_so : (Fact : Type 0) (r : Evaluation) → IsWhether Fact r → Fact → r ≡ Ok (datum.truth true)
whether_so Fact r (true, holds, is) fact = is
whether_so Fact r (false, holds, is) fact = absurd (true≢false (sym (holds.1 fact)))

-- a text of the request that does not fit the pattern of the row
abbrev pub NotFitting : Case → Fitted → Type 0
NotFitting case is = (t : List ℕ) × (asked_value case is.asked ≡ Some (datum.text t)) × (Fits is.called t (row_text case is.column) → ⊥)

fitted_comes : (case : Case) (e : Expression) (is : Fitted) → fitted e ≡ Some is → is_quiet e ≡ true → NotFitting case is → (r : Evaluation) → ComesTo case e r → r ≡ Ok (datum.truth false)
fitted_comes case (call at (function called) (one_more e (one_more g no_more))) is found quiet_is (t, value, differs) r (x, come, after) = by (kind_of called) refl found
  where
    some : is_some (kind_of called) ≡ true
    some = (and_parts (is_some (kind_of called)) (count (one_more e (one_more g no_more)) == 2 && are_names (one_more e (one_more g no_more))) quiet_is).0

    made : FrontKind → List ℕ × List ℕ → Fitted
    made way columns = record { called = called; kind = way; asked = columns.0; column = columns.1 }

    by : (k : Option FrontKind) → kind_of called ≡ k → option_and_then (λ (way : FrontKind). option_map (made way) (both_columns e g)) k ≡ Some is → r ≡ Ok (datum.truth false)
    by None e-is found = absurd cc
    by (Some way) e-is found = columns (both_columns e g) refl found
      where
        columns : (o : Option (List ℕ × List ℕ)) → both_columns e g ≡ o → option_map (made way) o ≡ Some is → r ≡ Ok (datum.truth false)
        columns None o-is found = absurd cc
        columns (Some pair) o-is found =
            let mine : made way pair ≡ is = same_Some (made way pair) is found in
            let asked : asked_value case pair.0 ≡ Some (datum.text t) = ap (λ (one : Fitted). asked_value case one.asked) mine ∙ value in
            let args : x ≡ Ok (datum.text t ∷ datum.text (row_text case pair.1) ∷ []) = two_come case e g pair t o-is asked x come in
            let gives : OfTwo case.refused at called t (row_text case pair.1) r = subst (λ (a : Result (List Datum) Fault). After a (λ ds. GivesForTexts case at (function called) (texts_of ds) r) r) args after in
            whether_not (Fits called t (row_text case pair.1)) r (fits_whether case.refused at called t (row_text case pair.1) r some gives)
            (λ fits. differs (subst (λ (one : Fitted). Fits one.called t (row_text case one.column)) mine fits))
fitted_comes case _ is found quiet_is differs r comes = absurd cc

-- a name of the request that has not the role of the row
abbrev pub IsDomainIn : Case → Option (List ℕ) → Option (List ℕ) → Type 0
IsDomainIn case None domain = domain ≡ None
IsDomainIn case (Some column) domain = (t : List ℕ) × (asked_value case column ≡ Some (datum.text t)) × (domain ≡ Some t)

abbrev pub NotLinked : Case → Questioned → Type 0
NotLinked case is =
    (t : List ℕ) × (asked_value case is.asked ≡ Some (datum.text t)) × (domain : Option (List ℕ)) × IsDomainIn case is.domain domain
    × (IsLinkedBy case.shapes case.policy is.number t (row_text case is.column) domain → ⊥)

-- or that has it
abbrev pub Linked : Case → Questioned → Type 0
Linked case is =
    (t : List ℕ) × (asked_value case is.asked ≡ Some (datum.text t)) × (domain : Option (List ℕ)) × IsDomainIn case is.domain domain
    × IsLinkedBy case.shapes case.policy is.number t (row_text case is.column) domain

-- the third argument of a question, which is a column of the request
three_come : (case : Case) (e g d : Expression) (columns : List ℕ × List ℕ) (column t u : List ℕ) → both_columns e g ≡ Some columns → asked_column d ≡ Some column → asked_value case columns.0 ≡ Some (datum.text t) → asked_value case column ≡ Some (datum.text u)
    → (r : Result (List Datum) Fault) → ComeToBy case (Evaluates case) (one_more e (one_more g (one_more d no_more))) r → r ≡ Ok (datum.text t ∷ datum.text (row_text case columns.1) ∷ datum.text u ∷ [])
three_come case e g d columns column t u is third value domain r (x, first, after) =
    let are = both_are (asked_column e) (policy_column g) columns.0 columns.1 is in
    let behind : (y : Result (List Datum) Fault) × ComeToBy case (Evaluates case) (one_more g (one_more d no_more)) y × (r ≡ answers.with_first (datum.text t) y) =
    side_is {Y = List Datum} x (datum.text t) (λ v s. (y : Result (List Datum) Fault) × ComeToBy case (Evaluates case) (one_more g (one_more d no_more)) y × (s ≡ answers.with_first v y)) r (column_comes case e columns.0 (datum.text t) are.0 value x first) after in
    behind.2 ∙ ap (answers.with_first (datum.text t)) (two_left behind.0 behind.1 are.1)
  where
    one_left : (w : Result (List Datum) Fault) → ComeToBy case (Evaluates case) (one_more d no_more) w → w ≡ Ok (datum.text u ∷ [])
    one_left w (z, comes, rest) =
        let last : (v : Result (List Datum) Fault) × (v ≡ Ok []) × (w ≡ answers.with_first (datum.text u) v) =
        side_is {Y = List Datum} z (datum.text u) (λ q s. (v : Result (List Datum) Fault) × (v ≡ Ok []) × (s ≡ answers.with_first q v)) w (column_comes case d column (datum.text u) third domain z comes) rest in
        last.2 ∙ ap (answers.with_first (datum.text u)) last.1

    two_left : (y : Result (List Datum) Fault) → ComeToBy case (Evaluates case) (one_more g (one_more d no_more)) y → policy_column g ≡ Some columns.1 → y ≡ Ok (datum.text (row_text case columns.1) ∷ datum.text u ∷ [])
    two_left y (z, second, rest) field =
        let next : (w : Result (List Datum) Fault) × ComeToBy case (Evaluates case) (one_more d no_more) w × (y ≡ answers.with_first (datum.text (row_text case columns.1)) w) =
        side_is {Y = List Datum} z (datum.text (row_text case columns.1)) (λ v s. (w : Result (List Datum) Fault) × ComeToBy case (Evaluates case) (one_more d no_more) w × (s ≡ answers.with_first v w)) y (field_comes case g columns.1 field z second) rest in
        next.2 ∙ ap (answers.with_first (datum.text (row_text case columns.1))) (one_left next.0 next.1)

-- a question comes to whether the name has the role
questioned_gives : (case : Case) (e : Expression) (is : Questioned) → questioned e ≡ Some is → (t : List ℕ) → asked_value case is.asked ≡ Some (datum.text t) → (domain : Option (List ℕ)) → IsDomainIn case is.domain domain
    → (r : Evaluation) → ComesTo case e r → IsWhether (IsLinkedBy case.shapes case.policy is.number t (row_text case is.column) domain) r
questioned_gives case (call at (relation number) (one_more e (one_more g no_more))) is found t value domain named r (x, come, after) = columns (both_columns e g) refl found
  where
    columns : (o : Option (List ℕ × List ℕ)) → both_columns e g ≡ o → option_map (question number None) o ≡ Some is → IsWhether (IsLinkedBy case.shapes case.policy is.number t (row_text case is.column) domain) r
    columns None o-is found = absurd cc
    columns (Some pair) o-is found =
        let mine : question number None pair ≡ is = same_Some (question number None pair) is found in
        let asked : asked_value case pair.0 ≡ Some (datum.text t) = ap (λ (one : Questioned). asked_value case one.asked) mine ∙ value in
        let none : domain ≡ None = subst (λ (one : Questioned). IsDomainIn case one.domain domain) (sym mine) named in
        let args : x ≡ Ok (datum.text t ∷ datum.text (row_text case pair.1) ∷ []) = two_come case e g pair t o-is asked x come in
        let gives : IsWhether (IsLinkedBy case.shapes case.policy number t (row_text case pair.1) None) r = subst (λ (a : Result (List Datum) Fault). After a (λ ds. GivesForTexts case at (relation number) (texts_of ds) r) r) args after in
        subst (λ (one : Questioned). IsWhether (IsLinkedBy case.shapes case.policy one.number t (row_text case one.column) domain) r) mine
        (subst (λ (d : Option (List ℕ)). IsWhether (IsLinkedBy case.shapes case.policy number t (row_text case pair.1) d) r) (sym none) gives)
questioned_gives case (call at (relation number) (one_more e (one_more g (one_more d no_more)))) is found t value domain named r (x, come, after) = third (asked_column d) refl found
  where
    third : (o : Option (List ℕ)) → asked_column d ≡ o → option_and_then (λ (column : List ℕ). option_map (question number (Some column)) (both_columns e g)) o ≡ Some is → IsWhether (IsLinkedBy case.shapes case.policy is.number t (row_text case is.column) domain) r
    third None d-is found = absurd cc
    third (Some column) d-is found = columns (both_columns e g) refl found
      where
        columns : (o : Option (List ℕ × List ℕ)) → both_columns e g ≡ o → option_map (question number (Some column)) o ≡ Some is → IsWhether (IsLinkedBy case.shapes case.policy is.number t (row_text case is.column) domain) r
        columns None o-is found = absurd cc
        columns (Some pair) o-is found =
            let mine : question number (Some column) pair ≡ is = same_Some (question number (Some column) pair) is found in
            let asked : asked_value case pair.0 ≡ Some (datum.text t) = ap (λ (one : Questioned). asked_value case one.asked) mine ∙ value in
            let there : (u : List ℕ) × (asked_value case column ≡ Some (datum.text u)) × (domain ≡ Some u) = subst (λ (one : Questioned). IsDomainIn case one.domain domain) (sym mine) named in
            let args : x ≡ Ok (datum.text t ∷ datum.text (row_text case pair.1) ∷ datum.text there.0 ∷ []) = three_come case e g d pair column t there.0 o-is d-is asked there.1 x come in
            let gives : IsWhether (IsLinkedBy case.shapes case.policy number t (row_text case pair.1) (Some there.0)) r = subst (λ (a : Result (List Datum) Fault). After a (λ ds. GivesForTexts case at (relation number) (texts_of ds) r) r) args after in
            subst (λ (one : Questioned). IsWhether (IsLinkedBy case.shapes case.policy one.number t (row_text case one.column) domain) r) mine
            (subst (λ (d : Option (List ℕ)). IsWhether (IsLinkedBy case.shapes case.policy number t (row_text case pair.1) d) r) (sym there.2) gives)
questioned_gives case _ is found t value domain named r comes = absurd cc

questioned_comes : (case : Case) (e : Expression) (is : Questioned) → questioned e ≡ Some is → NotLinked case is → (r : Evaluation) → ComesTo case e r → r ≡ Ok (datum.truth false)
questioned_comes case e is found (t, value, domain, named, differs) r comes =
    whether_not (IsLinkedBy case.shapes case.policy is.number t (row_text case is.column) domain) r (questioned_gives case e is found t value domain named r comes) differs

pub linked_comes : (case : Case) (e : Expression) (is : Questioned) → questioned e ≡ Some is → Linked case is → (r : Evaluation) → ComesTo case e r → r ≡ Ok (datum.truth true)
linked_comes case e is found (t, value, domain, named, linked) r comes =
    whether_so (IsLinkedBy case.shapes case.policy is.number t (row_text case is.column) domain) r (questioned_gives case e is found t value domain named r comes) linked

-- ---- a conjunct

quiet_comes : (case : Case) (e : Expression) → HasValues case → is_quiet e ≡ true → are_declared case.model (uses e) ≡ true → AllByRecursion (HoldsText case) (asked_of e)
    → (r : Evaluation) → ComesTo case e r → (b : Bool) × (r ≡ Ok (datum.truth b))
quiet_comes case (binary at op.Equal e g) has is declared texts r comes = quiet_equality case at e g has is declared r comes
quiet_comes case (call at (relation number) es) has is declared texts r comes = quiet_question case at number es is texts r comes
quiet_comes case (call at (function called) es) has is declared texts r comes = quiet_call case at called es is texts r comes
quiet_comes case _ has is declared texts r comes = never is

-- a conjunct that does not hold: its columns differ, its text does not fit, or its name has not the role
pub data Excludes (case : Case) (e : Expression) : Type 0 where
  by_columns : (columns : List ℕ × List ℕ) → compared e ≡ Some columns → Differs case columns.0 columns.1 → Excludes case e
  by_pattern : (is : Fitted) → fitted e ≡ Some is → NotFitting case is → Excludes case e
  by_role : (is : Questioned) → questioned e ≡ Some is → NotLinked case is → Excludes case e

excluded_comes : (case : Case) (e : Expression) → is_quiet e ≡ true → Excludes case e → (r : Evaluation) → ComesTo case e r → r ≡ Ok (datum.truth false)
excluded_comes case e quiet_is (by_columns columns is differs) r comes = compared_comes case e columns.0 columns.1 is differs r comes
excluded_comes case e quiet_is (by_pattern is found differs) r comes = fitted_comes case e is found quiet_is differs r comes
excluded_comes case e quiet_is (by_role is found differs) r comes = questioned_comes case e is found differs r comes

-- one of conjuncts does not hold
abbrev pub SomeExcludes : Case → List Expression → Type 0
SomeExcludes case [] = ⊥
SomeExcludes case (e ∷ es) = Excludes case e ⊎ SomeExcludes case es

-- ---- conjuncts, one after the other

-- each of them is quiet
abbrev pub all_quiet : List Expression → Bool
all_quiet es = list_all is_quiet es

-- those in front of the first that may fail, of two lists
front_append : (es gs : List Expression) (b : Bool) → all_quiet es ≡ b → quiet_front (es ++ gs) ≡ cond b (es ++ quiet_front gs) (quiet_front es)
front_append [] gs true is = refl
front_append [] gs false is = absurd (true≢false is)
front_append (e ∷ es) gs b is = by (is_quiet e) is (λ all. front_append es gs b all)
  where
    by : (q : Bool) → (q && all_quiet es) ≡ b → (all_quiet es ≡ b → quiet_front (es ++ gs) ≡ cond b (es ++ quiet_front gs) (quiet_front es)) → cond q (e ∷ quiet_front (es ++ gs)) [] ≡ cond b (e ∷ es ++ quiet_front gs) (cond q (e ∷ quiet_front es) [])
    by true all rest = ap (λ (l : List Expression). e ∷ l) (rest all) ∙ inside b
      where
        inside : (c : Bool) → e ∷ cond c (es ++ quiet_front gs) (quiet_front es) ≡ cond c (e ∷ es ++ quiet_front gs) (e ∷ quiet_front es)
        inside true = refl
        inside false = refl
    by false all rest = subst (λ (c : Bool). [] ≡ cond c (e ∷ es ++ quiet_front gs) []) all refl

front_all : (es : List Expression) → all_quiet es ≡ true → quiet_front es ≡ es
front_all [] is = refl
front_all (e ∷ es) is =
    let parts = and_parts (is_quiet e) (all_quiet es) is in
    ap (λ (b : Bool). cond b (e ∷ quiet_front es) []) parts.0 ∙ ap (λ (l : List Expression). e ∷ l) (front_all es parts.1)

asked_append : (es gs : List Expression) → asked_in (es ++ gs) ≡ asked_in es ++ asked_in gs
asked_append [] gs = refl
asked_append (e ∷ es) gs = ap (λ (l : List (List ℕ)). asked_of e ++ l) (asked_append es gs) ∙ sym (append_assoc (asked_of e) (asked_in es) (asked_in gs))

excludes_parts : (case : Case) (es gs : List Expression) → SomeExcludes case (es ++ gs) → SomeExcludes case es ⊎ SomeExcludes case gs
excludes_parts case [] gs some = inr some
excludes_parts case (e ∷ es) gs (inl here) = inl (inl here)
excludes_parts case (e ∷ es) gs (inr later) = by (excludes_parts case es gs later)
  where
    by : SomeExcludes case es ⊎ SomeExcludes case gs → SomeExcludes case (e ∷ es) ⊎ SomeExcludes case gs
    by (inl some) = inl (inr some)
    by (inr some) = inr some

-- what conjuncts come to: a truth where none may fail, and false where one in front of the first that may fail does not hold
pub record Says (case : Case) (es : List Expression) (r : Evaluation) : Type 0 where
  pub truth : all_quiet es ≡ true → (b : Bool) × (r ≡ Ok (datum.truth b))
  pub denied : SomeExcludes case (quiet_front es) → r ≡ Ok (datum.truth false)

-- the texts that they want are there
abbrev HaveNames : Case → List Expression → Type 0
HaveNames case es = AllByRecursion (HoldsText case) (asked_in (quiet_front es))

-- what is said of `&&` behind its left side
abbrev pub Behind : Case → ℕ → Expression → Datum → Evaluation → Type 0
Behind case at g d r = Unless (settled at op.And d) ((y : Evaluation) × ComesTo case g y × (r ≡ answers.then y (joined at op.And d))) r

one_says : (case : Case) (e : Expression) → HasValues case → are_declared case.model (uses e) ≡ true → HaveNames case (e ∷ []) → (r : Evaluation) → ComesTo case e r → Says case (e ∷ []) r
one_says case e has declared texts r comes = by (is_quiet e) refl
  where
    by : (b : Bool) → is_quiet e ≡ b → Says case (e ∷ []) r
    by true is = record {
      truth = λ all.
          quiet_comes case e has is declared
          (each_parts (HoldsText case) (asked_of e) [] (subst (λ (l : List Expression). AllByRecursion (HoldsText case) (asked_in l)) (ap (λ (b : Bool). cond b (e ∷ []) []) is) texts)).0 r comes;
      denied = λ some. only (subst (SomeExcludes case) (ap (λ (b : Bool). cond b (e ∷ []) []) is) some);
    }
      where
        only : SomeExcludes case (e ∷ []) → r ≡ Ok (datum.truth false)
        only (inl here) = excluded_comes case e is here r comes
        only (inr nowhere) = absurd nowhere
    by false is = record {
      truth = λ all. absurd (true≢false (sym (and_parts (is_quiet e) true all).0 ∙ is));
      denied = λ some. absurd (subst (SomeExcludes case) (ap (λ (b : Bool). cond b (e ∷ []) []) is) some);
    }

-- the answer of `&&` where the left side is true
pub right_is : (at : ℕ) (y r : Evaluation) (b : Bool) → r ≡ answers.then y (joined at op.And (datum.truth true)) → y ≡ Ok (datum.truth b) → r ≡ Ok (datum.truth b)
right_is at y r b e is = e ∙ ap (λ (a : Evaluation). answers.then a (joined at op.And (datum.truth true))) is

both_say : (case : Case) (at : ℕ) (g : Expression) (es gs : List Expression) (x r : Evaluation) → Says case es x → After x (λ d. Behind case at g d r) r → (all_quiet es ≡ true → (y : Evaluation) → ComesTo case g y → Says case gs y) → Says case (es ++ gs) r
both_say case at g es gs x r left after right = record { truth = truth; denied = not_held }
  where
    behind : (d : Datum) → x ≡ Ok d → Behind case at g d r
    behind d is = side_is x d (Behind case at g) r is after

    truth : all_quiet (es ++ gs) ≡ true → (b : Bool) × (r ≡ Ok (datum.truth b))
    truth all = by (left.truth parts.0)
      where
        parts : (all_quiet es ≡ true) × (all_quiet gs ≡ true)
        parts = and_parts (all_quiet es) (all_quiet gs) (sym (list_all-append is_quiet es gs) ∙ all)

        by : (b : Bool) × (x ≡ Ok (datum.truth b)) → (b : Bool) × (r ≡ Ok (datum.truth b))
        by (false, is) = (false, behind (datum.truth false) is)
        by (true, is) =
            let next : (y : Evaluation) × ComesTo case g y × (r ≡ answers.then y (joined at op.And (datum.truth true))) = behind (datum.truth true) is in
            let said = (right parts.0 next.0 next.1).truth parts.1 in
            (said.0, right_is at next.0 r said.0 next.2 said.1)

    not_held : SomeExcludes case (quiet_front (es ++ gs)) → r ≡ Ok (datum.truth false)
    not_held some = by (all_quiet es) refl
      where
        from_left : SomeExcludes case (quiet_front es) → r ≡ Ok (datum.truth false)
        from_left there = behind (datum.truth false) (left.denied there)

        by : (b : Bool) → all_quiet es ≡ b → r ≡ Ok (datum.truth false)
        by false is = from_left (subst (SomeExcludes case) (front_append es gs false is) some)
        by true is = either (excludes_parts case es (quiet_front gs) (subst (SomeExcludes case) (front_append es gs true is) some))
          where
            either : SomeExcludes case es ⊎ SomeExcludes case (quiet_front gs) → r ≡ Ok (datum.truth false)
            either (inl there) = from_left (subst (SomeExcludes case) (sym (front_all es is)) there)
            either (inr later) = from_right (left.truth is)
              where
                from_right : (b : Bool) × (x ≡ Ok (datum.truth b)) → r ≡ Ok (datum.truth false)
                from_right (false, x-is) = behind (datum.truth false) x-is
                from_right (true, x-is) =
                    let next : (y : Evaluation) × ComesTo case g y × (r ≡ answers.then y (joined at op.And (datum.truth true))) = behind (datum.truth true) x-is in
                    right_is at next.0 r false next.2 ((right is next.0 next.1).denied later)

-- ---- an expression

-- the texts that the two sides of `&&` want
left_names : (case : Case) (es gs : List Expression) → HaveNames case (es ++ gs) → HaveNames case es
left_names case es gs held = by (all_quiet es) refl
  where
    by : (b : Bool) → all_quiet es ≡ b → HaveNames case es
    by true is =
        subst (λ (l : List Expression). AllByRecursion (HoldsText case) (asked_in l)) (sym (front_all es is))
        (each_parts (HoldsText case) (asked_in es) (asked_in (quiet_front gs))
        (subst (AllByRecursion (HoldsText case)) (ap asked_in (front_append es gs true is) ∙ asked_append es (quiet_front gs)) held)).0
    by false is = subst (λ (l : List Expression). AllByRecursion (HoldsText case) (asked_in l)) (front_append es gs false is) held

right_names : (case : Case) (es gs : List Expression) → all_quiet es ≡ true → HaveNames case (es ++ gs) → HaveNames case gs
right_names case es gs is held =
    (each_parts (HoldsText case) (asked_in es) (asked_in (quiet_front gs)) (subst (AllByRecursion (HoldsText case)) (ap asked_in (front_append es gs true is) ∙ asked_append es (quiet_front gs)) held)).1

pub expression_says : (case : Case) (e : Expression) → HasValues case → are_declared case.model (uses e) ≡ true → HaveNames case (conjuncts e) → (r : Evaluation) → ComesTo case e r → Says case (conjuncts e) r
expression_says case (binary at op.And e g) has declared texts r (x, comes, after) =
    let named = declared_parts case.model (uses e) (uses g) declared in
    both_say case at g (conjuncts e) (conjuncts g) x r (expression_says case e has named.0 (left_names case (conjuncts e) (conjuncts g) texts) x comes) after
    (λ all right. expression_says case g has named.1 (right_names case (conjuncts e) (conjuncts g) all texts) right)
expression_says case e has declared texts r comes = one_says case e has declared texts r comes

-- the matcher does not hold where a part that counts does not
pub left_out : (case : Case) (e : Expression) → HasValues case → are_declared case.model (uses e) ≡ true → AllByRecursion (HoldsText case) (asked_in (quiet_front (conjuncts e)))
    → SomeExcludes case (quiet_front (conjuncts e)) → (t : Result Bool Fault) × TruthIs case e t → TruthIs case e (Ok false)
left_out case e has declared texts some (t, (x, comes, is)) =
    let answer : x ≡ Ok (datum.truth false) = (expression_says case e has declared texts x comes).denied some in
    (x, comes, sym (ap (λ (a : Evaluation). answers.then a (truth_at (place e))) answer))

-- the function of a fitted text has patterns of that kind
pub kind_is : (e : Expression) (is : Fitted) → fitted e ≡ Some is → kind_of is.called ≡ Some is.kind
kind_is (call at (function called) (one_more e (one_more g no_more))) is found = by (kind_of called) refl found
  where
    made : FrontKind → List ℕ × List ℕ → Fitted
    made way columns = record { called = called; kind = way; asked = columns.0; column = columns.1 }

    by : (k : Option FrontKind) → kind_of called ≡ k → option_and_then (λ (way : FrontKind). option_map (made way) (both_columns e g)) k ≡ Some is → kind_of is.called ≡ Some is.kind
    by None e-is found = absurd cc
    by (Some way) e-is found = columns (both_columns e g) found
      where
        columns : (o : Option (List ℕ × List ℕ)) → option_map (made way) o ≡ Some is → kind_of is.called ≡ Some is.kind
        columns None found = absurd cc
        columns (Some pair) found = subst (λ (one : Fitted). kind_of one.called ≡ Some one.kind) (same_Some (made way pair) is found) e-is
kind_is _ is found = absurd cc
