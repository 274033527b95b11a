-- What operators, functions and outcomes give where no search is refused is a fault of a pattern only where it cannot be read.
use Rattle.std.proofs.Common.{◌≡◌, ◌⊎◌, inl, inr, ℕ, ℤ, ◌+ℤ◌, ◌-ℤ◌, ◌*ℤ◌, neg_ℤ, Bool, true, false, List, [], ◌∷◌, Option, Some, None, Result, Ok, Err, cond, find, if◌then◌else◌, pos, int_div, int_rem, is_some, refl, sym, ◌∙◌, subst}
use Rattle.std.specs.Bool.{⊤}
use Rattle.std.specs.Ordering.{int_eq, is_lt, is_le, is_gt, is_ge}
use Rattle.std.specs.declared.cmp.Ordering.{Ordering}
use Rattle.effect_fold.specs.Verdict.{Taken, unsettled, allow_by, allows, settled_by, verdict_at}
use Rattle.effect_fold.specs.declared.effect.Effect.{Effect}
use Rattle.effect_fold.specs.declared.effect.Effect.TheVariants as effect
use Rattle.effect_fold.specs.declared.fault.Cause.TheVariants.{Kind, NoAttribute, Overflow, ZeroDivisor, BadAddress, BadBlock, Pattern, RuleText}
use Rattle.effect_fold.specs.declared.fault.Cause.{Cause}
use Rattle.effect_fold.specs.declared.verdict.Verdict.{Verdict}
use Rattle.effect_fold.specs.declared.verdict.Verdict.TheVariants as verdicts
use Rattle.regex_gate.specs.Found.{has_match, is_readable}
use Rattle.regex_gate.proofs.CallerLemmas.{answered_readable}
use Rattle.effect_fold.specs.declared.fault.Fault.{Fault}
use Rattle.effect_fold.specs.declared.outcome.Outcome.{Outcome}
use Rattle.effect_fold.specs.declared.outcome.Outcome.TheVariants.{Unmatched, Matched, Failed}
use Rattle.ip_match.specs.Blocks.{IsInside}
use Rattle.key_match.specs.Divisions.{LongerFirst, ShorterSegmentFirst, IsNamedPart}
use Rattle.key_match.specs.Names.{CoversAlike}
use Rattle.key_match.specs.Patterns.{brace_pieces, colon_pieces, glob_pieces}
use Rattle.key_match.specs.Pieces.{Covers}
use Rattle.key_match.specs.Stars.{AgreesToStar, part_at_star}
use Rattle.matcher_read.specs.declared.tree.Function.{Function}
use Rattle.matcher_read.specs.declared.tree.Function.TheVariants as f
use Rattle.matcher_read.specs.declared.tree.Operator.{Operator}
use Rattle.matcher_read.specs.declared.tree.Operator.TheVariants as op
use Rattle.perm_value.specs.Attribute.{attribute}
use Rattle.perm_value.specs.Datum.{Datum}
use Rattle.perm_value.specs.Datum as datum
use Rattle.matcher_meaning.specs.Answers as answers
use Rattle.matcher_meaning.specs.Answers.{Evaluation, After, Unless, with_first}
use Rattle.matcher_meaning.specs.Arithmetic.{is_in_range, fitted, divided, of_wholes}
use Rattle.matcher_meaning.specs.Calls.{IsWhether, IsText, matched, searched, IsInBlock, without_query, OfTwo, OfThree}
use Rattle.matcher_meaning.specs.Meaning.{along, truth_at}
use Rattle.matcher_meaning.specs.Operators.{negated, opposed, as_truth, ended_by, settled, ordered, joined, is_member, ended_among}
use Rattle.matcher_meaning.specs.Perm.{outcome_of, is_pattern, is_refusal}

-- the result is a value, or a fault of another cause than a pattern, or at a place of which this is said
abbrev pub IsClear : {X : Type 0} → (ℕ → Type 0) → Result X Fault → Type 0
IsClear Bad (Ok x) = ⊤
IsClear Bad (Err fault) = (is_pattern fault.cause ≡ false) ⊎ Bad fault.at

-- each result of which the one holds is such
abbrev pub AreClear : {X : Type 0} → (ℕ → Type 0) → (Result X Fault → Type 0) → Type 0
AreClear {X} Bad P = (r : Result X Fault) → P r → IsClear Bad r

-- an answer that is there is such
abbrev pub IsClearThere : (ℕ → Type 0) → Option Evaluation → Type 0
IsClearThere Bad (Some answer) = IsClear Bad answer
IsClearThere Bad None = ⊤

pub same_clear : {X : Type 0} (Bad : ℕ → Type 0) (r s : Result X Fault) → r ≡ s → IsClear Bad s → IsClear Bad r
same_clear {X} Bad r s e clear = subst (λ (x : Result X Fault). IsClear Bad x) (sym e) clear

pub then_clear : {X : Type 0} (Bad : ℕ → Type 0) (x : Evaluation) (next : Datum → Result X Fault) → IsClear Bad x → ((d : Datum) → IsClear Bad (next d)) → IsClear Bad (answers.then x next)
then_clear Bad (Ok d) next clear follows = follows d
then_clear Bad (Err fault) next clear follows = clear

pub next_clear : {X Y : Type 0} (Bad : ℕ → Type 0) (P : Result X Fault → Type 0) (next : Result X Fault → Result Y Fault) → AreClear Bad P → ((x : Result X Fault) → IsClear Bad x → IsClear Bad (next x))
    → AreClear Bad (λ r. (x : Result X Fault) × P x × (r ≡ next x))
next_clear Bad P next clear follows r (x, p, e) = same_clear Bad r (next x) e (follows x (clear x p))

-- what follows a value of the first part is clear
pub after_clear_of : {X Y : Type 0} (Bad : ℕ → Type 0) (P : Result X Fault → Type 0) (R : X → Result Y Fault → Type 0) → AreClear Bad P → ((x : X) → P (Ok x) → AreClear Bad (R x))
    → AreClear Bad (λ r. (x : Result X Fault) × P x × After x (λ d. R d r) r)
after_clear_of {X} {Y} Bad P R clear follows r (x, p, after) = go x p (clear x p) after
  where
    go : (y : Result X Fault) → P y → IsClear Bad y → After y (λ d. R d r) r → IsClear Bad r
    go (Ok d) is given q = follows d is r q
    go (Err fault) is given e = same_clear Bad r (Err fault) e given

pub after_clear : {X Y : Type 0} (Bad : ℕ → Type 0) (P : Result X Fault → Type 0) (R : X → Result Y Fault → Type 0) → AreClear Bad P → ((x : X) → AreClear Bad (R x))
    → AreClear Bad (λ r. (x : Result X Fault) × P x × After x (λ d. R d r) r)
after_clear Bad P R clear follows = after_clear_of Bad P R clear (λ d is. follows d)

pub unless_clear : (Bad : ℕ → Type 0) (there : Option Evaluation) (P : Evaluation → Type 0) → IsClearThere Bad there → AreClear Bad P → AreClear Bad (λ r. Unless there (P r) r)
unless_clear Bad (Some answer) P there clear r e = same_clear Bad r answer e there
unless_clear Bad None P there clear r p = clear r p

pub first_clear : (Bad : ℕ → Type 0) (d : Datum) (x : Result (List Datum) Fault) → IsClear Bad x → IsClear Bad (with_first d x)
first_clear Bad d (Ok ds) clear = tt
first_clear Bad d (Err fault) clear = clear

pub negated_clear : (Bad : ℕ → Type 0) (at : ℕ) (d : Datum) → IsClear Bad (negated at d)
negated_clear Bad at (datum.truth b) = tt
negated_clear Bad at _ = inl refl

cond_clear : {X : Type 0} (Bad : ℕ → Type 0) (test : Bool) (r s : Result X Fault) → IsClear Bad r → IsClear Bad s → IsClear Bad (if test then r else s)
cond_clear Bad true r s clear other = clear
cond_clear Bad false r s clear other = other

fitted_clear : (Bad : ℕ → Type 0) (at : ℕ) (n : ℤ) → IsClear Bad (fitted at n)
fitted_clear Bad at n = cond_clear Bad (is_in_range n) (Ok (datum.whole n)) (answers.fails Overflow at) tt (inl refl)

divided_clear : (Bad : ℕ → Type 0) (at : ℕ) (n by given : ℤ) → IsClear Bad (divided at n by given)
divided_clear Bad at n by given =
    cond_clear Bad (int_eq by (pos 0)) (answers.fails ZeroDivisor at) (if is_in_range (int_div n by) then Ok (datum.whole given) else answers.fails Overflow at) (inl refl)
    (cond_clear Bad (is_in_range (int_div n by)) (Ok (datum.whole given)) (answers.fails Overflow at) tt (inl refl))

pub opposed_clear : (Bad : ℕ → Type 0) (at : ℕ) (d : Datum) → IsClear Bad (opposed at d)
opposed_clear Bad at (datum.whole n) = fitted_clear Bad at (neg_ℤ n)
opposed_clear Bad at _ = inl refl

wholes_clear : (Bad : ℕ → Type 0) (at : ℕ) (give : ℤ → ℤ → Evaluation) → ((n m : ℤ) → IsClear Bad (give n m)) → (d e : Datum) → IsClear Bad (of_wholes at give d e)
wholes_clear Bad at give clear (datum.whole n) (datum.whole m) = clear n m
wholes_clear Bad at give clear _ _ = inl refl

pub side_clear : (Bad : ℕ → Type 0) (at : ℕ) (d : Datum) → IsClear Bad (as_truth at d)
side_clear Bad at (datum.truth b) = tt
side_clear Bad at _ = inl refl

ordered_clear : (Bad : ℕ → Type 0) (at : ℕ) (is_so : Ordering → Bool) (d e : Datum) → IsClear Bad (ordered at is_so d e)
ordered_clear Bad at is_so (datum.whole n) (datum.whole m) = tt
ordered_clear Bad at is_so (datum.text s) (datum.text t) = tt
ordered_clear Bad at is_so _ _ = inl refl

pub joined_clear : (Bad : ℕ → Type 0) (at : ℕ) (o : Operator) (d e : Datum) → IsClear Bad (joined at o d e)
joined_clear Bad at op.Or d e = side_clear Bad at e
joined_clear Bad at op.And d e = side_clear Bad at e
joined_clear Bad at op.Equal d e = tt
joined_clear Bad at op.NotEqual d e = tt
joined_clear Bad at op.Less d e = ordered_clear Bad at is_lt d e
joined_clear Bad at op.AtMost d e = ordered_clear Bad at is_le d e
joined_clear Bad at op.Greater d e = ordered_clear Bad at is_gt d e
joined_clear Bad at op.AtLeast d e = ordered_clear Bad at is_ge d e
joined_clear Bad at op.Plus d e = wholes_clear Bad at (λ n m. fitted at (n +ℤ m)) (λ n m. fitted_clear Bad at (n +ℤ m)) d e
joined_clear Bad at op.Minus d e = wholes_clear Bad at (λ n m. fitted at (n -ℤ m)) (λ n m. fitted_clear Bad at (n -ℤ m)) d e
joined_clear Bad at op.Times d e = wholes_clear Bad at (λ n m. fitted at (n *ℤ m)) (λ n m. fitted_clear Bad at (n *ℤ m)) d e
joined_clear Bad at op.Over d e = wholes_clear Bad at (λ n m. divided at n m (int_div n m)) (λ n m. divided_clear Bad at n m (int_div n m)) d e
joined_clear Bad at op.Remainder d e = wholes_clear Bad at (λ n m. divided at n m (int_rem n m)) (λ n m. divided_clear Bad at n m (int_rem n m)) d e

ended_clear : (Bad : ℕ → Type 0) (at : ℕ) (by : Bool) (d : Datum) → IsClearThere Bad (ended_by at by d)
ended_clear Bad at true (datum.truth true) = tt
ended_clear Bad at true (datum.truth false) = tt
ended_clear Bad at false (datum.truth false) = tt
ended_clear Bad at false (datum.truth true) = tt
ended_clear Bad at _ _ = inl refl

pub settled_clear : (Bad : ℕ → Type 0) (at : ℕ) (o : Operator) (d : Datum) → IsClearThere Bad (settled at o d)
settled_clear Bad at op.Or d = ended_clear Bad at true d
settled_clear Bad at op.And d = ended_clear Bad at false d
settled_clear Bad at _ d = tt

pub ended_among_clear : (Bad : ℕ → Type 0) (d : Datum) (x : Evaluation) → IsClear Bad x → IsClearThere Bad (ended_among d x)
ended_among_clear Bad d (Ok e) clear = go (is_member d e)
  where
    go : (b : Bool) → IsClearThere Bad (if b then Some (Ok (datum.truth true)) else None)
    go true = tt
    go false = tt
ended_among_clear Bad d (Err fault) clear = clear

pub along_clear : (Bad : ℕ → Type 0) (at : ℕ) (d : Option Datum) (names : List (List ℕ)) → IsClear Bad (along at d names)
along_clear Bad at None names = inl refl
along_clear Bad at (Some d) [] = tt
along_clear Bad at (Some d) (name ∷ names) = along_clear Bad at (attribute d name) names

pub whether_clear : (Bad : ℕ → Type 0) (fact : Type 0) → AreClear Bad (IsWhether fact)
whether_clear Bad fact r (b, p, e) = same_clear Bad r (Ok (datum.truth b)) e tt

text_clear : (Bad : ℕ → Type 0) (fact : List ℕ → Type 0) → AreClear Bad (IsText fact)
text_clear Bad fact r (t, p, e) = same_clear Bad r (Ok (datum.text t)) e tt

block_clear : (Bad : ℕ → Type 0) (at : ℕ) (s t : List ℕ) → AreClear Bad (IsInBlock at s t)
block_clear Bad at s t r (inl p) = same_clear Bad r (answers.fails BadAddress at) p.1 (inl refl)
block_clear Bad at s t r (inr (inl p)) = same_clear Bad r (answers.fails BadBlock at) p.2 (inl refl)
block_clear Bad at s t r (inr (inr p)) = whether_clear Bad (IsInside p.0 p.1.address p.1.bits) r p.4

-- a search has an answer, or its pattern cannot be read
matched_clear : (Bad : ℕ → Type 0) (at : ℕ) (answer : Option Bool) → (is_some answer ≡ false → Bad at) → IsClear Bad (matched at answer)
matched_clear Bad at (Some is_found) bad = tt
matched_clear Bad at None bad = inr (bad refl)

-- what is asked of the pattern where this is a search
abbrev pub BadPattern : (ℕ → Type 0) → ℕ → Function → List ℕ → Type 0
BadPattern Bad at called pattern = called ≡ f.RegexMatch → is_readable pattern ≡ false → Bad at

pub two_clear : (Bad : ℕ → Type 0) (at : ℕ) (called : Function) (s t : List ℕ) → BadPattern Bad at called t → AreClear Bad (OfTwo None at called s t)
two_clear Bad at f.KeyMatch s t bad r p = whether_clear Bad (AgreesToStar s t) r p
two_clear Bad at f.KeyMatch2 s t bad r p = whether_clear Bad (Covers (colon_pieces t) s) r p
two_clear Bad at f.KeyMatch3 s t bad r p = whether_clear Bad (Covers (brace_pieces t) s) r p
two_clear Bad at f.KeyMatch4 s t bad r p = whether_clear Bad (CoversAlike (brace_pieces t) s) r p
two_clear Bad at f.KeyMatch5 s t bad r p = whether_clear Bad (Covers (brace_pieces t) (without_query s)) r p
two_clear Bad at f.GlobMatch s t bad r p = whether_clear Bad (Covers (glob_pieces t) s) r p
two_clear Bad at f.RegexMatch s t bad r e = same_clear Bad r (searched None at s t) e (matched_clear Bad at (has_match t s) (λ none. bad refl (sym (answered_readable t s) ∙ none)))
two_clear Bad at f.IpMatch s t bad r p = block_clear Bad at s t r p
two_clear Bad at f.KeyGet s t bad r e = same_clear Bad r (Ok (datum.text (part_at_star s t))) e tt
two_clear Bad at f.KeyGet2 s t bad r e = same_clear Bad r (answers.fails Kind at) e (inl refl)
two_clear Bad at f.KeyGet3 s t bad r e = same_clear Bad r (answers.fails Kind at) e (inl refl)

pub three_clear : (Bad : ℕ → Type 0) (at : ℕ) (called : Function) (s t u : List ℕ) → AreClear Bad (OfThree at called s t u)
three_clear Bad at f.KeyGet2 s t u r p = text_clear Bad (IsNamedPart LongerFirst (colon_pieces t) s u) r p
three_clear Bad at f.KeyGet3 s t u r p = text_clear Bad (IsNamedPart ShorterSegmentFirst (brace_pieces t) s u) r p
three_clear Bad at _ s t u r e = same_clear Bad r (answers.fails Kind at) e (inl refl)

pub truth_at_clear : (Bad : ℕ → Type 0) (at : ℕ) (d : Datum) → IsClear Bad (truth_at at d)
truth_at_clear Bad at (datum.truth b) = tt
truth_at_clear Bad at _ = inl refl

-- the outcome is no fault of a pattern, or at a place of which this is said
abbrev pub IsClearOutcome : (ℕ → Type 0) → Outcome → Type 0
IsClearOutcome Bad Unmatched = ⊤
IsClearOutcome Bad (Matched allow) = ⊤
IsClearOutcome Bad (Failed fault) = (is_pattern fault.cause ≡ false) ⊎ Bad fault.at

-- each of these outcomes is such, at its row
abbrev pub AreClearOutcomes : (Option ℕ → ℕ → Type 0) → List Taken → Type 0
AreClearOutcomes Bad [] = ⊤
AreClearOutcomes Bad (taken ∷ others) = IsClearOutcome (Bad taken.0) taken.1 × AreClearOutcomes Bad others

-- an outcome that is there is such
abbrev IsClearFound : (Option ℕ → ℕ → Type 0) → Option Taken → Type 0
IsClearFound Bad (Some taken) = IsClearOutcome (Bad taken.0) taken.1
IsClearFound Bad None = ⊤

-- the verdict is no fault of a pattern, or one at a row and a place of which this is said
abbrev pub IsClearVerdict : (Option ℕ → ℕ → Type 0) → Verdict → Type 0
IsClearVerdict Bad v = (is_refusal v ≡ false) ⊎ ((row : Option ℕ) × (at : ℕ) × Bad row at × (v ≡ verdicts.Fault row (record { cause = Pattern; at = at })))

pub outcome_of_clear : (Bad : ℕ → Type 0) (t : Result Bool Fault) (word : Option Bool) → IsClear Bad t → IsClearOutcome Bad (outcome_of t word)
outcome_of_clear Bad (Err failed) word clear = clear
outcome_of_clear Bad (Ok false) word clear = tt
outcome_of_clear Bad (Ok true) None clear = tt
outcome_of_clear Bad (Ok true) (Some word) clear = tt

pub find_clear : (Bad : Option ℕ → ℕ → Type 0) (test : Taken → Bool) (outcomes : List Taken) → AreClearOutcomes Bad outcomes → IsClearFound Bad (find test outcomes)
find_clear Bad test [] clear = tt
find_clear Bad test (taken ∷ others) clear = go (test taken) (find_clear Bad test others clear.1)
  where
    go : (b : Bool) → IsClearFound Bad (find test others) → IsClearFound Bad (cond b (Some taken) (find test others))
    go true later = clear.0
    go false later = later

by_cause : (Bad : Option ℕ → ℕ → Type 0) (row : Option ℕ) (cause : Cause) (at : ℕ) → Bad row at → IsClearVerdict Bad (verdicts.Fault row (record { cause = cause; at = at }))
by_cause Bad row Pattern at bad = inr (row, at, bad, refl)
by_cause Bad row Kind at bad = inl refl
by_cause Bad row NoAttribute at bad = inl refl
by_cause Bad row Overflow at bad = inl refl
by_cause Bad row ZeroDivisor at bad = inl refl
by_cause Bad row BadAddress at bad = inl refl
by_cause Bad row BadBlock at bad = inl refl
by_cause Bad row RuleText at bad = inl refl

settled_by_clear : (Bad : Option ℕ → ℕ → Type 0) (row : Option ℕ) (outcome : Outcome) → IsClearOutcome (Bad row) outcome → IsClearVerdict Bad (settled_by row outcome)
settled_by_clear Bad row (Failed fault) (inl clear) = inl clear
settled_by_clear Bad row (Failed fault) (inr bad) = by_cause Bad row fault.cause fault.at bad
settled_by_clear Bad row (Matched true) clear = inl refl
settled_by_clear Bad row (Matched false) clear = inl refl
settled_by_clear Bad row Unmatched clear = inl refl

unsettled_clear : (e : Effect) (outcomes : List Taken) → is_refusal (unsettled e outcomes) ≡ false
unsettled_clear effect.AllowOverride outcomes = refl
unsettled_clear effect.DenyOverride outcomes = refl
unsettled_clear effect.AllowAndDeny outcomes = go (find allows outcomes)
  where
    go : (taken : Option Taken) → is_refusal (allow_by taken) ≡ false
    go (Some taken) = refl
    go None = refl
unsettled_clear effect.Priority outcomes = refl
unsettled_clear effect.SubjectPriority outcomes = refl

pub verdict_at_clear : (Bad : Option ℕ → ℕ → Type 0) (e : Effect) (outcomes : List Taken) (taken : Option Taken) → IsClearFound Bad taken → IsClearVerdict Bad (verdict_at e outcomes taken)
verdict_at_clear Bad e outcomes (Some taken) clear = settled_by_clear Bad taken.0 taken.1 clear
verdict_at_clear Bad e outcomes None clear = inl (unsettled_clear e outcomes)
