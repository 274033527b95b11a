-- The findings of a policy's lines, from one line to the next.
use Rattle.std.proofs.Common.{◌≡◌, ℕ, false, List, [], ◌∷◌, ◌++◌, Option, Some, None, inl, inr, append_assoc, append-nil, refl, sym, ap, subst}
use Rattle.std.specs.Prelude.{IsUtf8}
use Rattle.model_conf.specs.ModelText.{ModelParts}
use Rattle.perm_base.specs.declared.shapes.Shapes.{Shapes}
use Rattle.policy_csv.specs.Faults.{IsFaultInLine}
use Rattle.policy_csv.specs.Faults.IsPolicyFault.{in_line, not_utf8}
use Rattle.policy_csv.specs.Lines.{policy_lines}
use Rattle.policy_csv.specs.declared.fault.PolicyFault.{PolicyFault}
use Rattle.policy_csv.specs.declared.fault.PolicyFault.TheVariants.{NotUtf8, Quote, UnknownTable, Columns, FieldTooLong, Full, NoMemory}
use Rattle.policy_table.specs.Tables.{Policy, without_rules}
use Rattle.text_parts.specs.Full.{given_number}
use Rattle.text_parts.specs.Numbered.{Line, line}
use Rattle.file_lint.specs.PolicyErrors.{FindsBy, HasFirst, LintsLines, told_in}
use Rattle.file_lint.specs.PolicyErrors.LintsLines.{at_fault, no_line, rule, told}
use Rattle.file_lint.specs.PolicyWords.{policy_error}
use Rattle.file_lint.specs.declared.finding.Finding.{Finding}
use Rattle.file_lint.specs.Helps.Rows.{LineFinds, LineTells}

-- what lines behind these say of any end
abbrev pub LinesGo : ModelParts → Shapes → Option PolicyFault → Policy → List Line → List Finding → (Whole : List Finding → Type 0) → Type 0
LinesGo model shapes first before lines found Whole = (others : List Finding) → LintsLines model shapes first before lines others → Whole (found ++ others)

-- no line yet
pub lines_begin : (model : ModelParts) (shapes : Shapes) (first : Option PolicyFault) (start : Policy) (lines : List Line) (found : List Finding) → start ≡ without_rules false → found ≡ []
    → LinesGo model shapes first start lines found (LintsLines model shapes first (without_rules false) lines)
lines_begin model shapes first start lines found is none = λ others rest.
    subst (λ (l : List Finding). LintsLines model shapes first (without_rules false) lines (l ++ others)) (sym none) (subst (λ (p : Policy). LintsLines model shapes first p lines others) is rest)

-- no more lines
pub lines_end : (model : ModelParts) (shapes : Shapes) (first : Option PolicyFault) (before : Policy) (lines : List Line) (found : List Finding) (Whole : List Finding → Type 0) → lines ≡ []
    → LinesGo model shapes first before lines found Whole → Whole found
lines_end model shapes first before lines found Whole none goes =
    subst Whole (append-nil found) (goes [] (subst (λ (l : List Line). LintsLines model shapes first before l []) (sym none) no_line))

-- the line of the told fault
line_told : (model : ModelParts) (shapes : Shapes) (first : Option PolicyFault) (before : Policy) (next : Line) (lines whole : List Line) (found now : List Finding) (why : PolicyFault) (Whole : List Finding → Type 0)
    → whole ≡ next ∷ lines → told_in first (given_number next.number) ≡ Some why → now ≡ found ++ policy_error model why next ∷ []
    → LinesGo model shapes first before whole found Whole → LinesGo model shapes first before lines now Whole
line_told model shapes first before next lines whole found now why Whole cut is grown goes = λ others rest.
    let all = subst (λ (l : List Line). LintsLines model shapes first before l (policy_error model why next ∷ others)) (sym cut) (told why is rest) in
    subst (λ (l : List Finding). Whole (l ++ others)) (sym grown) (subst Whole (sym (append_assoc found (policy_error model why next ∷ []) others)) (goes (policy_error model why next ∷ others) all))

-- a line by itself
line_judged : (model : ModelParts) (shapes : Shapes) (first : Option PolicyFault) (before after : Policy) (next : Line) (lines whole : List Line) (found now : List Finding) (Whole : List Finding → Type 0)
    → whole ≡ next ∷ lines → told_in first (given_number next.number) ≡ None → LineFinds model shapes next before after found now
    → LinesGo model shapes first before whole found Whole → LinesGo model shapes first after lines now Whole
line_judged model shapes first before after next lines whole found now Whole cut none (inl (entry, says, kept, (piece, finds, grown))) goes = λ others rest.
    let behind = subst (λ (p : Policy). LintsLines model shapes first p lines others) kept rest in
    let all = subst (λ (l : List Line). LintsLines model shapes first before l (piece ++ others)) (sym cut) (rule entry none says finds behind) in
    subst (λ (l : List Finding). Whole (l ++ others)) (sym grown) (subst Whole (sym (append_assoc found piece others)) (goes (piece ++ others) all))
line_judged model shapes first before after next lines whole found now Whole cut none (inr (why, no_want, is, kept, grown)) goes = λ others rest.
    let behind = subst (λ (p : Policy). LintsLines model shapes first p lines others) kept rest in
    let all = subst (λ (l : List Line). LintsLines model shapes first before l (policy_error model why next ∷ others)) (sym cut) (at_fault why none no_want is behind) in
    subst (λ (l : List Finding). Whole (l ++ others)) (sym grown) (subst Whole (sym (append_assoc found (policy_error model why next ∷ []) others)) (goes (policy_error model why next ∷ others) all))

-- either
pub line_goes : (model : ModelParts) (shapes : Shapes) (first : Option PolicyFault) (before after : Policy) (next : Line) (lines whole : List Line) (found now : List Finding) (Whole : List Finding → Type 0)
    → whole ≡ next ∷ lines → LineTells model shapes first next before after found now
    → LinesGo model shapes first before whole found Whole → LinesGo model shapes first after lines now Whole
line_goes model shapes first before after next lines whole found now Whole cut (inl (why, is, kept, grown)) goes =
    subst (λ (p : Policy). LinesGo model shapes first p lines now Whole) (sym kept) (line_told model shapes first before next lines whole found now why Whole cut is grown goes)
line_goes model shapes first before after next lines whole found now Whole cut (inr (none, finds)) goes =
    line_judged model shapes first before after next lines whole found now Whole cut none finds goes

-- the first fault of a text that is not UTF-8, and of one that is
pub first_of_bytes : (shapes : Shapes) (bytes : List ℕ) (first : Option PolicyFault) → HasFirst shapes bytes first → ¬ (IsUtf8 bytes) → first ≡ Some NotUtf8
first_of_bytes shapes bytes None (policy, is) never = absurd (never is.utf8)
first_of_bytes shapes bytes (Some why) (not_utf8 bad same) never = ap (λ (f : PolicyFault). Some f) same
first_of_bytes shapes bytes (Some why) (in_line utf8 is) never = absurd (never utf8)

never_in_line : (shapes : Shapes) (bytes : List ℕ) → ¬ (IsFaultInLine shapes bytes NotUtf8)
never_in_line shapes bytes is = is.bad

pub first_of_lines : (shapes : Shapes) (bytes : List ℕ) (first : Option PolicyFault) → HasFirst shapes bytes first → IsUtf8 bytes → ¬ (first ≡ Some NotUtf8)
first_of_lines shapes bytes None is utf8 = λ same. absurd cc
first_of_lines shapes bytes (Some why) (not_utf8 bad same) utf8 = λ is. absurd (bad utf8)
first_of_lines shapes bytes (Some why) (in_line also is) utf8 = λ same. let own : why ≡ NotUtf8 = cc in never_in_line shapes bytes (subst (IsFaultInLine shapes bytes) own is)

-- bytes that have no lines
pub finds_bytes : (model : ModelParts) (shapes : Shapes) (bytes : List ℕ) (first : Option PolicyFault) (found : List Finding) → first ≡ Some NotUtf8 → found ≡ policy_error model NotUtf8 (line 1 []) ∷ []
    → FindsBy model shapes bytes first found
finds_bytes model shapes bytes first found is are = subst (λ (f : Option PolicyFault). FindsBy model shapes bytes f found) (sym is) are

-- the findings of lines are those of the text
pub finds_lines : (model : ModelParts) (shapes : Shapes) (bytes : List ℕ) (first : Option PolicyFault) (found : List Finding) → ¬ (first ≡ Some NotUtf8) → LintsLines model shapes first (without_rules false) (policy_lines bytes) found
    → FindsBy model shapes bytes first found
finds_lines model shapes bytes None found never is = is
finds_lines model shapes bytes (Some NotUtf8) found never is = absurd (never refl)
finds_lines model shapes bytes (Some (Quote number column)) found never is = is
finds_lines model shapes bytes (Some (UnknownTable number)) found never is = is
finds_lines model shapes bytes (Some (Columns number)) found never is = is
finds_lines model shapes bytes (Some (FieldTooLong number)) found never is = is
finds_lines model shapes bytes (Some (Full number what)) found never is = is
finds_lines model shapes bytes (Some NoMemory) found never is = is
