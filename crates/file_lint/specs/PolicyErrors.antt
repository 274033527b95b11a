-- The findings of a policy's text: the errors of its lines, of which the first is the fault that `read_policy` tells, and the warnings of its rules.
use Rattle.std.specs.Prelude.{◌≡◌, ◌≢◌, ℕ, ◌==◌, false, List, [], ◌∷◌, ◌++◌, Option, Some, None, if◌then◌else◌}
use Rattle.model_conf.specs.ModelText.{ModelParts}
use Rattle.perm_base.specs.declared.shapes.Shapes.{Shapes}
use Rattle.policy_csv.specs.Faults.{IsPolicyFault, IsTextFault}
use Rattle.policy_csv.specs.Lines.{policy_lines}
use Rattle.policy_csv.specs.Policy.{IsPolicy, SaysRule, with_entry}
use Rattle.policy_csv.specs.declared.entry.Entry.{Entry}
use Rattle.policy_csv.specs.declared.fault.PolicyFault.{PolicyFault}
use Rattle.policy_csv.specs.declared.fault.PolicyFault.TheVariants as fault
use Rattle.policy_table.specs.Tables.{Policy, without_rules}
use Rattle.text_parts.specs.Full.{given_number}
use Rattle.text_parts.specs.Numbered.{Line, line}
use Rattle.file_lint.specs.PolicyWords.{policy_error}
use Rattle.file_lint.specs.RowWarnings.{RowFinds}
use Rattle.file_lint.specs.declared.finding.Finding.{Finding}

-- the line of a fault; one of the bytes has none
abbrev pub line_of : PolicyFault → Option ℕ
line_of fault.NotUtf8 = None
line_of (fault.Quote number column) = Some number
line_of (fault.UnknownTable number) = Some number
line_of (fault.Columns number) = Some number
line_of (fault.FieldTooLong number) = Some number
line_of (fault.Full number what) = Some number
line_of fault.NoMemory = None

-- the fault, where it is that of the line of this number
abbrev pub if_of_line : ℕ → PolicyFault → Option ℕ → Option PolicyFault
if_of_line number first None = None
if_of_line number first (Some at) = if at == number then Some first else None

abbrev pub told_in : Option PolicyFault → ℕ → Option PolicyFault
told_in None number = None
told_in (Some first) number = if_of_line number first (line_of first)

-- the findings of lines, behind the rules of these tables: of the line of the first fault that fault; of any other that says a rule its warnings, and else the fault that it has by itself, for which no limit counts
pub data LintsLines (model : ModelParts) (shapes : Shapes) (first : Option PolicyFault) : Policy → List Line → List Finding → Type 0 where
  no_line : {before : Policy} → LintsLines model shapes first before [] []
  told : {before : Policy} {next : Line} {lines : List Line} {others : List Finding} (why : PolicyFault) → told_in first (given_number next.number) ≡ Some why
      → LintsLines model shapes first before lines others → LintsLines model shapes first before (next ∷ lines) (policy_error model why next ∷ others)
  rule : {before : Policy} {next : Line} {lines : List Line} {found others : List Finding} (entry : Entry) → told_in first (given_number next.number) ≡ None → SaysRule shapes next.text entry
      → RowFinds model shapes before next entry found → LintsLines model shapes first (with_entry entry before) lines others → LintsLines model shapes first before (next ∷ lines) (found ++ others)
  at_fault : {before : Policy} {next : Line} {lines : List Line} {others : List Finding} (why : PolicyFault) → told_in first (given_number next.number) ≡ None
      → why ≢ fault.NoMemory → IsTextFault shapes (given_number next.number) next.text why → LintsLines model shapes first before lines others
      → LintsLines model shapes first before (next ∷ lines) (policy_error model why next ∷ others)

-- what `read_policy` says of the text: no fault, or its first
abbrev pub HasFirst : Shapes → List ℕ → Option PolicyFault → Type 0
HasFirst shapes bytes None = (policy : Policy) × IsPolicy shapes bytes policy
HasFirst shapes bytes (Some first) = IsPolicyFault shapes bytes first

-- the findings of a text by its first fault; one that is not UTF-8 has no lines
abbrev pub FindsBy : ModelParts → Shapes → List ℕ → Option PolicyFault → List Finding → Type 0
FindsBy model shapes bytes (Some fault.NotUtf8) findings = findings ≡ policy_error model fault.NotUtf8 (line 1 []) ∷ []
FindsBy model shapes bytes first findings = LintsLines model shapes first (without_rules false) (policy_lines bytes) findings

-- the findings of a text in the order of their places, and its first fault
pub record LintsPolicy (model : ModelParts) (shapes : Shapes) (bytes : List ℕ) (first : Option PolicyFault) (findings : List Finding) : Type 0 where
  pub has : HasFirst shapes bytes first
  pub finds : FindsBy model shapes bytes first findings
