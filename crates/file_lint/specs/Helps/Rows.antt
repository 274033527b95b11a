-- What the steps over a policy's lines give; only private functions cite this.
use Rattle.std.specs.Prelude.{◌≡◌, ◌≢◌, ℕ, ◌+◌, ◌<◌, ◌^◌, ◌⊎◌, List, [], ◌∷◌, ◌++◌, Option, Some, None, flat_map, length}
use Rattle.std.specs.List.{AllZip}
use Rattle.model_conf.specs.ModelText.{ModelParts}
use Rattle.perm_base.specs.declared.shapes.Shapes.{Shapes}
use Rattle.perm_base.specs.declared.shapes.TableId.{TableId}
use Rattle.policy_csv.specs.Faults.{IsTextFault}
use Rattle.policy_csv.specs.Policy.{SaysRule, with_entry}
use Rattle.policy_csv.specs.declared.entry.Entry.{Entry}
use Rattle.policy_csv.specs.declared.fault.PolicyFault.{PolicyFault}
use Rattle.policy_csv.specs.declared.fault.PolicyFault.TheVariants.{NoMemory}
use Rattle.policy_table.specs.Tables.{Fields, Policy, rows}
use Rattle.text_parts.specs.Full.{given_number}
use Rattle.text_parts.specs.Numbered.{Line}
use Rattle.file_lint.specs.PolicyErrors.{told_in}
use Rattle.file_lint.specs.PolicyWords.{policy_error}
use Rattle.file_lint.specs.RowWarnings.{LookedFinds, RowFinds}
use Rattle.file_lint.specs.declared.finding.Finding.{Finding}
use Rattle.file_lint.specs.declared.nodes.Looked.{Looked}
use Rattle.file_lint.specs.declared.row.Row.{Row}

-- a line in memory, by its number and text
abbrev pub row_line : Row → Line
row_line row = record { number = row.number; text = row.text.now }

-- findings were put behind others, of which this holds
abbrev pub FindsMore : (List Finding → Type 0) → List Finding → List Finding → Type 0
FindsMore Finds before after = (found : List Finding) × Finds found × (after ≡ before ++ found)

-- what the fields of these columns surprise by, one after the other
abbrev pub AreFound : ModelParts → Line → Fields → List Looked → List Finding → Type 0
AreFound model line rule looked found =
    (pieces : List (List Finding)) × AllZip (LookedFinds model line rule) looked pieces × (found ≡ flat_map (λ (piece : List Finding). piece) pieces)

-- each table has room for one more rule
abbrev pub AreFewer : Policy → Type 0
AreFewer policy = (table : TableId) → length (rows policy table) + 1 < 2 ^ 32

-- a line by itself: the warnings of its rule, which is kept, or its own fault
abbrev pub LineFinds : ModelParts → Shapes → Line → Policy → Policy → List Finding → List Finding → Type 0
LineFinds model shapes line before after findings now =
    ((entry : Entry) × SaysRule shapes line.text entry × (after ≡ with_entry entry before) × FindsMore (RowFinds model shapes before line entry) findings now)
    ⊎ ((why : PolicyFault) × (why ≢ NoMemory) × IsTextFault shapes (given_number line.number) line.text why × (after ≡ before) × (now ≡ findings ++ policy_error model why line ∷ []))

-- a line: the first fault of the text, where it is this line's, and else what it has by itself
abbrev pub LineTells : ModelParts → Shapes → Option PolicyFault → Line → Policy → Policy → List Finding → List Finding → Type 0
LineTells model shapes first line before after findings now =
    ((why : PolicyFault) × (told_in first (given_number line.number) ≡ Some why) × (after ≡ before) × (now ≡ findings ++ policy_error model why line ∷ []))
    ⊎ ((told_in first (given_number line.number) ≡ None) × LineFinds model shapes line before after findings now)
