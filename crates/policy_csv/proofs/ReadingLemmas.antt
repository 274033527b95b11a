-- The lines of a policy's text, read from the first: the tables that they fill, or the first fault.
use Rattle.std.proofs.Common.{◌≡◌, ◌≢◌, ℕ, List, [], ◌∷◌, ◌++◌, length, Option, Some, None, Result, Ok, Err, refl, sym, ap, ◌∙◌}
use Rattle.perm_base.specs.declared.shapes.Shapes.{Shapes}
use Rattle.policy_csv.proofs.GrowthLemmas.{passed_before}
use Rattle.policy_csv.proofs.LineFaultLemmas.{LineMeets, line_meets, line_says, says_fault, says_rule}
use Rattle.policy_csv.proofs.PutLemmas.{with_entry_counted}
use Rattle.policy_csv.specs.Faults.{IsLineFault, IsTextFault}
use Rattle.text_parts.specs.Full.{given_number}
use Rattle.policy_csv.specs.Policy.{SayRules, SaysRule, with_entries, with_entry}
use Rattle.policy_csv.specs.declared.entry.Entry.{Entry}
use Rattle.policy_csv.specs.declared.fault.PolicyFault.{PolicyFault}
use Rattle.policy_csv.specs.declared.fault.PolicyFault.TheVariants.{NotUtf8, Quote, UnknownTable, Columns, FieldTooLong, Full, NoMemory}
use Rattle.policy_table.specs.Limits.{passed}
use Rattle.policy_table.specs.Tables.{Policy, most_tables}
use Rattle.policy_table.specs.declared.limit.Limit.{Limit}
use Rattle.text_parts.specs.Numbered.{Line}

-- what the lines behind come to, unless a limit is passed
abbrev unless_full : (Policy → Result Policy PolicyFault) → ℕ → Policy → Option Limit → Result Policy PolicyFault
unless_full next number after None = next after
unless_full next number after (Some what) = Err (Full number what)

-- where the line says a rule
abbrev with_line : Shapes → (Policy → Result Policy PolicyFault) → ℕ → Policy → Result Entry PolicyFault → Result Policy PolicyFault
with_line shapes next number before (Ok entry) = unless_full next number (with_entry entry before) (passed shapes (with_entry entry before))
with_line shapes next number before (Err fault) = Err fault

-- the tables that these lines fill, or the first fault
unfoldable pub reading : Shapes → List Line → Policy → Result Policy PolicyFault
reading shapes [] policy = Ok policy
reading shapes (line ∷ lines) policy = with_line shapes (reading shapes lines) (given_number line.number) policy (line_says shapes (given_number line.number) line.text)

-- ---- at the first line

pub reading_none : (shapes : Shapes) (policy : Policy) → reading shapes [] policy ≡ Ok policy
unfolding reading
reading_none shapes policy = refl

module _ (shapes : Shapes) (line : Line) (lines : List Line) (before : Policy) where
  reading_by : (said : Result Entry PolicyFault) → line_says shapes (given_number line.number) line.text ≡ said → reading shapes (line ∷ lines) before ≡ with_line shapes (reading shapes lines) (given_number line.number) before said
  unfolding reading
  reading_by said e = ap (with_line shapes (reading shapes lines) (given_number line.number) before) e

  -- it says a rule
  pub reading_more : (entry : Entry) → SaysRule shapes line.text entry → passed shapes (with_entry entry before) ≡ None → reading shapes (line ∷ lines) before ≡ reading shapes lines (with_entry entry before)
  reading_more entry says none = reading_by (Ok entry) (says_rule shapes (given_number line.number) line.text entry says) ∙ ap (unless_full (reading shapes lines) (given_number line.number) (with_entry entry before)) none

  reading_full : (entry : Entry) (what : Limit) → SaysRule shapes line.text entry → passed shapes (with_entry entry before) ≡ Some what → reading shapes (line ∷ lines) before ≡ Err (Full (given_number line.number) what)
  reading_full entry what says full = reading_by (Ok entry) (says_rule shapes (given_number line.number) line.text entry says) ∙ ap (unless_full (reading shapes lines) (given_number line.number) (with_entry entry before)) full

  -- it is at fault
  at_text : (fault : PolicyFault) → IsTextFault shapes (given_number line.number) line.text fault → fault ≢ NoMemory → reading shapes (line ∷ lines) before ≡ Err fault
  at_text fault is other = reading_by (Err fault) (says_fault shapes (given_number line.number) line.text fault is other)

  pub reading_fault : (fault : PolicyFault) → IsLineFault shapes line before fault → reading shapes (line ∷ lines) before ≡ Err fault
  reading_fault NotUtf8 is = absurd is
  reading_fault (Quote at column) is = at_text (Quote at column) is (λ memory. absurd cc)
  reading_fault (UnknownTable at) is = at_text (UnknownTable at) is (λ memory. absurd cc)
  reading_fault (Columns at) is = at_text (Columns at) is (λ memory. absurd cc)
  reading_fault (FieldTooLong at) is = at_text (FieldTooLong at) is (λ memory. absurd cc)
  reading_fault (Full at what) is = reading_full is.1.entry what is.1.says is.1.full ∙ ap (λ (n : ℕ). Err (Full n what)) (sym is.0)
  reading_fault NoMemory is = absurd is

-- lines that say rules are read past
pub reading_past : (shapes : Shapes) (lines rest : List Line) (entries : List Entry) (policy : Policy) → length policy.lists ≡ most_tables → SayRules shapes lines entries → passed shapes (with_entries entries policy) ≡ None
    → reading shapes (lines ++ rest) policy ≡ reading shapes rest (with_entries entries policy)
unfolding with_entries
reading_past shapes [] rest [] policy nine says none = refl
reading_past shapes [] rest (entry ∷ entries) policy nine says none = absurd says
reading_past shapes (line ∷ lines) rest [] policy nine says none = absurd says
reading_past shapes (line ∷ lines) rest (entry ∷ entries) policy nine says none =
    let still : length (with_entry entry policy).lists ≡ most_tables = with_entry_counted entry policy ∙ nine in
    reading_more shapes line (lines ++ rest) policy entry says.0 (passed_before shapes entries (with_entry entry policy) still none) ∙ reading_past shapes lines rest entries (with_entry entry policy) still says.1 none

-- ---- what reading comes to

-- a line is at fault, behind lines that say rules
pub record StopsIn (shapes : Shapes) (lines : List Line) (policy : Policy) (fault : PolicyFault) : Type 0 where
  pub front : List Line
  pub line : Line
  pub behind : List Line
  pub entries : List Entry
  pub parts : lines ≡ front ++ line ∷ behind
  pub says : SayRules shapes front entries
  pub within : passed shapes (with_entries entries policy) ≡ None
  pub bad : IsLineFault shapes line (with_entries entries policy) fault

-- all lines say rules
pub record Fill (shapes : Shapes) (lines : List Line) (before after : Policy) : Type 0 where
  pub entries : List Entry
  pub says : SayRules shapes lines entries
  pub tables : after ≡ with_entries entries before
  pub within : passed shapes after ≡ None

abbrev pub Ends : Shapes → List Line → Policy → Result Policy PolicyFault → Type 0
Ends shapes lines policy (Ok after) = Fill shapes lines policy after
Ends shapes lines policy (Err fault) = StopsIn shapes lines policy fault

bad_line : (shapes : Shapes) (line : Line) (before : Policy) (fault : PolicyFault) → IsTextFault shapes (given_number line.number) line.text fault → fault ≢ NoMemory → IsLineFault shapes line before fault
bad_line shapes line before NotUtf8 is other = absurd is
bad_line shapes line before (Quote at column) is other = is
bad_line shapes line before (UnknownTable at) is other = is
bad_line shapes line before (Columns at) is other = is
bad_line shapes line before (FieldTooLong at) is other = is
bad_line shapes line before (Full at what) is other = absurd is
bad_line shapes line before NoMemory is other = absurd (other refl)

module _ (shapes : Shapes) (line : Line) (lines : List Line) (policy : Policy) (none : passed shapes policy ≡ None) where
  stops_here : (fault : PolicyFault) → IsLineFault shapes line policy fault → StopsIn shapes (line ∷ lines) policy fault
  unfolding with_entries
  stops_here fault bad = record {
    front = [];
    line = line;
    behind = lines;
    entries = [];
    parts = refl;
    says = tt;
    within = none;
    bad = bad;
  }

  ends_behind : (entry : Entry) → SaysRule shapes line.text entry → (read : Result Policy PolicyFault) → Ends shapes lines (with_entry entry policy) read → Ends shapes (line ∷ lines) policy read
  unfolding with_entries
  ends_behind entry says (Ok after) fill = record {
    entries = entry ∷ fill.entries;
    says = (says, fill.says);
    tables = fill.tables;
    within = fill.within;
  }
  ends_behind entry says (Err fault) stops = record {
    front = line ∷ stops.front;
    line = stops.line;
    behind = stops.behind;
    entries = entry ∷ stops.entries;
    parts = ap (λ (l : List Line). line ∷ l) stops.parts;
    says = (says, stops.says);
    within = stops.within;
    bad = stops.bad;
  }

  ends_by_limit : (next : Policy → Result Policy PolicyFault) (entry : Entry) → SaysRule shapes line.text entry → ((after : Policy) → passed shapes after ≡ None → Ends shapes lines after (next after))
      → (limit : Option Limit) → passed shapes (with_entry entry policy) ≡ limit → Ends shapes (line ∷ lines) policy (unless_full next (given_number line.number) (with_entry entry policy) limit)
  ends_by_limit next entry says rest None e = ends_behind entry says (next (with_entry entry policy)) (rest (with_entry entry policy) e)
  ends_by_limit next entry says rest (Some what) e = stops_here (Full (given_number line.number) what) (refl, record { entry = entry; says = says; full = e })

  ends_by_line : (next : Policy → Result Policy PolicyFault) → ((after : Policy) → passed shapes after ≡ None → Ends shapes lines after (next after)) → (said : Result Entry PolicyFault) → LineMeets shapes (given_number line.number) line.text said
      → Ends shapes (line ∷ lines) policy (with_line shapes next (given_number line.number) policy said)
  ends_by_line next rest (Ok entry) says = ends_by_limit next entry says rest (passed shapes (with_entry entry policy)) refl
  ends_by_line next rest (Err fault) meets = stops_here fault (bad_line shapes line policy fault meets.0 meets.1)

no_lines : (shapes : Shapes) (policy : Policy) → passed shapes policy ≡ None → Fill shapes [] policy policy
unfolding with_entries
no_lines shapes policy none = record { entries = []; says = tt; tables = refl; within = none }

pub reading_ends : (shapes : Shapes) (lines : List Line) (policy : Policy) → passed shapes policy ≡ None → Ends shapes lines policy (reading shapes lines policy)
unfolding reading
reading_ends shapes [] policy none = no_lines shapes policy none
reading_ends shapes (line ∷ lines) policy none =
    ends_by_line shapes line lines policy none (reading shapes lines) (λ after within. reading_ends shapes lines after within) (line_says shapes (given_number line.number) line.text) (line_meets shapes (given_number line.number) line.text)
