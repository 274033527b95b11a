-- What the fields of a rule surprise by, one after the other, and what a line comes to.
use Rattle.std.proofs.Common.{◌≡◌, ◌≢◌, ℕ, Bool, true, false, List, [], ◌∷◌, ◌++◌, Option, Some, None, inl, inr, append_assoc, append-nil, refl, sym, ap, subst, ◌∙◌}
use Rattle.std.specs.Prelude.{IfSome, MatchBool, OnOk, Result, Ok, Err, flat_map, is_some, if◌then◌else◌}
use Rattle.std.specs.List.{AllZip}
use Rattle.ip_match.specs.Blocks.{IsBlock}
use Rattle.ip_match.specs.declared.block.Block.{Block as IpBlock}
use Rattle.model_conf.specs.ModelText.{ModelParts}
use Rattle.outside.specs.declared.fault.NoMemory.{NoMemory as NoMem}
use Rattle.perm_base.specs.declared.shapes.Shapes.{Shapes}
use Rattle.perm_base.specs.declared.shapes.TableId.{TableId}
use Rattle.perm_base.specs.declared.shapes.TableId.TheVariants.{P}
use Rattle.policy_csv.specs.Faults.{IsTextFault}
use Rattle.policy_csv.specs.Policy.{SaysRule, with_entry}
use Rattle.policy_csv.specs.declared.entry.Entry.{Entry}
use Rattle.policy_csv.specs.declared.fault.PolicyFault.{PolicyFault}
use Rattle.policy_csv.specs.declared.fault.PolicyFault.TheVariants.{NoMemory}
use Rattle.policy_table.specs.Tables.{Fields, Policy}
use Rattle.text_parts.specs.Full.{given_number}
use Rattle.text_parts.specs.Numbered.{Line}
use Rattle.file_lint.specs.Findings.{in_order}
use Rattle.file_lint.specs.Nodes.{looked_in}
use Rattle.file_lint.specs.PolicyErrors.{told_in}
use Rattle.file_lint.specs.PolicyWords.{policy_error}
use Rattle.file_lint.specs.RowWarnings.{AreLooked, IsLookedAt, LookedFinds, RowFinds, Surprises, own_warnings, repeat_warnings}
use Rattle.file_lint.specs.declared.finding.Finding.{Finding}
use Rattle.file_lint.specs.declared.nodes.Looked.{Looked}
use Rattle.file_lint.specs.Helps.Rows.{AreFound, FindsMore, LineFinds, LineTells}

-- no column
pub found_none : (model : ModelParts) (line : Line) (rule : Fields) (looked : List Looked) (before : List Finding) → looked ≡ [] → FindsMore (AreFound model line rule looked) before before
found_none model line rule looked before none = subst (λ (l : List Looked). FindsMore (AreFound model line rule l) before before) (sym none) ([], ([], tt, refl), sym (append-nil before))

-- one column, and those behind it
pub found_first : (model : ModelParts) (line : Line) (rule : Fields) (looked others : List Looked) (look : Looked) (before mid after : List Finding) → looked ≡ look ∷ others → FindsMore (LookedFinds model line rule look) before mid
    → FindsMore (AreFound model line rule others) mid after → FindsMore (AreFound model line rule looked) before after
found_first model line rule looked others look before mid after cut (piece, finds, more) (found, (pieces, each, is), grown) =
    subst (λ (l : List Looked). FindsMore (AreFound model line rule l) before after) (sym cut)
    (piece ++ found, (piece ∷ pieces, (finds, each), ap (λ (l : List Finding). piece ++ l) is), grown ∙ ap (λ (l : List Finding). l ++ found) more ∙ append_assoc before piece found)

-- what the fields of a rule of p surprise by, as its table says it
pub looked_told : (model : ModelParts) (line : Line) (rule : Fields) (table : TableId) (looked : List Looked) (before after : List Finding) (result : Result (Unit {0}) NoMem) → table ≡ P → looked ≡ looked_in model
    → OnOk result (FindsMore (AreFound model line rule looked) before after) → OnOk result (FindsMore (AreLooked model line rule table) before after)
looked_told model line rule table looked before after (Err e) own all finds = tt
looked_told model line rule table looked before after (Ok done) own all finds =
    subst (λ (t : TableId). FindsMore (AreLooked model line rule t) before after) (sym own) (by (subst (λ (l : List Looked). FindsMore (AreFound model line rule l) before after) all finds))
  where
    by : FindsMore (AreFound model line rule (looked_in model)) before after → FindsMore (IsLookedAt model line rule) before after
    by (found, (pieces, each, is), grown) = (found, record { pieces = pieces; each = each; together = is }, grown)

-- the warnings of a rule, step after step
pub row_found : (model : ModelParts) (shapes : Shapes) (before : Policy) (line : Line) (entry : Entry) (repeats own whole ordered old now : List Finding) (result : Result (Unit {0}) NoMem)
    → repeats ≡ repeat_warnings before line entry → own ≡ repeats ++ own_warnings model shapes before line entry entry.table → FindsMore (AreLooked model line entry.rule entry.table) own whole → ordered ≡ in_order whole
    → OnOk result (now ≡ old ++ ordered) → OnOk result (FindsMore (RowFinds model shapes before line entry) old now)
row_found model shapes before line entry repeats own whole ordered old now (Err e) first second third order grown = tt
row_found model shapes before line entry repeats own whole ordered old now (Ok done) first second (looked, are, more) order grown =
    (ordered, record { looked = looked; are_looked = are; all = order ∙ ap in_order (more ∙ ap (λ (l : List Finding). l ++ looked) (second ∙ ap (λ (l : List Finding). l ++ own_warnings model shapes before line entry entry.table) first)) }, grown)

-- a line that says a rule, and one that has a fault of its own
pub entry_judged : (model : ModelParts) (shapes : Shapes) (line : Line) (before after : Policy) (findings now : List Finding) (entry : Entry) (result : Result (Unit {0}) NoMem) → SaysRule shapes line.text entry
    → OnOk result (after ≡ with_entry entry before) → OnOk result (FindsMore (RowFinds model shapes before line entry) findings now) → OnOk result (LineFinds model shapes line before after findings now)
entry_judged model shapes line before after findings now entry (Err e) says kept finds = tt
entry_judged model shapes line before after findings now entry (Ok done) says kept finds = inl (entry, says, kept, finds)

pub fault_judged : (model : ModelParts) (shapes : Shapes) (line : Line) (before : Policy) (findings now : List Finding) (why : PolicyFault) (result : Result (Unit {0}) NoMem)
    → IsTextFault shapes (given_number line.number) line.text why → OnOk result (why ≢ NoMemory) → OnOk result (now ≡ findings ++ policy_error model why line ∷ []) → OnOk result (LineFinds model shapes line before before findings now)
fault_judged model shapes line before findings now why (Err e) is known grown = tt
fault_judged model shapes line before findings now why (Ok done) is known grown = inr (why, known, is, refl, grown)

-- a line of which no fault is told, and one of which the told fault is pushed
pub line_by_itself : (model : ModelParts) (shapes : Shapes) (first : Option PolicyFault) (line : Line) (before after : Policy) (findings now : List Finding) (number : ℕ) (result : Result (Unit {0}) NoMem) → number ≡ given_number line.number
    → None ≡ told_in first number → OnOk result (LineFinds model shapes line before after findings now) → OnOk result (LineTells model shapes first line before after findings now)
line_by_itself model shapes first line before after findings now number (Err e) same none finds = tt
line_by_itself model shapes first line before after findings now number (Ok done) same none finds = inr (sym (none ∙ ap (told_in first) same), finds)

pub line_at_fault : (model : ModelParts) (shapes : Shapes) (first : Option PolicyFault) (line : Line) (before after : Policy) (findings now : List Finding) (number : ℕ) (why : PolicyFault) → number ≡ given_number line.number → Some why ≡ told_in first number
    → after ≡ before → now ≡ findings ++ policy_error model why line ∷ [] → LineTells model shapes first line before after findings now
line_at_fault model shapes first line before after findings now number why same is kept grown = inl (why, sym (is ∙ ap (told_in first) same), kept, grown)

-- a field that does not surprise, and one that does
pub no_surprise : (good bad : Type 0) (found : Finding) (before : List Finding) (fine : Bool) → MatchBool fine good bad → fine ≡ true → FindsMore (Surprises good bad found) before before
no_surprise good bad found before fine says is = ([], inl (subst (λ (b : Bool). MatchBool b good bad) is says, refl), sym (append-nil before))

pub surprise : (good bad : Type 0) (found : Finding) (before after : List Finding) (fine : Bool) → MatchBool fine good bad → fine ≡ false → after ≡ before ++ found ∷ [] → FindsMore (Surprises good bad found) before after
surprise good bad found before after fine says is grown = (found ∷ [], inr (subst (λ (b : Bool). MatchBool b good bad) is says, refl), grown)

-- the same of a field with a test
pub told_not : (test : Bool) (found : Finding) (before : List Finding) → test ≡ false → FindsMore (λ (findings : List Finding). findings ≡ (if test then found ∷ [] else [])) before before
told_not test found before is = ([], ap (λ (b : Bool). if b then found ∷ [] else []) (sym is), sym (append-nil before))

pub told_so : (test : Bool) (found : Finding) (before after : List Finding) → test ≡ true → after ≡ before ++ found ∷ [] → FindsMore (λ (findings : List Finding). findings ≡ (if test then found ∷ [] else [])) before after
told_so test found before after is grown = (found ∷ [], ap (λ (b : Bool). if b then found ∷ [] else []) (sym is), grown)

-- a text writes a block where one is read
pub block_told : (text bytes : List ℕ) (o : Option IpBlock) (read : Bool) → bytes ≡ text → read ≡ is_some o → IfSome o (IsBlock bytes) → ((block : IpBlock) → IsBlock bytes block → o ≡ Some block)
    → MatchBool read ((block : IpBlock) × IsBlock text block) ((block : IpBlock) → ¬ (IsBlock text block))
block_told text bytes o read same is says only = subst (λ (t : List ℕ). MatchBool read ((block : IpBlock) × IsBlock t block) ((block : IpBlock) → ¬ (IsBlock t block))) same (by o is says only)
  where
    by : (o : Option IpBlock) → read ≡ is_some o → IfSome o (IsBlock bytes) → ((block : IpBlock) → IsBlock bytes block → o ≡ Some block)
        → MatchBool read ((block : IpBlock) × IsBlock bytes block) ((block : IpBlock) → ¬ (IsBlock bytes block))
    by None is says only = subst (λ (b : Bool). MatchBool b ((block : IpBlock) × IsBlock bytes block) ((block : IpBlock) → ¬ (IsBlock bytes block))) (sym is) (λ block of. let both : ◌≡◌ {A = Option IpBlock} None (Some block) = only block of in absurd cc)
    by (Some block) is says only = subst (λ (b : Bool). MatchBool b ((block : IpBlock) × IsBlock bytes block) ((block : IpBlock) → ¬ (IsBlock bytes block))) (sym is) (block, says)
