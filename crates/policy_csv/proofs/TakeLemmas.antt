-- The tables with the rule of one more line.
use Rattle.std.proofs.Common.{◌≡◌, ◌≢◌, ℕ, ◌+◌, Bool, true, false, List, [], ◌∷◌, All, length, Option, None, Err, IsTrue, refl, sym, ap, subst, ◌∙◌}
use Rattle.std.specs.Prelude.{if◌then◌else◌}
use Rattle.perm_base.specs.declared.shapes.Shapes.{Shapes}
use Rattle.perm_base.specs.declared.shapes.TableId.{TableId}
use Rattle.policy_csv.proofs.PolicyLemmas.{empty_sound, whole}
use Rattle.policy_csv.proofs.PutLemmas.{with_entry_counted, with_entry_ranked}
use Rattle.policy_csv.proofs.RankedLemmas.{ranked_entry, ranked_none, ranked_passed}
use Rattle.policy_csv.proofs.ReadingLemmas.{reading, reading_fault, reading_more}
use Rattle.policy_csv.specs.Faults.{IsLineFault, IsTextFault}
use Rattle.text_parts.specs.Full.{given_number}
use Rattle.policy_csv.specs.Helps.Entries.{IsStop}
use Rattle.policy_csv.specs.Helps.Filled.{IsFilled, TookLine, ranked_if}
use Rattle.text_parts.specs.Full.{full_lines}
use Rattle.policy_csv.specs.Policy.{SaysRule, with_entry}
use Rattle.policy_csv.specs.declared.entry.Entry.{Entry}
use Rattle.policy_csv.specs.declared.fault.PolicyFault.{PolicyFault}
use Rattle.policy_csv.specs.declared.fault.PolicyFault.TheVariants.{NotUtf8, Quote, UnknownTable, Columns, FieldTooLong, Full, NoMemory}
use Rattle.policy_table.proofs.CallerLemmas.{shapes_edited, short_edited}
use Rattle.policy_table.specs.Changes.{changed, edited}
use Rattle.policy_table.specs.Limits.{AreSound, HaveShapes, has_short_fields, passed}
use Rattle.policy_table.specs.Tables.{Fields, Policy, most_tables, rows, stands, without_rules}
use Rattle.policy_table.specs.declared.limit.Limit.{Limit}
use Rattle.policy_table.specs.declared.change.Change.{Change}
use Rattle.policy_table.specs.declared.change.Change.TheVariants.{Insert}
use Rattle.text_parts.specs.Numbered.{Line, line}

-- tables without rules are filled
pub filled_none : (shapes : Shapes) → IsFilled shapes (without_rules false)
filled_none shapes = record { nine = refl; unranked = refl; sound = subst (AreSound shapes) (sym (ranked_none shapes.ranked)) (empty_sound shapes) }

-- an edit of one change
edited_one : (change : Change) (policy : Policy) → edited (change ∷ []) policy ≡ changed change policy
unfolding edited
edited_one change policy = refl

-- a rule keeps the shapes, and no field is long
module _ (shapes : Shapes) (text : List ℕ) (entry : Entry) (before : Policy) (says : SaysRule shapes text entry) (sound : AreSound shapes before) where
  shaped : HaveShapes shapes (with_entry entry before)
  shaped = by (stands entry.rule (rows before entry.table))
    where
      by : (b : Bool) → HaveShapes shapes (if b then before else changed (Insert entry.table entry.rule) before)
      by true = sound.shaped
      by false = subst (HaveShapes shapes) (edited_one (Insert entry.table entry.rule) before) (shapes_edited shapes (Insert entry.table entry.rule ∷ []) before (says.columns, tt) sound.shaped)

  short : (table : TableId) → All (λ (rule : Fields). IsTrue (has_short_fields rule)) (rows (with_entry entry before) table)
  short table = by (stands entry.rule (rows before entry.table))
    where
      by : (b : Bool) → All (λ (rule : Fields). IsTrue (has_short_fields rule)) (rows (if b then before else changed (Insert entry.table entry.rule) before) table)
      by true = sound.short table
      by false =
          subst (λ (policy : Policy). All (λ (rule : Fields). IsTrue (has_short_fields rule)) (rows policy table)) (edited_one (Insert entry.table entry.rule) before)
          (short_edited (Insert entry.table entry.rule ∷ []) before (says.short, tt) sound.short table)

  pub sound_entry : passed shapes (with_entry entry before) ≡ None → AreSound shapes (with_entry entry before)
  sound_entry within = record { shaped = shaped; short = short; within = within }

-- the tables are filled with the rule, where no limit is passed
pub took_line : (shapes : Shapes) (text : List ℕ) (entry : Entry) (before after : Policy) → SaysRule shapes text entry → IsFilled shapes before → after ≡ with_entry entry before → passed shapes after ≡ None → TookLine shapes text before after
took_line shapes text entry before after says filled made none = record {
  entry = entry;
  says = says;
  tables = both;
  filled = record {
    nine = nine;
    unranked = ap (λ (p : Policy). p.ranked) made ∙ with_entry_ranked entry before ∙ filled.unranked;
    sound = subst (AreSound shapes) (sym both) (sound_entry shapes text entry (ranked_if shapes.ranked before) says filled.sound (ap (passed shapes) (sym both) ∙ ranked_passed shapes shapes.ranked after nine ∙ none));
  };
}
  where
    nine : length after.lists ≡ most_tables
    nine = ap (λ (p : Policy). length p.lists) made ∙ with_entry_counted entry before ∙ filled.nine

    both : ranked_if shapes.ranked after ≡ with_entry entry (ranked_if shapes.ranked before)
    both = ap (ranked_if shapes.ranked) made ∙ ranked_entry shapes.ranked entry before filled.nine filled.unranked

-- where one is passed, the ranked tables pass it
pub full_line : (shapes : Shapes) (entry : Entry) (before after : Policy) (limit : Option Limit) → IsFilled shapes before → after ≡ with_entry entry before → limit ≡ passed shapes after → passed shapes (with_entry entry (ranked_if shapes.ranked before)) ≡ limit
full_line shapes entry before after limit filled made told =
    ap (passed shapes) (sym (ranked_entry shapes.ranked entry before filled.nine filled.unranked))
    ∙ ranked_passed shapes shapes.ranked (with_entry entry before) (with_entry_counted entry before ∙ filled.nine) ∙ ap (passed shapes) (sym made) ∙ sym told

-- a fault of the text alone is one of the line
pub text_stop : (shapes : Shapes) (number : ℕ) (text : List ℕ) (before : Policy) (fault : PolicyFault) → IsTextFault shapes number text fault → IsStop shapes number text before fault
text_stop shapes number text before NotUtf8 is = is
text_stop shapes number text before (Quote at column) is = is
text_stop shapes number text before (UnknownTable at) is = is
text_stop shapes number text before (Columns at) is = is
text_stop shapes number text before (FieldTooLong at) is = is
text_stop shapes number text before (Full at what) is = absurd is
text_stop shapes number text before NoMemory is = is

stop_fault : (shapes : Shapes) (l : Line) (before : Policy) (fault : PolicyFault) → IsStop shapes (given_number l.number) l.text before fault → fault ≢ NoMemory → IsLineFault shapes l before fault
stop_fault shapes l before NotUtf8 is other = is
stop_fault shapes l before (Quote at column) is other = is
stop_fault shapes l before (UnknownTable at) is other = is
stop_fault shapes l before (Columns at) is other = is
stop_fault shapes l before (FieldTooLong at) is other = is
stop_fault shapes l before (Full at what) is other = is
stop_fault shapes l before NoMemory is other = absurd (other refl)

-- the step of the reader at a line that says a rule
module _ (shapes : Shapes) (bytes rest text behind : List ℕ) (from at : ℕ) (before : Policy) (reads : reading shapes (full_lines from rest) before ≡ whole shapes bytes) (first : full_lines from rest ≡ line at text ∷ full_lines (at + 1) behind) where
  pub read_on : (unranked after : Policy) → before ≡ ranked_if shapes.ranked unranked → TookLine shapes text unranked after → reading shapes (full_lines (at + 1) behind) (ranked_if shapes.ranked after) ≡ whole shapes bytes
  read_on unranked after same took =
      let made : ranked_if shapes.ranked after ≡ with_entry took.entry before = took.tables ∙ ap (with_entry took.entry) (sym same) in
      let none : passed shapes (with_entry took.entry before) ≡ None = ap (passed shapes) (sym made) ∙ took.filled.sound.within in
      ap (reading shapes (full_lines (at + 1) behind)) made ∙ sym (reading_more shapes (line at text) (full_lines (at + 1) behind) before took.entry took.says none)
      ∙ ap (λ (lines : List Line). reading shapes lines before) (sym first) ∙ reads

  -- and at one that is at fault
  pub read_stop : (number : ℕ) (fault : PolicyFault) → number ≡ given_number (line at text).number → IsStop shapes number text before fault → fault ≢ NoMemory → whole shapes bytes ≡ Err fault
  read_stop number fault given is other =
      let stop = stop_fault shapes (line at text) before fault (subst (λ (n : ℕ). IsStop shapes n text before fault) given is) other in
      sym reads ∙ ap (λ (lines : List Line). reading shapes lines before) first ∙ reading_fault shapes (line at text) (full_lines (at + 1) behind) before fault stop
