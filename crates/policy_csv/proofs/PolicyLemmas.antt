-- A text of bytes is a policy or has a first fault, as reading its lines comes to.
use Rattle.std.proofs.Common.{◌≡◌, ◌≢◌, ◌⊎◌, inl, inr, ℕ, List, [], ◌∷◌, append-nil, Result, Ok, Err, refl, sym, ap, subst, ◌∙◌}
use Rattle.std.specs.Prelude.{IsUtf8}
use Rattle.perm_base.specs.declared.shapes.Shapes.{Shapes}
use Rattle.policy_csv.proofs.CountLemmas.{rows_none}
use Rattle.policy_csv.proofs.ReadingLemmas.{Ends, reading, reading_ends, reading_fault, reading_none, reading_past}
use Rattle.policy_csv.specs.Faults.{IsFaultInLine, IsPolicyFault}
use Rattle.policy_csv.specs.Faults.IsPolicyFault.{in_line, not_utf8}
use Rattle.policy_csv.specs.Lines.{policy_lines}
use Rattle.policy_csv.specs.Policy.{IsPolicy, filled}
use Rattle.policy_csv.specs.declared.fault.PolicyFault.{PolicyFault}
use Rattle.policy_csv.specs.declared.fault.PolicyFault.TheVariants.{NotUtf8, Quote, UnknownTable, Columns, FieldTooLong, Full, NoMemory}
use Rattle.policy_table.proofs.CallerLemmas.{empty_is_sound}
use Rattle.policy_table.specs.Limits.{AreSound, passed}
use Rattle.policy_table.specs.Tables.{Policy, without_rules}
use Rattle.text_parts.proofs.ReaderLemmas.{IsRead, no_stop}

-- what reading the text comes to
abbrev pub whole : Shapes → List ℕ → Result Policy PolicyFault
whole shapes bytes = reading shapes (policy_lines bytes) (without_rules shapes.ranked)

pub empty_sound : (shapes : Shapes) → AreSound shapes (without_rules shapes.ranked)
empty_sound shapes = empty_is_sound shapes (without_rules shapes.ranked) refl (rows_none shapes.ranked)

module _ (shapes : Shapes) (bytes : List ℕ) where
  whole_ends : Ends shapes (policy_lines bytes) (without_rules shapes.ranked) (whole shapes bytes)
  whole_ends = reading_ends shapes (policy_lines bytes) (without_rules shapes.ranked) (empty_sound shapes).within

  -- ---- what the text says is what reading gives

  policy_read : (policy : Policy) → IsPolicy shapes bytes policy → whole shapes bytes ≡ Ok policy
  policy_read policy is =
      ap (λ lines. reading shapes lines (without_rules shapes.ranked)) (sym (append-nil (policy_lines bytes)))
      ∙ reading_past shapes (policy_lines bytes) [] is.entries (without_rules shapes.ranked) refl is.lines (ap (passed shapes) (sym is.tables) ∙ is.within)
      ∙ reading_none shapes (filled shapes is.entries) ∙ ap (λ (p : Policy). Ok p) (sym is.tables)

  fault_read : (fault : PolicyFault) → IsFaultInLine shapes bytes fault → whole shapes bytes ≡ Err fault
  fault_read fault is =
      ap (λ lines. reading shapes lines (without_rules shapes.ranked)) is.parts ∙ reading_past shapes is.front (is.line ∷ is.behind) is.entries (without_rules shapes.ranked) refl is.says is.within
      ∙ reading_fault shapes is.line is.behind (filled shapes is.entries) fault is.bad

  -- ---- and the other way

  ends_at : (read : Result Policy PolicyFault) → whole shapes bytes ≡ read → Ends shapes (policy_lines bytes) (without_rules shapes.ranked) read
  ends_at read e = subst (Ends shapes (policy_lines bytes) (without_rules shapes.ranked)) e whole_ends

  read_policy_is : (policy : Policy) → IsUtf8 bytes → whole shapes bytes ≡ Ok policy → IsPolicy shapes bytes policy
  read_policy_is policy utf8 e =
      let fill = ends_at (Ok policy) e in
      record {
        utf8 = utf8;
        entries = fill.entries;
        lines = fill.says;
        tables = fill.tables;
        within = fill.within;
      }

  read_fault_is : (fault : PolicyFault) → IsUtf8 bytes → whole shapes bytes ≡ Err fault → IsPolicyFault shapes bytes fault
  read_fault_is fault utf8 e =
      let stops = ends_at (Err fault) e in
      in_line utf8 (record {
        front = stops.front;
        line = stops.line;
        behind = stops.behind;
        entries = stops.entries;
        parts = stops.parts;
        says = stops.says;
        within = stops.within;
        bad = stops.bad;
      })

  fault_met : (fault : PolicyFault) → IsPolicyFault shapes bytes fault → (IsUtf8 bytes × (whole shapes bytes ≡ Err fault)) ⊎ ((¬ (IsUtf8 bytes)) × (fault ≡ NotUtf8))
  fault_met fault (not_utf8 none e) = inr (none, e)
  fault_met fault (in_line utf8 in_one) = inl (utf8, fault_read fault in_one)

  pub text_read : IsRead bytes (whole shapes bytes) NotUtf8 (IsPolicy shapes bytes) (IsPolicyFault shapes bytes)
  text_read = record {
    utf8 = λ policy is. is.utf8;
    read = policy_read;
    says = read_policy_is;
    met = fault_met;
    has = read_fault_is;
    no_text = λ none. not_utf8 none refl;
  }

  -- ---- where reading has stopped, and memory may have run out

  pub only_memory : (fault : PolicyFault) (policy : Policy) → (fault ≢ NoMemory → whole shapes bytes ≡ Err fault) → IsPolicy shapes bytes policy → fault ≡ NoMemory
  only_memory fault policy stop is = by fault stop
    where
      none : (f : PolicyFault) → whole shapes bytes ≡ Err f → ⊥
      none f e = no_stop text_read f policy e is

      by : (f : PolicyFault) → (f ≢ NoMemory → whole shapes bytes ≡ Err f) → f ≡ NoMemory
      by NotUtf8 s = absurd (none NotUtf8 (s (λ memory. absurd cc)))
      by (Quote at column) s = absurd (none (Quote at column) (s (λ memory. absurd cc)))
      by (UnknownTable at) s = absurd (none (UnknownTable at) (s (λ memory. absurd cc)))
      by (Columns at) s = absurd (none (Columns at) (s (λ memory. absurd cc)))
      by (FieldTooLong at) s = absurd (none (FieldTooLong at) (s (λ memory. absurd cc)))
      by (Full at what) s = absurd (none (Full at what) (s (λ memory. absurd cc)))
      by NoMemory s = refl
