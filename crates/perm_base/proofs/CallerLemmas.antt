-- What callers cite.
pub use Rattle.perm_base.proofs.BehindLemmas.{behind_both, behind_more}
pub use Rattle.perm_base.proofs.FieldLineLemmas.{LineIs, fields_of-fault, fields_of-is, line_is}
pub use Rattle.perm_base.proofs.LastLemmas.{front_of, last_before, last_here}
pub use Rattle.perm_base.proofs.PlainLemmas.{take_take}
pub use Rattle.perm_base.proofs.PrintLemmas.{printed_is}
pub use Rattle.perm_base.proofs.QuotedLemmas.{begin_fields, fault_passes, field_fault, field_last, field_more, no_room}
pub use Rattle.perm_base.proofs.RoleLemmas.{found_number}
pub use Rattle.perm_base.proofs.TableLemmas.{name_from_named, named_from_name, plain_name}
pub use Rattle.perm_base.proofs.WrittenLemmas.{first_read}
use Rattle.std.proofs.Common.{◌≡◌, ℕ, ◌+◌, false, List, [], Option, Some, None, refl, sym, ◌∙◌, true≢false}
use Rattle.std.specs.List.{list_any}
use Rattle.std.specs.Prelude.{option_map, position}
use Rattle.std.proofs.lemmas.List.Folds.{list_any_at}
use Rattle.std.proofs.lemmas.List.Quantifiers.{position-Some}
use Rattle.perm_base.specs.LineEnds.{has_line_end}
use Rattle.perm_base.specs.Rule.{IsFirstLineEnd}
use Rattle.perm_base.specs.declared.rule.RuleFault.{RuleFault}
use Rattle.perm_base.specs.declared.rule.RuleFault.TheVariants.{LineEnd}

-- fields without line ends are a rule
pub no_line_end : (fields : List (List ℕ)) (fault : RuleFault) → list_any has_line_end fields ≡ false → IsFirstLineEnd fields fault → ⊥
no_line_end fields (LineEnd field) none is = by (position has_line_end fields) refl is
  where
    by : (place : Option ℕ) → position has_line_end fields ≡ place → option_map (λ (at : ℕ). at + 1) place ≡ Some field → ⊥
    by None e found = absurd cc
    by (Some at) e found =
        let first = position-Some has_line_end fields at [] e in
        true≢false (sym (list_any_at has_line_end fields at [] first.0 first.1) ∙ none)
