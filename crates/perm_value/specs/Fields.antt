-- The request that the fields of a line are: a text for each field.
use Rattle.std.specs.Prelude.{◌≡◌, ℕ, List, map}
use Rattle.perm_base.specs.FieldFaults.{HasTooMany, IsQuoteFault}
use Rattle.perm_base.specs.FieldLine.{IsFields}
use Rattle.perm_base.specs.declared.quoted.FieldFault.{FieldFault}
use Rattle.perm_base.specs.declared.quoted.FieldFault.TheVariants as field_fault
use Rattle.perm_value.specs.Datum.{Datum, text}
use Rattle.perm_value.specs.declared.request.RequestFault.{RequestFault}
use Rattle.perm_value.specs.declared.request.RequestFault.TheVariants as fault

-- the values are a text for each field of the line
pub record AreTexts (line : List ℕ) (values : List Datum) : Type 0 where
  pub fields : List (List ℕ)
  pub are_fields : IsFields line fields
  pub texts : values ≡ map text fields

-- the fault is one that a line of fields may have, and the line has it; want of memory is free
abbrev pub IsLineFault : List ℕ → RequestFault → Type 0
IsLineFault line (fault.Quote column) = IsQuoteFault line column
IsLineFault line fault.TooMany = HasTooMany line
IsLineFault line fault.NoMemory = Unit {0}
IsLineFault line _ = ⊥

-- why a line that is not read as fields is no request
abbrev pub fault_of : FieldFault → RequestFault
fault_of (field_fault.Quote column) = fault.Quote column
fault_of field_fault.TooMany = fault.TooMany
fault_of field_fault.NoMemory = fault.NoMemory
