-- Slots that are added one after the other.
use Rattle.std.proofs.Common.{◌≡◌, ℕ, ◌<◌, ◌||◌, Bool, true, false, true≢false, List, [], ◌++◌, length, slice_get, Option, Some, None, refl, sym, ap, ◌∙◌, append_assoc, append-nil}
use Rattle.std.specs.Prelude.{nat_eq}
use Rattle.std.specs.List.{list_any}
use Rattle.std.specs.Option.{option_map_or}
use Rattle.std.proofs.lemmas.List.Elements.{All-append, All-nil}
use Rattle.std.proofs.lemmas.List.Folds.{list_any-append}
use Rattle.policy_table.specs.Tables.{Fields}
use Rattle.policy_index.specs.Found.{AddsSlots}

pub slots_none : (test : Fields → Bool) (by_slot : List Fields) (slots : List ℕ) → ((fields : Fields) → test fields ≡ false) → AddsSlots test by_slot slots slots
slots_none test by_slot slots none = record {
  more = [];
  behind = sym (append-nil slots);
  within = All-nil (λ (slot : ℕ). slot < length by_slot);
  each = λ slot passes. by (slice_get by_slot slot) passes;
}
  where
    by : {P : Type 0} (o : Option Fields) → option_map_or test o false ≡ true → P
    by None passes = absurd (true≢false (sym passes))
    by (Some fields) passes = absurd (true≢false (sym passes ∙ none fields))

pub slots_both : (p q r : Fields → Bool) (by_slot : List Fields) (old mid new : List ℕ) → ((fields : Fields) → r fields ≡ (p fields || q fields)) → AddsSlots p by_slot old mid → AddsSlots q by_slot mid new → AddsSlots r by_slot old new
slots_both p q r by_slot old mid new either first second = record {
  more = first.more ++ second.more;
  behind = second.behind ∙ ap (λ (l : List ℕ). l ++ second.more) first.behind ∙ append_assoc old first.more second.more;
  within = All-append (λ (slot : ℕ). slot < length by_slot) first.more second.more first.within second.within;
  each = λ slot passes. list_any-append (nat_eq slot) first.more second.more ∙ by slot (slice_get by_slot slot) refl passes;
}
  where
    left : (a b : Bool) → a ≡ true → (a || b) ≡ true
    left true b is = refl
    left false b is = absurd (true≢false (sym is))

    right : (a b : Bool) → b ≡ true → (a || b) ≡ true
    right true b is = refl
    right false b is = is

    by : (slot : ℕ) (o : Option Fields) → slice_get by_slot slot ≡ o → option_map_or r o false ≡ true → (list_any (nat_eq slot) first.more || list_any (nat_eq slot) second.more) ≡ true
    by slot None there passes = absurd (true≢false (sym passes))
    by slot (Some fields) there passes = split (p fields) refl (sym (either fields) ∙ passes)
      where
        split : (b : Bool) → p fields ≡ b → (b || q fields) ≡ true → (list_any (nat_eq slot) first.more || list_any (nat_eq slot) second.more) ≡ true
        split true is any = left (list_any (nat_eq slot) first.more) (list_any (nat_eq slot) second.more) (first.each slot (ap (λ (x : Option Fields). option_map_or p x false) there ∙ is))
        split false is any = right (list_any (nat_eq slot) first.more) (list_any (nat_eq slot) second.more) (second.each slot (ap (λ (x : Option Fields). option_map_or q x false) there ∙ any))

pub slots_weaker : (p q : Fields → Bool) (by_slot : List Fields) (old new : List ℕ) → ((fields : Fields) → q fields ≡ true → p fields ≡ true) → AddsSlots p by_slot old new → AddsSlots q by_slot old new
slots_weaker p q by_slot old new weaker adds = record {
  more = adds.more;
  behind = adds.behind;
  within = adds.within;
  each = λ slot passes. adds.each slot (by (slice_get by_slot slot) passes);
}
  where
    by : (o : Option Fields) → option_map_or q o false ≡ true → option_map_or p o false ≡ true
    by None passes = passes
    by (Some fields) passes = weaker fields passes
